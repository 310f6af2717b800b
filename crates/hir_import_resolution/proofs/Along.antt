-- Steps along globs are steps of imports.
use Rattle.std.proofs.Common.{◌≡◌, ◌∙◌, ap, sym, subst, refl, ℕ, List, [], ◌∷◌, map as list_map, arith}
use Rattle.std.specs.Prelude.{Contains, zero, suc, ◌<◌, length, slice_index_or}
use Rattle.std.proofs.lemmas.List.Elements.{Contains-append_left, Contains-append_right}
use Rattle.hir_def_map_rules.specs.Overlay.{Maps}
use Rattle.hir_def_map_rules.specs.State.{Local}
use Rattle.hir_nameres.specs.declared.nameres.path_resolution.slots.Slot.{Slot as PathSlot}
use Rattle.hir_def_map_laws.specs.SlotChanges.{ScopesChangeAmong}
use Rattle.hir_glob_imports.specs.Keys.{name_of}
use Rattle.hir_glob_imports.specs.Rules.{Act, GlobState, May as MayAlong, IsSpent as IsSpentAlong, Rule as GlobRule, Step as StepAlong, Steps as StepsAlong}
use Rattle.hir_glob_imports.specs.Rules.{StepsIn, act as act_along, acts as acts_along, after as after_along, copies, brings, follows, raises, copies_along}
use Rattle.hir_glob_imports.specs.Rules.{follows_along, raises_along, more as more_along, more_in, none as none_along, none_in, perform as perform_along}
use Rattle.hir_glob_imports.specs.Rules.{slot_of, ticked as ticked_along}
use Rattle.hir_glob_imports.specs.declared.edge.Slot.{Slot}
use Rattle.hir_import_rules.specs.Changes.{along, perform}
use Rattle.hir_import_resolution.specs.Inner.State.{path_slots, slots_named}
use Rattle.hir_import_rules.specs.Names.{ScopesValue, scope_table, view_of}
use Rattle.hir_import_rules.specs.Rest.{IsSpent}
use Rattle.hir_import_rules.specs.Rules.{Step, Steps, goes_along, more, none}
use Rattle.hir_import_resolution.specs.Scopes.{open_table, value_of}
use Rattle.hir_import_rules.specs.State.{ImportState, glob_state, scopes_of, ticked, with_glob_state}
use Rattle.hir_import_resolution.specs.Types.{OpenScopes}
use Rattle.hir_import_resolution.proofs.Writes.{Writes, again, copies_write, follows_write, raises_write, stays, wider}
use Rattle.hir_import_resolution.specs.Inner.OpenLaws.{copies_kept, follows_kept}

-- ---- what a step along a glob changes

-- a step changes what stands in its slot
step_writes : (g : GlobState ScopesValue) (rule : GlobRule) → Writes (slot_of rule).at (slot_of rule).key g.names (after_along scope_table g rule).names
step_writes g (copies_along j e s b) = copies_write g.names s e.source _ e.id
step_writes g (follows_along j e s b) = follows_write g.names s e.source _
step_writes g (raises_along j e s vis) = raises_write g.names s vis

-- and no edge
step_edges : (g : GlobState ScopesValue) (rule : GlobRule) → (after_along scope_table g rule).edges ≡ g.edges
step_edges g (copies_along j e s b) = refl
step_edges g (follows_along j e s b) = refl
step_edges g (raises_along j e s vis) = refl

-- ---- as the resolver's scopes are written

-- the state of globs over what the scopes hold
abbrev pub shown : GlobState OpenScopes → GlobState ScopesValue
shown g = record { names = value_of g.names; edges = g.edges; brought = g.brought; count = g.count }

act_shown : (g : GlobState OpenScopes) (a : Act) → shown (act_along open_table g a) ≡ act_along scope_table (shown g) a
act_shown g (copies s of vis by) = ap (λ (n : ScopesValue). record (shown g) { names = n }) (copies_kept g.names s of vis by)
act_shown g (brings s by) = refl
act_shown g (follows s of vis) = ap (λ (n : ScopesValue). record (shown g) { names = n }) (follows_kept g.names s of vis)
act_shown g (raises s vis) = refl

performed_shown : (g : GlobState OpenScopes) (changes : List Act) → shown (perform_along open_table g changes) ≡ perform_along scope_table (shown g) changes
performed_shown g [] = refl
performed_shown g (a ∷ changes) =
    performed_shown (act_along open_table g a) changes ∙ ap (λ (x : GlobState ScopesValue). perform_along scope_table x changes) (act_shown g a)

may_shown : (g : GlobState OpenScopes) (rule : GlobRule) → MayAlong open_table g rule → MayAlong scope_table (shown g) rule
may_shown g (copies_along j e s b) may = may
may_shown g (follows_along j e s b) may = may
may_shown g (raises_along j e s vis) may = may

pub step_shown : (old new : GlobState OpenScopes) (step : StepAlong open_table old new) → StepAlong scope_table (shown old) (shown new)
step_shown old new step = record {
  rule = step.rule;
  may = may_shown old step.rule step.may;
  is = ap shown step.is ∙ ap ticked_along (performed_shown old (acts_along (view_of (value_of old.names)) step.rule));
}

pub steps_in_shown : (slots : List Slot) (from to : GlobState OpenScopes) → StepsIn open_table slots from to → StepsIn scope_table slots (shown from) (shown to)
unfolding step_shown
steps_in_shown slots from to none_in = none_in
steps_in_shown slots from to (more_in old new before step is_among) =
    more_in (shown old) (shown new) (steps_in_shown slots from old before) (step_shown old new step) is_among

steps_shown : (from to : GlobState OpenScopes) → StepsAlong open_table from to → StepsAlong scope_table (shown from) (shown to)
steps_shown from to none_along = none_along
steps_shown from to (more_along old new before step) = more_along (shown old) (shown new) (steps_shown from old before) (step_shown old new step)

pub spent_shown : (from : GlobState OpenScopes) → IsSpentAlong open_table from → IsSpentAlong scope_table (shown from)
spent_shown from spent = record {
  at = shown spent.at;
  steps = steps_shown from spent.at spent.steps;
  next = shown spent.next;
  step = step_shown spent.at spent.next spent.step;
  full = spent.full;
}

-- the part of a world stays
act_world : (g : GlobState OpenScopes) (a : Act) → (act_along open_table g a).names.world ≡ g.names.world
act_world g (copies s of vis by) = refl
act_world g other = refl

perform_world : (g : GlobState OpenScopes) (changes : List Act) → (perform_along open_table g changes).names.world ≡ g.names.world
perform_world g [] = refl
perform_world g (a ∷ changes) = perform_world (act_along open_table g a) changes ∙ act_world g a

pub world_stays : (slots : List Slot) (from to : GlobState OpenScopes) → StepsIn open_table slots from to → to.names.world ≡ from.names.world
world_stays slots from to none_in = refl
world_stays slots from to (more_in old new before step is_among) =
    ap (λ (x : GlobState OpenScopes). x.names.world) step.is ∙ perform_world old (acts_along (view_of (value_of old.names)) step.rule) ∙ world_stays slots from
    old before

-- ---- as a step of imports

module _ (finished : Maps) where
  act_finished : (g : GlobState ScopesValue) (a : Act) → (act_along scope_table g a).names.finished ≡ g.names.finished
  act_finished g (copies s of vis by) = (copies_write g.names s of vis by).finished
  act_finished g (brings s by) = refl
  act_finished g (follows s of vis) = (follows_write g.names s of vis).finished
  act_finished g (raises s vis) = refl

  -- the state of globs, of a state with another such part
  inside : (s : ImportState) (g : GlobState ScopesValue) → g.names.finished ≡ finished → glob_state finished (with_glob_state s g) ≡ g
  inside s g same =
      λ i. record { names = record { finished = sym same i; map = g.names.map; globs = g.names.globs }; edges = g.edges; brought = g.brought; count = g.count }

  pub performed : (s : ImportState) (changes : List Act) → perform s (list_map (along finished) changes)
      ≡ with_glob_state s (perform_along scope_table (glob_state finished s) changes)
  performed s [] = refl
  performed s (a ∷ changes) =
      let next : GlobState ScopesValue = act_along scope_table (glob_state finished s) a in
      performed (with_glob_state s next) changes
      ∙ ap (λ (g : GlobState ScopesValue). with_glob_state s (perform_along scope_table g changes)) (inside s next (act_finished (glob_state finished s) a))

  -- a step along a glob is one of imports
  gone_along : (s : ImportState) (g : GlobState ScopesValue) → StepAlong scope_table (glob_state finished s) g → Step finished s (with_glob_state s g)
  gone_along s g step = record {
    rule = goes_along step.rule;
    may = step.may;
    is = ap (with_glob_state s) step.is ∙ ap ticked (sym (performed s (acts_along (view_of (scopes_of finished s)) step.rule)));
  }

  module _ (s : ImportState) where
    -- how far steps along globs have come from the state, where each changes a slot of a list
    pub record Goes (slots : List Slot) (g : GlobState ScopesValue) : Type 0 where
      pub finished_stays : g.names.finished ≡ finished
      pub edges : g.edges ≡ s.edges
      pub among : (local : Local) → ScopesChangeAmong s.map g.names.map local (path_slots slots)
      pub steps : Steps finished s (with_glob_state s g)

    -- the slot of a name is among those of the slots
    slot_among : (slots : List Slot) (q : Slot) → Contains slots q → (p : PathSlot) → Contains (slots_named q.at (name_of q.key)) p
        → Contains (path_slots slots) p
    slot_among [] q h p named = absurd (omega (arith, h.1))
    slot_among (x ∷ slots) q h p named = go h.0 h.1 h.2 (λ further. slot_among slots q further p named)
      where
        go : (k : ℕ) → k < length (x ∷ slots) → slice_index_or (x ∷ slots) k q ≡ q → (Contains slots q → Contains (path_slots slots) p)
            → Contains (path_slots (x ∷ slots)) p
        go zero low is below = Contains-append_left (slots_named x.at (name_of x.key)) (path_slots slots) p
            (subst (λ (y : Slot). Contains (slots_named y.at (name_of y.key)) p) (sym is) named)
        go (suc k) low is below = Contains-append_right (slots_named x.at (name_of x.key)) (path_slots slots) p (below (k, omega arith, is))

    one_more : (slots : List Slot) (old new : GlobState ScopesValue) (step : StepAlong scope_table old new) → Contains slots (slot_of step.rule)
        → Goes slots old → Goes slots new
    one_more slots old new step is_among goes = record {
      finished_stays = ap (λ (g : GlobState ScopesValue). g.names.finished) step.is ∙ writes.finished ∙ goes.finished_stays;
      edges = ap (λ (g : GlobState ScopesValue). g.edges) step.is ∙ step_edges old step.rule ∙ goes.edges;
      among = λ local. again s.map old.names.map new.names.map local (path_slots slots) (goes.among local) (changes local);
      steps = more (with_glob_state s old) (with_glob_state s new) goes.steps
          (gone_along (with_glob_state s old) new (subst (λ (g : GlobState ScopesValue). StepAlong scope_table g new) (sym (inside s old goes.finished_stays))
          step));
    }
      where
        writes : Writes (slot_of step.rule).at (slot_of step.rule).key old.names (after_along scope_table old step.rule).names
        writes = step_writes old step.rule

        changes : (local : Local) → ScopesChangeAmong old.names.map new.names.map local (path_slots slots)
        changes local = subst (λ (g : GlobState ScopesValue). ScopesChangeAmong old.names.map g.names.map local (path_slots slots)) (sym step.is)
            (wider old.names.map (after_along scope_table old step.rule).names.map local (slots_named (slot_of step.rule).at (name_of (slot_of step.rule).key))
            (path_slots slots)
            (slot_among slots (slot_of step.rule) is_among) (writes.among local))

    pub goes : (slots : List Slot) (to : GlobState ScopesValue) → StepsIn scope_table slots (glob_state finished s) to → Goes slots to
    goes slots to none_in = record { finished_stays = refl; edges = refl; among = λ local. stays s.map local (path_slots slots); steps = none }
    goes slots to (more_in old new before step is_among) = one_more slots old new step is_among (goes slots old before)

    -- the same of steps of which no slots are told
    pub record GoesOn (g : GlobState ScopesValue) : Type 0 where
      pub finished_stays : g.names.finished ≡ finished
      pub steps : Steps finished s (with_glob_state s g)

    one_further : (old new : GlobState ScopesValue) (step : StepAlong scope_table old new) → GoesOn old → GoesOn new
    one_further old new step on = record {
      finished_stays = ap (λ (g : GlobState ScopesValue). g.names.finished) step.is ∙ (step_writes old step.rule).finished ∙ on.finished_stays;
      steps = more (with_glob_state s old) (with_glob_state s new) on.steps
          (gone_along (with_glob_state s old) new (subst (λ (g : GlobState ScopesValue). StepAlong scope_table g new) (sym (inside s old on.finished_stays))
          step));
    }

    goes_on : (to : GlobState ScopesValue) → StepsAlong scope_table (glob_state finished s) to → GoesOn to
    goes_on to none_along = record { finished_stays = refl; steps = none }
    goes_on to (more_along old new before step) = one_further old new step (goes_on old before)

    -- where globs might have gone on, imports might have
    pub spent_along : IsSpentAlong scope_table (glob_state finished s) → IsSpent finished s
    spent_along spent =
        let on = goes_on spent.at spent.steps in
        record {
          at = with_glob_state s spent.at;
          steps = on.steps;
          next = with_glob_state s spent.next;
          step =
              gone_along (with_glob_state s spent.at) spent.next (subst (λ (g : GlobState ScopesValue). StepAlong scope_table g spent.next)
              (sym (inside s spent.at on.finished_stays)) spent.step);
          full = omega (arith, spent.full);
        }
