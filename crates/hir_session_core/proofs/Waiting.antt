-- Blocks in their turn: resolving one makes only deeper ones due.
use Rattle.std.specs.Prelude.{is_none, cond, map, nat_lt, if◌then◌else◌}
use Rattle.std.proofs.Common.{◌≡◌, ◌≢◌, inl, inr, ℕ, zero, suc, ◌+◌, ◌<◌, ◌≤◌, Bool, true, false, IsTrue, List, [], ◌∷◌, ◌++◌, length, arith, refl, sym, subst}
use Rattle.std.proofs.Common.{◌∙◌, ap, Option, Some, None, option_map, Contains, append-nil, append_assoc}
use Rattle.std.specs.Option.{option_and_then}
use Rattle.std.specs.List.{AllByRecursion}
use Rattle.std.specs.List.Sorted.{IsStrictlySortedBy}
use Rattle.std.specs.Cmp.{tied_itself}
use Rattle.std.specs.Ordering.{is_le}
use Rattle.std.specs.declared.cmp.Ordering.{Ordering}
use Rattle.std.specs.declared.cmp.Ordering.TheVariants.{Less}
use Rattle.std.proofs.lemmas.List.{map-append}
use Rattle.std.proofs.lemmas.List.Elements.{Contains-append_right, Contains-append_cases}
use Rattle.std.proofs.lemmas.Bool.{ltb-true}
use Rattle.hir_session_state.specs.HirBase.Place.{PlaceValue}
use Rattle.hir_session_state.specs.HirIds.contracts.ids.MapIdPartialEq.TheImpl as map_id
use Rattle.hir_session_state.specs.HirIds.declared.ast_id.BlockId.{BlockId}
use Rattle.hir_session_state.specs.HirBase.declared.place.BlockPlace.{BlockPlace}
use Rattle.hir_session_state.specs.HirIds.declared.ids.Crate.{Crate}
use Rattle.hir_session_state.specs.HirIds.declared.ids.MapId.{MapId}
use Rattle.hir_session_state.specs.HirIds.declared.ids.ModuleId.{ModuleId}
use Rattle.hir_session_state.specs.HirBase.declared.place.PlaceElement.{PlaceElement}
use Rattle.hir_session_state.specs.HirBase.declared.place.PlaceElement.TheVariants as element
use Rattle.hir_session_state.specs.HirDefMapRules.State.{child_at, crate_map, root_of}
use Rattle.hir_session_state.specs.HirTables.Tables.{block_at}
use Rattle.hir_session_state.specs.HirMessages.declared.reply.Status.TheVariants as status
use Rattle.hir_session_state.specs.Blocks.{block_cmp, nesting_of, place_of_block}
use Rattle.hir_session_state.specs.Crates.{CrateValue, id_of}
use Rattle.hir_session_state.specs.Due.{Grows, HasOverlongRun, IsDueBlock, IsDueCrate, IsNext, IsStuckAt}
use Rattle.hir_session_state.specs.Due.IsNext.{crate as next_crate, block as next_block}
use Rattle.hir_session_state.specs.Kept.{Resolution, Resolutions, kept_in}
use Rattle.hir_session_state.specs.SessionState.{SessionState, block_kept, is_marked, kept_of, standing_of, IsSound}
use Rattle.hir_session_state.specs.SourceTable.{SourceTable}
use Rattle.hir_session_state.specs.Standing.{Standing, block_below, block_map, block_number, child_kept, down, from_crate, is_set, kept_block, module_by, step}
use Rattle.hir_session_state.specs.Standing.{to_child, to_root}
use Rattle.hir_session_state.specs.Standing.Standing.{at, lacks, stale, unset}
use Rattle.hir_session_state.proofs.Places.{block_total, nesting_below, nesting_first, no_deeper, number_means}
use Rattle.hir_session_state.proofs.Standing.{down-append, kept_block_grown, kept_gives, standing_grown, to_block_at, to_child_at, unmarked}
use Rattle.hir_session_state.proofs.Truth.{clash, no_value, on_bool, one_value}
use Rattle.hir_session_sources.proofs.BlockLemmas.{same_root}
use Rattle.hir_session_answers.specs.Status.{status_by, status_of}
use Rattle.hir_session_core.specs.Progress.{pending_of, AreCratesCurrent, AreNotDue, HasAllPending, HasResolved, IsBlockResolved, IsRefreshed, IsResolvedAt}
use Rattle.hir_session_core.specs.Progress.IsRefreshed.{left, resolved}
use Rattle.hir_session_core.specs.contracts.session.pending.PendingBlockOrd.TheImpl as pending_order
use Rattle.hir_session_core.specs.declared.session.pending.PendingBlock.{PendingBlock}
use Rattle.hir_session_core.proofs.Due.{grows_not, resolved_more, resolves_grown}
use Rattle.hir_session_state.specs.Changes.{Refreshes, RefreshesPartly}

-- ---- places of blocks

abbrev depth : BlockPlace → ℕ
depth b = nesting_of (place_of_block b).elements

-- a name behind steps leads into no more blocks
nesting_beside : (steps : List PlaceElement) (name : List ℕ) → nesting_of (steps ++ element.Module name ∷ []) ≡ nesting_of steps
nesting_beside [] name = refl
nesting_beside (element.Module n ∷ more) name = nesting_beside more name
nesting_beside (element.Block b ∷ more) name = ap suc (nesting_beside more name)

-- ---- as tables grow

module _ (old new : SessionState) (sound : IsSound old) (grown : Grows old new) where
  same_mark : (id : MapId) → is_marked new id ≡ is_marked old id
  same_mark id = ap (λ (kept : Resolutions). is_none (kept_in kept id)) grown.kept

  pub same_block : (b : BlockPlace) → block_kept new b ≡ block_kept old b
  same_block b = ap (λ (kept : Resolutions). kept_block new.tables kept b) grown.kept ∙ kept_block_grown old sound new.tables grown.tables b

  pub same_standing : (place : PlaceValue) → standing_of new place ≡ standing_of old place
  same_standing place =
      (λ i. standing_of (record { crates = new.crates; tables = new.tables; sources = grown.sources i; kept = grown.kept i }) place)
      ∙ standing_grown old sound new.tables grown.tables place

  same_set : (b : BlockPlace) → is_set new.sources.blocks b ≡ is_set old.sources.blocks b
  same_set b = ap (λ (t : SourceTable). is_set t.blocks b) grown.sources

  due_before : (b : BlockPlace) → IsDueBlock new b → IsDueBlock old b
  due_before b due = record {
    set = sym (same_set b) ∙ due.set;
    marked = sym (same_block b) ∙ due.marked;
    holder = due.holder;
    held = ap module_by (sym (same_standing b.holder)) ∙ due.held;
  }

  due_after : (b : BlockPlace) → IsDueBlock old b → IsDueBlock new b
  due_after b due = record {
    set = same_set b ∙ due.set;
    marked = same_block b ∙ due.marked;
    holder = due.holder;
    held = ap module_by (same_standing b.holder) ∙ due.held;
  }

  crate_before : (k : ℕ) → IsDueCrate new k → IsDueCrate old k
  crate_before k due = record {
    within = subst (λ (cs : List CrateValue). k < length cs) grown.crates due.within;
    marked = sym (same_mark (id_of k)) ∙ due.marked;
  }

  crate_after : (k : ℕ) → IsDueCrate old k → IsDueCrate new k
  crate_after k due = record {
    within = subst (λ (cs : List CrateValue). k < length cs) (sym grown.crates) due.within;
    marked = same_mark (id_of k) ∙ due.marked;
  }

  -- what is next still is
  pub next_after : (place : PlaceValue) → IsNext old place → IsNext new place
  next_after place (next_crate k due lesser is) = next_crate k (crate_after k due) (λ j low d. lesser j low (crate_before j d)) is
  next_after place (next_block b none due first is) = next_block b (λ k d. none k (crate_before k d)) (due_after b due) (λ c d. first c (due_before c d)) is

-- ---- once a block was resolved

module _ (old new : SessionState) (sound : IsSound old) (b : BlockPlace) (p : IsBlockResolved old b new) where
  abbrev own : MapId
  own = block_map b.holder.krate p.number

  -- something is kept of it
  pub kept_here : block_kept new b ≡ Some p.found
  kept_here = ap (option_and_then (λ (n : BlockId). kept_in new.kept (block_map b.holder.krate n))) p.numbered ∙ p.resolved.here

  -- it was resolved at its place
  pub at_place : IsResolvedAt old (place_of_block b) new
  at_place = record {
    id = own;
    found = p.found;
    of = ap (option_map place_of_block) (number_means new.tables b p.number p.numbered);
    marked = p.marked;
    resolved = p.resolved;
  }

  -- of each other block what was
  kept_other : (c : BlockPlace) → c ≢ b → block_kept new c ≡ block_kept old c
  kept_other c ne = go (block_number new.tables c) refl ∙ kept_block_grown old sound new.tables p.resolved.tables c
    where
      apart : (n : BlockId) → block_number new.tables c ≡ Some n → block_map c.holder.krate n ≢ own
      apart n is e =
          let number : n ≡ p.number = one_value (ap (λ (x : MapId). x.block) e) in
          ne (one_value (sym (number_means new.tables c n is) ∙ ap (block_at new.tables) number ∙ number_means new.tables b p.number p.numbered))

      go : (o : Option BlockId) → block_number new.tables c ≡ o
          → option_and_then (λ (n : BlockId). kept_in new.kept (block_map c.holder.krate n)) o
          ≡ option_and_then (λ (n : BlockId). kept_in old.kept (block_map c.holder.krate n)) o
      go None is = refl
      go (Some n) is = p.resolved.others (block_map c.holder.krate n) (apart n is)

  set_as_before : (c : BlockPlace) → is_set new.sources.blocks c ≡ is_set old.sources.blocks c
  set_as_before c = ap (λ (t : SourceTable). is_set t.blocks c) p.resolved.sources

  -- what was unmarked is as it was
  stays : (id : MapId) → is_marked old id ≡ false → kept_of new id ≡ kept_of old id
  stays id off = p.resolved.others id (λ e. clash p.marked (ap (is_marked old) (sym e) ∙ off))

  -- it leads into nothing that is marked
  abbrev IsUnmarkedAt : Standing → Type 0
  IsUnmarkedAt st = (m : ModuleId) → st ≡ at m → is_marked old m.map ≡ false

  unmarked_step : (krate : Crate) (before : List PlaceElement) (st : Standing) (e : PlaceElement) → IsUnmarkedAt st
      → IsUnmarkedAt (step old.tables old.sources.blocks old.kept krate before st e)
  unmarked_step krate before (at n) (element.Module name) off = λ m leads.
      subst (λ (x : MapId). is_marked old x ≡ false) (sym (to_child_at n.map (child_kept old.kept n name) m leads).1) (off n refl)
  unmarked_step krate before (at n) (element.Block id) off = λ m leads.
      let c = to_block_at old.tables old.sources.blocks old.kept (block_below krate before id) m leads in
      let is_own : m.map ≡ block_map krate c.number = sym (ap (λ (x : ModuleId). x.map) c.root) ∙
      (kept_gives old sound (block_map krate c.number) c.found c.is).own in
      subst (λ (x : MapId). is_marked old x ≡ false) (sym is_own) (unmarked old (block_map krate c.number) c.found c.is)
  unmarked_step krate before (lacks id) (element.Module name) off = λ m leads. absurd (let no : ⊥ = cc in no)
  unmarked_step krate before (lacks id) (element.Block c) off = λ m leads. absurd (let no : ⊥ = cc in no)
  unmarked_step krate before stale (element.Module name) off = λ m leads. absurd (let no : ⊥ = cc in no)
  unmarked_step krate before stale (element.Block id) off = λ m leads. go (is_set old.sources.blocks (block_below krate before id)) m leads
    where
      go : (t : Bool) (m : ModuleId) → cond t stale unset ≡ at m → is_marked old m.map ≡ false
      go true m f = absurd (let no : ⊥ = cc in no)
      go false m f = absurd (let no : ⊥ = cc in no)
  unmarked_step krate before unset (element.Module name) off = λ m leads. absurd (let no : ⊥ = cc in no)
  unmarked_step krate before unset (element.Block c) off = λ m leads. absurd (let no : ⊥ = cc in no)

  -- a step that doesn't lead into it leads where it led
  step_alike : (krate : Crate) (before : List PlaceElement) (st : Standing) (e : PlaceElement) → IsUnmarkedAt st → nesting_of before + nesting_of (e ∷ []) <
      depth b
      → step new.tables new.sources.blocks new.kept krate before st e ≡ step old.tables old.sources.blocks old.kept krate before st e
  step_alike krate before (at m) (element.Module name) off less =
      ap (λ (o : Option Resolution). to_child m.map (option_and_then (λ (r : Resolution). child_at r.map m.index name) o)) (stays m.map (off m refl))
  step_alike krate before (at m) (element.Block id) off less =
      let c : BlockPlace = block_below krate before id in
      let deep : depth c ≡ suc (nesting_of before) = nesting_below before id in
      let ne : c ≢ b = λ e. let same : depth c ≡ depth b = ap depth e in absurd (omega arith) in
      (λ i. cond (set_as_before c i) (to_root (kept_other c ne i)) unset)
  step_alike krate before (lacks id) (element.Module name) off less = refl
  step_alike krate before (lacks id) (element.Block c) off less = refl
  step_alike krate before stale (element.Module name) off less = refl
  step_alike krate before stale (element.Block id) off less = ap (λ (t : Bool). cond t stale unset) (set_as_before (block_below krate before id))
  step_alike krate before unset (element.Module name) off less = refl
  step_alike krate before unset (element.Block c) off less = refl

  nesting_behind : (before : List PlaceElement) (e : PlaceElement) → nesting_of (before ++ e ∷ []) ≡ nesting_of before + nesting_of (e ∷ [])
  nesting_behind before (element.Module name) =
      let none : nesting_of (before ++ element.Module name ∷ []) ≡ nesting_of before = nesting_beside before name in omega arith
  nesting_behind before (element.Block id) =
      let one : nesting_of (before ++ element.Block id ∷ []) ≡ suc (nesting_of before) = nesting_below before id in omega arith

  down_alike : (krate : Crate) (before : List PlaceElement) (st : Standing) (steps : List PlaceElement) → IsUnmarkedAt st → nesting_of before + nesting_of steps
      < depth b
      → down new.tables new.sources.blocks new.kept krate before st steps ≡ down old.tables old.sources.blocks old.kept krate before st steps
  down_alike krate before st [] off less = refl
  down_alike krate before st (e ∷ more) off less =
      let sum : nesting_of (e ∷ more) ≡ nesting_of (e ∷ []) + nesting_of more = nesting_first e more in
      let behind : nesting_of (before ++ e ∷ []) ≡ nesting_of before + nesting_of (e ∷ []) = nesting_behind before e in
      ap (λ (x : Standing). down new.tables new.sources.blocks new.kept krate (before ++ e ∷ []) x more) (step_alike krate before st e off (omega arith))
      ∙ down_alike krate (before ++ e ∷ []) (step old.tables old.sources.blocks old.kept krate before st e) more (unmarked_step krate before st e off)
      (omega arith)

  -- steps into fewer blocks lead where they led
  standing_alike : (place : PlaceValue) → nesting_of place.elements < depth b → standing_of new place ≡ standing_of old place
  standing_alike place less =
      ap (λ (o : Option Resolution). from_crate new.tables new.sources.blocks new.kept o place)
      (p.resolved.others (crate_map place.krate) (λ e. no_value (ap (λ (x : MapId). x.block) e)))
      ∙ go (kept_of old (crate_map place.krate)) refl
    where
      go : (o : Option Resolution) → kept_of old (crate_map place.krate) ≡ o → from_crate new.tables new.sources.blocks new.kept o place
          ≡ from_crate old.tables old.sources.blocks old.kept o place
      go None is = refl
      go (Some r) is = down_alike place.krate [] (at (root_of r.map.id)) place.elements
          (λ m leads.
          let first : root_of r.map.id ≡ m = cc in
          let is_own : m.map ≡ crate_map place.krate = sym (ap (λ (x : ModuleId). x.map) first) ∙ (kept_gives old sound (crate_map place.krate) r is).own in
          subst (λ (x : MapId). is_marked old x ≡ false) (sym is_own) (unmarked old (crate_map place.krate) r is))
          (let few : nesting_of place.elements < depth b = less in omega arith)

  -- what is due then and is no deeper was due
  pub was_due : (c : BlockPlace) → depth c ≤ depth b → IsDueBlock new c → IsDueBlock old c
  was_due c shallow due =
      let ne : c ≢ b = λ e. no_value (sym due.marked ∙ ap (block_kept new) e ∙ kept_here) in
      let deep : depth c ≡ suc (nesting_of c.holder.elements) = nesting_below c.holder.elements c.id in
      record {
        set = sym (set_as_before c) ∙ due.set;
        marked = sym (kept_other c ne) ∙ due.marked;
        holder = due.holder;
        held = ap module_by (sym (standing_alike c.holder (omega arith))) ∙ due.held;
      }

  pub not_due : ¬ IsDueBlock new b
  not_due due = no_value (sym due.marked ∙ kept_here)

  -- what isn't resolved then wasn't before
  pub still_pending : (pending : List PendingBlock) → HasAllPending old pending → HasAllPending new pending
  still_pending pending so_far = record {
    all = λ c set marked.
        let ne : c ≢ b = λ e. no_value (sym marked ∙ ap (block_kept new) e ∙ kept_here) in
        so_far.all c (sym (set_as_before c) ∙ set) (sym (kept_other c ne) ∙ marked);
    own = so_far.own;
  }

  pub crates_still : AreCratesCurrent old → AreCratesCurrent new
  crates_still current k within =
      let was = current k (subst (λ (cs : List CrateValue). k < length cs) p.resolved.crates within) in
      ap (λ (o : Option Resolution). is_none o) (stays (id_of k) was) ∙ was

-- ---- in order

at_each : {A : Type 0} (P : A → Type 0) (xs : List A) → AllByRecursion P xs → (x : A) → Contains xs x → P x
at_each P [] all x h = absurd (let past : h.0 < 0 = h.1 in omega arith)
at_each P (y ∷ ys) all x (zero, within, is) = subst P is all.0
at_each P (y ∷ ys) all x (suc n, within, is) = at_each P ys all.1 x (n, omega arith, is)

-- in a sorted list what stands before another comes before it
sorted_before : {A : Type 0} (cmp : A → A → Ordering) (before : List A) (p : A) (after : List A) → IsStrictlySortedBy cmp (before ++ p ∷ after)
    → (x : A) → Contains before x → cmp x p ≡ Less
unfolding IsStrictlySortedBy
sorted_before cmp [] p after sorted x h = absurd (let past : h.0 < 0 = h.1 in omega arith)
sorted_before cmp (y ∷ ys) p after sorted x (zero, within, is) =
    subst (λ (z : _). cmp z p ≡ Less) is (at_each (λ (z : _). cmp y z ≡ Less) (ys ++ p ∷ after) sorted.0 p
    (Contains-append_right ys (p ∷ after) p (zero, omega arith, refl)))
sorted_before cmp (y ∷ ys) p after sorted x (suc n, within, is) = sorted_before cmp ys p after sorted.1 x (n, omega arith, is)

sorted_after : {A : Type 0} (cmp : A → A → Ordering) (before : List A) (p : A) (after : List A) → IsStrictlySortedBy cmp (before ++ p ∷ after)
    → (x : A) → Contains after x → cmp p x ≡ Less
unfolding IsStrictlySortedBy
sorted_after cmp [] p after sorted x h = at_each (λ (z : _). cmp p z ≡ Less) after sorted.0 x h
sorted_after cmp (y ∷ ys) p after sorted x h = sorted_after cmp ys p after sorted.1 x h

abbrev pending_cmp : PendingBlock → PendingBlock → Ordering
pending_cmp = pending_order.ghosts.cmp

-- pending blocks are in the order in which blocks are resolved
in_order : (b c : BlockPlace) → pending_cmp (pending_of (place_of_block b)) (pending_of (place_of_block c)) ≡ Less → IsTrue (is_le (block_cmp b c))
in_order b c less = ap is_le less

of_place : (b : BlockPlace) (place : PlaceValue) → place_of_block b ≡ place → pending_of (place_of_block b) ≡ pending_of place
of_place b place e = ap pending_of e

own_place : (x : PendingBlock) (place : PlaceValue) → pending_of place ≡ x → place ≡ x.place
own_place x place e = ap (λ (y : PendingBlock). y.place) e

-- ---- one turn

module _ (s : SessionState) (sound : IsSound s) (pending : List PendingBlock) (before after : List PendingBlock) (p : PendingBlock)
    (split : before ++ p ∷ after ≡ pending) (sorted : IsStrictlySortedBy pending_cmp pending) (all : HasAllPending s pending) (passed : AreNotDue s before)
    (current : AreCratesCurrent s) where
  ordered : IsStrictlySortedBy pending_cmp (before ++ p ∷ after)
  ordered = subst (λ (ks : List PendingBlock). IsStrictlySortedBy pending_cmp ks) (sym split) sorted

  no_crate : (k : ℕ) → ¬ IsDueCrate s k
  no_crate k due = clash due.marked (current k due.within)

  own_turn : p ≡ pending_of p.place
  own_turn = all.own p (subst (λ (ks : List PendingBlock). Contains ks p) split (Contains-append_right before (p ∷ after) p (zero, omega arith, refl)))

  -- where the block is due it is next
  pub turn_next : (b : BlockPlace) → place_of_block b ≡ p.place → IsDueBlock s b → IsNext s p.place
  turn_next b of due = next_block b no_crate due first (sym of)
    where
      is_own : pending_of (place_of_block b) ≡ p
      is_own = of_place b p.place of ∙ sym own_turn

      first : (c : BlockPlace) → IsDueBlock s c → IsTrue (is_le (block_cmp b c))
      first c d = elim (Contains-append_cases before (p ∷ after) (pending_of (place_of_block c))
          (subst (λ (ks : List PendingBlock). Contains ks (pending_of (place_of_block c))) (sym split) (all.all c d.set d.marked))) [
            | inl early ↦ absurd (passed c early d)
            | inr later ↦ here_or later
          ]
        where
          le_itself : (x : BlockPlace) → IsTrue (is_le (block_cmp x x))
          le_itself x = ap is_le (tied_itself block_total x)

          here_or : Contains (p ∷ after) (pending_of (place_of_block c)) → IsTrue (is_le (block_cmp b c))
          here_or (zero, within, is) =
              let same : b ≡ c = same_root b c (own_place (pending_of (place_of_block c)) (place_of_block b) (is_own ∙ is)) in
              subst (λ (x : BlockPlace). IsTrue (is_le (block_cmp b x))) same (le_itself b)
          here_or (suc n, within, is) =
              in_order b c (subst (λ (x : PendingBlock). pending_cmp x (pending_of (place_of_block c)) ≡ Less) (sym is_own)
              (sorted_after pending_cmp before p after ordered (pending_of (place_of_block c)) (n, (omega arith), is)))

  -- what wasn't due and comes before isn't due then either
  turn_passed : (new : SessionState) (b : BlockPlace) → place_of_block b ≡ p.place → IsBlockResolved s b new → AreNotDue new (before ++ p ∷ [])
  turn_passed new b of came c among due = elim (Contains-append_cases before (p ∷ []) (pending_of (place_of_block c)) among) [
    | inl early ↦ passed c early (was_due s new sound b came c
        (no_deeper c b (in_order c b (subst (λ (x : PendingBlock). pending_cmp (pending_of (place_of_block c)) x ≡ Less)
        (own_turn ∙ sym (of_place b p.place of)) (sorted_before pending_cmp before p after ordered (pending_of (place_of_block c)) early)))) due)
    | inr last ↦ itself last
  ]
    where
      itself : Contains (p ∷ []) (pending_of (place_of_block c)) → ⊥
      itself (zero, within, is) =
          let same : c ≡ b = same_root c b (sym (own_place (pending_of (place_of_block c)) p.place (sym own_turn ∙ is)) ∙ sym of) in
          not_due s new sound b came (subst (λ (x : BlockPlace). IsDueBlock new x) same due)
      itself (suc n, within, is) = absurd (omega arith)

  turn_left : ((b : BlockPlace) → place_of_block b ≡ p.place → ¬ IsDueBlock s b) → AreNotDue s (before ++ p ∷ [])
  turn_left none c among due = elim (Contains-append_cases before (p ∷ []) (pending_of (place_of_block c)) among) [
    | inl early ↦ passed c early due
    | inr last ↦ itself last
  ]
    where
      itself : Contains (p ∷ []) (pending_of (place_of_block c)) → ⊥
      itself (zero, within, is) = none c (sym (ap (λ (x : PendingBlock). x.place) is)) due
      itself (suc n, within, is) = absurd (omega arith)

-- ---- all turns

-- what is left once these were looked at, from a state in which the places before them were resolved
pub record IsInTurn (from : SessionState) (before : List PlaceValue) (pending : List PendingBlock) (looked rest : List PendingBlock) (now : SessionState)
    (done : List PlaceValue)
    : Type 0 where
  pub split : looked ++ rest ≡ pending
  pub so_far : (first : SessionState) → HasResolved first before from → HasResolved first done now
  pub sound : IsSound now
  pub all : HasAllPending now pending
  pub passed : AreNotDue now looked
  pub current : AreCratesCurrent now
  pub sorted : IsStrictlySortedBy pending_cmp pending

-- none was looked at
pub in_turn-start : (s : SessionState) (before : List PlaceValue) (pending : List PendingBlock) → IsSound s → HasAllPending s pending → AreCratesCurrent s
    → IsStrictlySortedBy pending_cmp pending → IsInTurn s before pending [] pending s before
in_turn-start s before pending sound all current sorted = record {
  split = refl;
  so_far = λ first h. h;
  sound = sound;
  all = all;
  passed = λ b among due. absurd (let past : among.0 < 0 = among.1 in omega arith);
  current = current;
  sorted = sorted;
}

module _ (from : SessionState) (before : List PlaceValue) (pending : List PendingBlock) (looked rest : List PendingBlock) (p : PendingBlock)
    (now : SessionState) (done : List PlaceValue)
    (t : IsInTurn from before pending looked (p ∷ rest) now done) where
  split_behind : (looked ++ p ∷ []) ++ rest ≡ pending
  split_behind = append_assoc looked (p ∷ []) rest ∙ t.split

  -- one more was looked at
  pub in_turn-more : (new : SessionState) (after : List PlaceValue) → IsRefreshed now p.place done after new → IsInTurn from before pending (looked ++ p ∷ [])
      rest new after
  in_turn-more new after (left none same as_was) =
      subst (λ (s : SessionState). IsInTurn from before pending (looked ++ p ∷ []) rest s after) (sym same)
      (subst (λ (ps : List PlaceValue). IsInTurn from before pending (looked ++ p ∷ []) rest now ps) (sym as_was) (record {
        split = split_behind;
        so_far = t.so_far;
        sound = t.sound;
        all = t.all;
        passed = turn_left now t.sound pending looked rest p t.split t.sorted t.all t.passed t.current none;
        current = t.current;
        sorted = t.sorted;
      }))
  in_turn-more new after (resolved b of due came sound longer) =
      subst (λ (ps : List PlaceValue). IsInTurn from before pending (looked ++ p ∷ []) rest new ps) (sym longer) (record {
        split = split_behind;
        so_far =
            λ first h. resolved_more p.place new (t.so_far first h) sound (turn_next now t.sound pending looked rest p t.split t.sorted t.all t.passed t.current
            b of due)
            (subst (λ (place : PlaceValue). IsResolvedAt now place new) of (at_place now new t.sound b came));
        sound = sound;
        all = still_pending now new t.sound b came pending t.all;
        passed = turn_passed now t.sound pending looked rest p t.split t.sorted t.all t.passed t.current new b of came;
        current = crates_still now new t.sound b came t.current;
        sorted = t.sorted;
      })

  -- the run for one was given up
  pub in_turn-stuck : (new : SessionState) (b : BlockPlace) → place_of_block b ≡ p.place → IsDueBlock now b → Grows now new → IsStuckAt new p.place
      → HasOverlongRun new
  in_turn-stuck new b of due grown stuck = record {
    place = p.place;
    next = next_after now new t.sound grown p.place (turn_next now t.sound pending looked rest p t.split t.sorted t.all t.passed t.current b of due);
    stuck = stuck;
  }

-- those that were looked at, as the loop has them
pub in_turn-shown : {A : Type 0} (f : A → PendingBlock) (from : SessionState) (before : List PlaceValue) (xs : List A) (x : A) (pending : List PendingBlock)
    (rest : List PendingBlock) (now : SessionState)
    {done : List PlaceValue} → IsInTurn from before pending (map f xs ++ f x ∷ []) rest now done → IsInTurn from before pending (map f (xs ++ x ∷ [])) rest now
    done
in_turn-shown f from before xs x pending rest now {done} t =
    subst (λ (looked : List PendingBlock). IsInTurn from before pending looked rest now done) (sym (map-append f xs (x ∷ []))) t

-- some may be left where a refresh ends early
pub in_turn-partly : (from : SessionState) (before : List PlaceValue) (pending : List PendingBlock) (looked rest : List PendingBlock) (now : SessionState)
    (done : List PlaceValue)
    → IsInTurn from before pending looked rest now done → (new : SessionState) → Grows now new → (first : SessionState) → HasResolved first before from
    → RefreshesPartly first new
in_turn-partly from before pending looked rest now done t new grown first h = record { done = done; resolves = resolves_grown (t.so_far first h) grown }

-- where all were looked at, none is due
pub in_turn-end : (from : SessionState) (before : List PlaceValue) (pending : List PendingBlock) (looked : List PendingBlock) (now : SessionState)
    (done : List PlaceValue)
    → IsInTurn from before pending looked [] now done → (b : BlockPlace) → ¬ IsDueBlock now b
in_turn-end from before pending looked now done t b due =
    t.passed b (subst (λ (ks : List PendingBlock). Contains ks (pending_of (place_of_block b))) (sym t.split ∙ append-nil looked)
    (t.all.all b due.set due.marked)) due

-- ---- the end of a refresh

-- nothing is next
nothing_next : (s : SessionState) → AreCratesCurrent s → ((b : BlockPlace) → ¬ IsDueBlock s b) → (place : PlaceValue) → ¬ IsNext s place
nothing_next s current none place (next_crate k due lesser is) = clash due.marked (current k due.within)
nothing_next s current none place (next_block b quiet due first is) = none b due

pub refreshes_all : (old new : SessionState) (done : List PlaceValue) → HasResolved old done new → AreCratesCurrent new
    → ((b : BlockPlace) → ¬ IsDueBlock new b) → Refreshes old done new
refreshes_all old new done so_far current none = record {
  resolves = resolves_grown so_far (grows_not new so_far.sound);
  all = nothing_next new current none;
}

-- ---- no place is stale

module _ (s : SessionState) (current : AreCratesCurrent s) (none : (b : BlockPlace) → ¬ IsDueBlock s b) where
  -- a step from what isn't stale leads to what isn't
  fresh_step : (krate : Crate) (before : List PlaceElement) (st : Standing) (e : PlaceElement) → standing_of s (record { krate = krate; elements = before })
      ≡ st → st ≢ stale
      → step s.tables s.sources.blocks s.kept krate before st e ≢ stale
  fresh_step krate before (at m) (element.Module name) is fresh = go (child_kept s.kept m name)
    where
      checked : (b : Bool) (n : ModuleId) → cond b (at n) (lacks m.map) ≢ stale
      checked true n e = absurd (let no : ⊥ = cc in no)
      checked false n e = absurd (let no : ⊥ = cc in no)

      go : (o : Option ModuleId) → to_child m.map o ≢ stale
      go None e = absurd (let no : ⊥ = cc in no)
      go (Some n) e = checked (map_id.ghosts.eq n.map m.map) n e
  fresh_step krate before (at m) (element.Block id) is fresh =
      go (is_set s.sources.blocks (block_below krate before id)) refl (kept_block s.tables s.kept (block_below krate before id)) refl
    where
      go : (b : Bool) → is_set s.sources.blocks (block_below krate before id) ≡ b → (o : Option Resolution)
          → kept_block s.tables s.kept (block_below krate before id) ≡ o
          → cond b (to_root o) unset ≢ stale
      go true set None marked e = none (block_below krate before id) (record { set = set; marked = marked; holder = m; held = ap module_by is })
      go true set (Some r) kept e = absurd (let no : ⊥ = cc in no)
      go false set o kept e = absurd (let no : ⊥ = cc in no)
  fresh_step krate before (lacks id) e is fresh = λ same. absurd (let no : ⊥ = cc same in no)
  fresh_step krate before stale e is fresh = λ same. fresh refl
  fresh_step krate before unset e is fresh = λ same. absurd (let no : ⊥ = cc same in no)

  fresh_from : (krate : Crate) (r : Resolution) → kept_of s (crate_map krate) ≡ Some r → (before : List PlaceElement) (st : Standing) (more : List PlaceElement)
      → down s.tables s.sources.blocks s.kept krate [] (at (root_of r.map.id)) before ≡ st → st ≢ stale → down s.tables s.sources.blocks s.kept krate before st
      more ≢ stale
  fresh_from krate r is before st [] leads fresh = fresh
  fresh_from krate r is before st (e ∷ more) leads fresh =
      fresh_from krate r is (before ++ e ∷ []) (step s.tables s.sources.blocks s.kept krate before st e) more
      (down-append s.tables s.sources.blocks s.kept krate [] (at (root_of r.map.id)) before (e ∷ []) ∙ ap
      (λ (x : Standing). step s.tables s.sources.blocks s.kept krate before x e) leads)
      (fresh_step krate before st e
      (ap (λ (o : Option Resolution). from_crate s.tables s.sources.blocks s.kept o (record { krate = krate; elements = before })) is ∙ leads) fresh)

  not_stale_by : (st : Standing) → st ≢ stale → status_by st ≢ status.Stale
  not_stale_by stale fresh e = fresh refl
  not_stale_by (at m) fresh e = absurd (let no : ⊥ = cc in no)
  not_stale_by (lacks id) fresh e = absurd (let no : ⊥ = cc in no)
  not_stale_by unset fresh e = absurd (let no : ⊥ = cc in no)

  pub nowhere_stale : (place : PlaceValue) → status_of s place ≢ status.Stale
  nowhere_stale place = on_bool (nat_lt place.krate.0 (length s.crates))
      (λ within e. not_stale_by (standing_of s place) (fresh_at within)
      (sym (ap (λ (b : Bool). if b then status_by (standing_of s place) else status.Unknown) within) ∙ e))
      (λ past e. absurd (let no : ⊥ = cc (sym (ap (λ (b : Bool). if b then status_by (standing_of s place) else status.Unknown) past) ∙ e) in no))
    where
      fresh_at : nat_lt place.krate.0 (length s.crates) ≡ true → standing_of s place ≢ stale
      fresh_at within = go (kept_of s (crate_map place.krate)) refl
        where
          off : is_marked s (id_of place.krate.0) ≡ false
          off = current place.krate.0 (ltb-true place.krate.0 (length s.crates) within)

          go : (o : Option Resolution) → kept_of s (crate_map place.krate) ≡ o → standing_of s place ≢ stale
          go None is e = clash (ap (λ (o : Option Resolution). is_none o) is) off
          go (Some r) is e =
              fresh_from place.krate r is [] (at (root_of r.map.id)) place.elements refl (λ f. absurd (let no : ⊥ = cc in no))
              (sym (ap (λ (o : Option Resolution). from_crate s.tables s.sources.blocks s.kept o place) is) ∙ e)
