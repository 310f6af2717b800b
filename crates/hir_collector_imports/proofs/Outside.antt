-- A run that lies apart does so as long as it goes on: a block's keeps the crates that paths begin with.
use Rattle.std.proofs.Common.{◌≡◌, ◌∙◌, ap, sym, refl, subst, ◌&&◌, ◌||◌, ◌==◌, Bool, true, false, List, [], ◌∷◌, ℕ, Option, None, Some, cond}
use Rattle.std.specs.BTreeMap.{is_at}
use Rattle.std.specs.Cmp.Lexicographic.{slice_cmp}
use Rattle.std.specs.Map.{lookup}
use Rattle.std.specs.Ordering.{nat_cmp}
use Rattle.std.specs.Prelude.{is_none, is_some, not}
use Rattle.hir_collector_state.specs.HirIds.declared.ast_id.BlockId.{BlockId}
use Rattle.hir_collector_state.specs.HirIds.declared.ids.ExternCrateId.{ExternCrateId}
use Rattle.hir_collector_state.specs.HirIds.declared.ids.MapId.{MapId}
use Rattle.hir_collector_state.specs.HirIds.declared.ids.ModuleId.{ModuleId}
use Rattle.hir_collector_state.specs.HirNameres.Scoping.Slots.{is_in}
use Rattle.hir_collector_state.specs.HirDefMapLaws.ReadLaw.{BeginsOutside, KeepApart}
use Rattle.hir_collector_state.specs.HirDefMapRules.Overlay.{Maps}
use Rattle.hir_collector_state.specs.HirDefMapRules.State.{Local, at_name}
use Rattle.hir_collector_rules.specs.Changes.{Change, act, begins_paths, changes_imports, perform}
use Rattle.hir_collector_rules.specs.Imports.{extern_by}
use Rattle.hir_collector_state.specs.HirImportRules.Directives.{name_of}
use Rattle.hir_collector_rules.specs.Keys.{Environment}
use Rattle.hir_collector_rules.specs.State.{Core, State, at_rest, import_state}
use Rattle.hir_collector_rules.specs.Steps.{Step, Steps, acts, asking, more, none}
use Rattle.hir_collector_imports.specs.Waiting.{KeepsApart}
use Rattle.hir_collector_rules.proofs.Changes.{Keeps-act, id-Steps}
use Rattle.hir_collector_rules.proofs.ImportEdits.{local_after}
use Rattle.hir_collector_imports.specs.Outside.{begins_inside, begins_outside}

-- ---- the crates that paths begin with

of_no_root : (here : Bool) (o : Option BlockId) → is_some o ≡ true → (here && is_none o) ≡ false
of_no_root true (Some b) e = refl
of_no_root false o e = refl
of_no_root true None e = absurd cc

local_acted : (s : State) (c : Change) → is_some s.core.map.id.block ≡ true → (act s c).core.local ≡ s.core.local
local_acted s (begins_paths r) block =
    ap (λ (b : Bool). cond b (extern_by s.core.local r.source (name_of r)) s.core.local) (of_no_root (r.home == 0) s.core.map.id.block block)
local_acted s (changes_imports c) block = local_after (import_state s) c
local_acted s other block = refl

local_performed : (cs : List Change) (s : State) → is_some s.core.map.id.block ≡ true → (perform s cs).core.local ≡ s.core.local
local_performed [] s block = refl
local_performed (c ∷ cs) s block =
    local_performed cs (act s c) (ap (λ (id : MapId). is_some id.block) (Keeps-act s c).id ∙ block) ∙ local_acted s c block

local-Step : {env : Environment} {finished : Maps} {old new : State} (step : Step env finished old new) → is_some old.core.map.id.block ≡ true → new.core.local
    ≡ old.core.local
local-Step {env} {finished} {old} {new} step block =
    ap (λ (s : State). s.core.local) step.is ∙ local_performed (acts finished old step.rule) (asking old step.rule) block

local-Steps : {env : Environment} {finished : Maps} {from to : State} → Steps env finished from to → is_some from.core.map.id.block ≡ true → to.core.local
    ≡ from.core.local
local-Steps none block = refl
local-Steps (more old new before step) block = local-Step step (ap (λ (id : MapId). is_some id.block) (id-Steps before) ∙ block) ∙ local-Steps before block

-- ---- where paths begin

pub outside-Steps : {env : Environment} {finished : Maps} {from to : State} → Steps env finished from to → BeginsOutside from.core.map.id from.core.local
    → BeginsOutside to.core.map.id to.core.local
outside-Steps {env} {finished} {from} {to} steps outside = subst (λ (own : MapId). BeginsOutside own to.core.local) (sym (id-Steps steps)) there
  where
    there : BeginsOutside from.core.map.id to.core.local
    there name entry e = go (is_some from.core.map.id.block) refl
      where
        go : (b : Bool) → is_some from.core.map.id.block ≡ b → (is_some from.core.map.id.block && is_in from.core.map.id entry.0) ≡ false
        go true block = outside name entry (ap (λ (l : Local). at_name l name) (sym (local-Steps steps block)) ∙ e)
        go false of_crate = ap (λ (b : Bool). b && is_in from.core.map.id entry.0) of_crate

-- a run lies apart still
pub apart-Steps : {env : Environment} {finished : Maps} (c d : Core) → Steps env finished (at_rest c) (at_rest d) → KeepsApart finished c
    → KeepsApart finished d
apart-Steps {env} {finished} c d steps apart =
    record { apart = subst (λ (own : MapId). KeepApart finished own) (sym (id-Steps steps)) apart.apart; outside = outside-Steps steps apart.outside }

-- ---- the test

not_inside : (o : Option BlockId) (inside : Bool) → (is_none o || not inside) ≡ true → (b : BlockId) → o ≡ Some b → inside ≡ false
not_inside None inside h b e = absurd cc
not_inside (Some c) false h b e = refl
not_inside (Some c) true h b e = absurd (let no : ⊥ = cc in no)

neither : (a b : Bool) → (a || b) ≡ false → (a ≡ false) × (b ≡ false)
neither false b e = (refl, e)
neither true b e = absurd cc

-- none of the crates lies in the map, so what a name stands for doesn't
found_outside : (own : MapId) (local : Local) (name : List ℕ) (entry : ModuleId × Option ExternCrateId) → begins_inside own local ≡ false → at_name local name
    ≡ Some entry → is_in own entry.0 ≡ false
found_outside own [] name entry out found = absurd cc
found_outside own (e ∷ es) name entry out found = go (is_at (slice_cmp nat_cmp name) e.0) (found_outside own es name entry both.1) found
  where
    both : (is_in own e.1.0 ≡ false) × (begins_inside own es ≡ false)
    both = neither (is_in own e.1.0) (begins_inside own es) out

    go : (b : Bool) → (at_name es name ≡ Some entry → is_in own entry.0 ≡ false)
        → cond b (Some e.1) (lookup (is_at (slice_cmp nat_cmp name)) es) ≡ Some entry → is_in own entry.0 ≡ false
    go true among here = let same : e.1 ≡ entry = cc in subst (λ (x : ModuleId × Option ExternCrateId). is_in own x.0 ≡ false) same both.0
    go false among later = among later

pub outside_by : (own : MapId) (local : Local) → begins_outside own local ≡ true → BeginsOutside own local
outside_by own local h name entry e = go own.block refl
  where
    and_no : (b : Bool) → (b && false) ≡ false
    and_no true = refl
    and_no false = refl

    go : (o : Option BlockId) → own.block ≡ o → (is_some own.block && is_in own entry.0) ≡ false
    go None of_crate = ap (λ (o : Option BlockId). is_some o && is_in own entry.0) of_crate
    go (Some b) some =
        ap (λ (x : Bool). is_some own.block && x) (found_outside own local name entry (not_inside own.block (begins_inside own local) h b some) e) ∙ and_no
        (is_some own.block)
