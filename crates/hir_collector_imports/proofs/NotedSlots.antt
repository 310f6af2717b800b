-- Names that go along globs while items are walked are noted.
use Rattle.std.proofs.Common.{◌≡◌, ◌⊎◌, inl, inr, ◌∙◌, ap, sym, refl, subst, ℕ, Bool, true, false, List, [], ◌∷◌, ◌++◌, length, Option, None, Some, Contains}
use Rattle.std.proofs.Common.{cond, slice_get, arith}
use Rattle.std.proofs.lemmas.List.Elements.{Contains-append_cases, Contains-append_left, Contains-append_right, Contains-push_cases}
use Rattle.std.specs.Option.{option_and_then}
use Rattle.std.specs.Prelude.{Result, Ok, Err, IfOk, IsOkAnd, OnOk}
use Rattle.hir_collector_state.specs.HirIds.declared.ast_id.AstId.{AstId}
use Rattle.hir_collector_state.specs.HirIds.declared.ids.ModuleId.{ModuleId}
use Rattle.hir_collector_state.specs.HirPerNs.declared.imports.GlobId.{GlobId}
use Rattle.hir_collector_state.specs.HirPerNs.declared.visibility.Visibility.{Visibility}
use Rattle.hir_collector_state.proofs.HirDefMapRules.WellFormed.{parent_listed}
use Rattle.hir_collector_state.specs.HirDefMapRules.Overlay.{Maps}
use Rattle.hir_collector_state.specs.HirDefMapRules.State.{Map, ModuleValue, parent_at, parent_of}
use Rattle.hir_collector_state.specs.HirNameres.declared.nameres.path_resolution.slots.Slot.{Slot as PathSlot}
use Rattle.hir_collector_state.specs.HirNameres.declared.nameres.path_resolution.slots.Slot.TheVariants.{Module as of_module}
use Rattle.hir_collector_state.specs.HirDefMapLaws.ReadLaw.{AgreeAt, DiffersInScopes}
use Rattle.hir_collector_state.specs.HirDefMapLaws.SlotChanges.{ScopesChangeAmong}
use Rattle.hir_collector_state.specs.HirGlobImports.Keys.{name_of}
use Rattle.hir_collector_state.specs.HirGlobImports.Rules.{brings, copies, follows, raises}
use Rattle.hir_collector_state.specs.HirGlobImports.declared.edge.Bound.{Bound}
use Rattle.hir_collector_state.specs.HirGlobImports.declared.edge.Key.{Key}
use Rattle.hir_collector_state.specs.HirGlobImports.declared.edge.Target.{Target}
use Rattle.hir_collector_state.specs.HirGlobImports.declared.edge.Key.TheVariants.{Types, Values, Macros, Unnamed}
use Rattle.hir_collector_state.specs.HirGlobImports.declared.edge.Slot.{Slot as GlobSlot}
use Rattle.hir_collector_state.specs.HirImportRules.Changes.{Change as ImportChange, act, along, keeps_trait, perform, pushes, records, takes}
use Rattle.hir_collector_state.specs.HirImportRules.Directives.{TakenValue}
use Rattle.hir_import_resolution.specs.Inner.State.{path_slots, slots_named}
use Rattle.hir_collector_state.specs.HirImportRules.Names.{ScopesValue, bound_of, copied, copied_to, copied_where, followed, followed_to, followed_where}
use Rattle.hir_collector_state.specs.HirImportRules.Rules.{Step, Steps, acts, more, none}
use Rattle.hir_collector_state.specs.HirImportRules.State.{ImportState, scopes_of}
use Rattle.hir_collector_state.specs.HirImportRules.declared.directive.ImportDirective.{ImportDirective}
use Rattle.hir_collector_state.specs.HirImportRules.Changed.{ChangedValue, IsUnhelped, IsUntouched, with_slots}
use Rattle.hir_collector_rules.specs.State.{Run, at_rest, core_in, import_state}
use Rattle.hir_collector_state.specs.Waiting.{IsNotedBeside, KeepsModules, LeavesGlobs, LeavesImports, NotesSlots}
use Rattle.hir_collector_imports.specs.Waiting.{noted_along, noted_name}
use Rattle.hir_collector_rules.proofs.Lists.{length_mapped}
use Rattle.hir_collector_state.proofs.Noted.{helped_alike, some_before, unhelped_before, untouched_before, untouched_other}

-- ---- slots that are noted

module _ (c : ChangedValue) (slots : List PathSlot) where
  some_before_each : (with_slots slots c).all ≡ false → c.all ≡ false
  some_before_each e = go c.all refl e
    where
      go : (all : Bool) → c.all ≡ all → (cond all c (record c { slots = c.slots ++ slots })).all ≡ false → c.all ≡ false
      go true is e = e
      go false is e = is

  -- of what isn't touched now nothing was touched
  untouched_before_each : (slot : PathSlot) → IsUntouched (with_slots slots c) slot → IsUntouched c slot
  untouched_before_each slot e = go c.all refl e
    where
      go : (all : Bool) → c.all ≡ all → IsUntouched (cond all c (record c { slots = c.slots ++ slots })) slot → IsUntouched c slot
      go true is e = e
      go false is e = record { some = is; other = λ among. e.other (Contains-append_left c.slots slots slot among) }

  -- and no helper came into scope before where none did
  unhelped_before_each : (item : AstId) → IsUnhelped (with_slots slots c) item → IsUnhelped c item
  unhelped_before_each item e = go c.all refl e
    where
      go : (all : Bool) → c.all ≡ all → IsUnhelped (cond all c (record c { slots = c.slots ++ slots })) item → IsUnhelped c item
      go true is e = e
      go false is e = record { some = is; other = e.other }

  -- and it isn't one of the slots
  untouched_apart : (slot : PathSlot) → IsUntouched (with_slots slots c) slot → ¬ Contains slots slot
  untouched_apart slot e among = go c.all refl e
    where
      go : (all : Bool) → c.all ≡ all → IsUntouched (cond all c (record c { slots = c.slots ++ slots })) slot → ⊥
      go true is e = let wrong : c.all ≡ false = e.some in absurd (let no : ⊥ = cc in no)
      go false is e = e.other (Contains-append_right c.slots slots slot among)

-- ---- lists

no_member : {A : Type 0} (x : A) → Contains [] x → ⊥
no_member x has = let low = has.1 in absurd (omega (arith, low))

first_or_later : {A : Type 0} (y : A) (ys : List A) (x : A) → Contains (y ∷ ys) x → (y ≡ x) ⊎ Contains ys x
first_or_later y ys x has = go (Contains-append_cases (y ∷ []) ys x has)
  where
    only : Contains [] x ⊎ (y ≡ x) → (y ≡ x) ⊎ Contains ys x
    only (inl nowhere) = absurd (no_member x nowhere)
    only (inr same) = inl same

    go : Contains (y ∷ []) x ⊎ Contains ys x → (y ≡ x) ⊎ Contains ys x
    go (inl first) = only (Contains-push_cases [] y x first)
    go (inr later) = inr later

-- ---- what is noted along globs

-- where there is a name, its slot is noted besides
named_some : (at : ℕ) (name : Option (List ℕ)) (c : ChangedValue) → (noted_name at name c).all ≡ false → c.all ≡ false
named_some at None c e = absurd (let no : ⊥ = cc in no)
named_some at (Some name) c e = some_before (of_module at name) c e

named_before : (at : ℕ) (name : Option (List ℕ)) (c : ChangedValue) (slot : PathSlot) → IsUntouched (noted_name at name c) slot → IsUntouched c slot
named_before at None c slot e = let wrong : true ≡ false = e.some in absurd (let no : ⊥ = cc in no)
named_before at (Some name) c slot e = untouched_before (of_module at name) c slot e

named_unhelped : (at : ℕ) (name : Option (List ℕ)) (c : ChangedValue) (item : AstId) → IsUnhelped (noted_name at name c) item → IsUnhelped c item
named_unhelped at None c item e = let wrong : true ≡ false = e.some in absurd (let no : ⊥ = cc in no)
named_unhelped at (Some name) c item e = unhelped_before (of_module at name) c item e

named_apart : (at : ℕ) (name : Option (List ℕ)) (c : ChangedValue) (slot : PathSlot) → IsUntouched (noted_name at name c) slot
    → ¬ Contains (slots_named at name) slot
named_apart at None c slot e has = absurd (no_member slot has)
named_apart at (Some name) c slot e has = go (first_or_later (of_module at name) [] slot has)
  where
    go : (of_module at name ≡ slot) ⊎ Contains [] slot → ⊥
    go (inl same) = untouched_other (of_module at name) c slot e (sym same)
    go (inr nowhere) = no_member slot nowhere

along_some : (slots : List GlobSlot) (c : ChangedValue) → (noted_along slots c).all ≡ false → c.all ≡ false
along_some [] c e = e
along_some (s ∷ ss) c e = named_some s.at (name_of s.key) c (along_some ss (noted_name s.at (name_of s.key) c) e)

along_before : (slots : List GlobSlot) (c : ChangedValue) (slot : PathSlot) → IsUntouched (noted_along slots c) slot → IsUntouched c slot
along_before [] c slot e = e
along_before (s ∷ ss) c slot e = named_before s.at (name_of s.key) c slot (along_before ss (noted_name s.at (name_of s.key) c) slot e)

along_unhelped : (slots : List GlobSlot) (c : ChangedValue) (item : AstId) → IsUnhelped (noted_along slots c) item → IsUnhelped c item
along_unhelped [] c item e = e
along_unhelped (s ∷ ss) c item e = named_unhelped s.at (name_of s.key) c item (along_unhelped ss (noted_name s.at (name_of s.key) c) item e)

along_apart : (slots : List GlobSlot) (c : ChangedValue) (slot : PathSlot) → IsUntouched (noted_along slots c) slot → ¬ Contains (path_slots slots) slot
along_apart [] c slot e has = no_member slot has
along_apart (s ∷ ss) c slot e has =
    go (along_apart ss (noted_name s.at (name_of s.key) c) slot e) (Contains-append_cases (slots_named s.at (name_of s.key)) (path_slots ss) slot has)
  where
    go : ¬ Contains (path_slots ss) slot → Contains (slots_named s.at (name_of s.key)) slot ⊎ Contains (path_slots ss) slot → ⊥
    go apart (inl here) = named_apart s.at (name_of s.key) c slot (along_before ss (noted_name s.at (name_of s.key) c) slot e) here
    go apart (inr later) = apart later

-- ---- modules are kept where scopes alone change

module _ (old new : Map) (differs : DiffersInScopes old new) where
  same_parent : (at : ℕ) → parent_at new at ≡ parent_at old at
  same_parent at =
      sym (parent_listed new.modules at)
      ∙ ap (λ (ps : List (Option ModuleId)). option_and_then (λ (p : Option ModuleId). p) (slice_get ps at)) differs.parents
      ∙ parent_listed old.modules at

  pub same_count : length new.modules ≡ length old.modules
  same_count =
      sym (length_mapped (λ (v : ModuleValue). v.parent) new.modules) ∙ ap (λ (ps : List (Option ModuleId)). length ps) differs.parents ∙ length_mapped
      (λ (v : ModuleValue). v.parent) old.modules

  differs_kept : KeepsModules old new
  differs_kept = record {
    id = differs.id;
    holder = differs.holder;
    crate_data = differs.crate_data;
    prelude = differs.prelude;
    parents = λ at m e. same_parent at ∙ ap parent_of e;
    count = omega (arith, same_count);
  }

-- ---- helpers stay where imports are taken and names go along globs

copied_helpers : (n : ScopesValue) (s : GlobSlot) (of : Target) (vis : Visibility) (by : GlobId) → (copied n s of vis by).map.derive_helpers
    ≡ n.map.derive_helpers
copied_helpers n s of vis by = go (bound_of n of s.key)
  where
    on : (key : Key) (b : Bound) → (copied_to n s.at key vis by b).map.derive_helpers ≡ n.map.derive_helpers
    on (Types name) b = refl
    on other b = refl

    go : (o : Option Bound) → (copied_where n s vis by o).map.derive_helpers ≡ n.map.derive_helpers
    go None = refl
    go (Some b) = on s.key b

followed_helpers : (n : ScopesValue) (s : GlobSlot) (of : Target) (vis : Visibility) → (followed n s of vis).map.derive_helpers ≡ n.map.derive_helpers
followed_helpers n s of vis = go (bound_of n of s.key)
  where
    on : (key : Key) (b : Bound) → (followed_to n s.at key vis b).map.derive_helpers ≡ n.map.derive_helpers
    on (Types name) b = refl
    on other b = refl

    go : (o : Option Bound) → (followed_where n s vis o).map.derive_helpers ≡ n.map.derive_helpers
    go None = refl
    go (Some b) = on s.key b

act_helpers : (s : ImportState) (c : ImportChange) → (act s c).map.derive_helpers ≡ s.map.derive_helpers
act_helpers s (pushes home None items source) = refl
act_helpers s (pushes home (Some name) items source) = refl
act_helpers s (keeps_trait finished home None vis import) = refl
act_helpers s (keeps_trait finished home (Some id) vis import) = refl
act_helpers s (takes i t) = refl
act_helpers s (records edges) = refl
act_helpers s (along finished (copies slot of vis by)) = copied_helpers (scopes_of finished s) slot of vis by
act_helpers s (along finished (brings slot by)) = refl
act_helpers s (along finished (follows slot of vis)) = followed_helpers (scopes_of finished s) slot of vis
act_helpers s (along finished (raises slot vis)) = refl

perform_helpers : (s : ImportState) (cs : List ImportChange) → (perform s cs).map.derive_helpers ≡ s.map.derive_helpers
perform_helpers s [] = refl
perform_helpers s (c ∷ cs) = perform_helpers (act s c) cs ∙ act_helpers s c

step_helpers : (finished : Maps) (a b : ImportState) → Step finished a b → b.map.derive_helpers ≡ a.map.derive_helpers
step_helpers finished a b step = ap (λ (s : ImportState). s.map.derive_helpers) step.is ∙ perform_helpers a (acts finished a step.rule)

steps_helpers : (finished : Maps) (a b : ImportState) → Steps finished a b → b.map.derive_helpers ≡ a.map.derive_helpers
steps_helpers finished a _ none = refl
steps_helpers finished a b (more old _ steps step) = step_helpers finished old b step ∙ steps_helpers finished a old steps

-- ---- what is noted

module _ (finished : Maps) (a b : Run) (slots : List PathSlot) (steps : Steps finished (import_state (at_rest (core_in a))) (import_state (at_rest (core_in b))))
    (among : ScopesChangeAmong a.map b.map a.local slots) (local : b.local ≡ a.local) where
  same_helpers : b.map.derive_helpers ≡ a.map.derive_helpers
  unfolding core_in
  same_helpers = steps_helpers finished (import_state (at_rest (core_in a))) (import_state (at_rest (core_in b))) steps

  slots_among : (b.changed.all ≡ false → a.changed.all ≡ false) → ((slot : PathSlot) → IsUntouched b.changed slot → IsUntouched a.changed slot)
      → ((slot : PathSlot) → IsUntouched b.changed slot → ¬ Contains slots slot) → ((item : AstId) → IsUnhelped b.changed item → IsUnhelped a.changed item)
      → NotesSlots a b
  slots_among some noted apart items = record {
    some = some;
    noted = noted;
    keeps = λ e. differs_kept a.map b.map among.differs;
    others = λ slot e there. subst (λ l. AgreeAt a.map a.local b.map l slot) (sym local) (among.others slot (apart slot e));
    items = items;
    helpers = λ node name e. helped_alike a.map b.map same_helpers node name;
  }

  -- where these slots are noted besides
  pub slots_with : b.changed ≡ with_slots slots a.changed → NotesSlots a b
  slots_with changed =
      slots_among
      (λ e. some_before_each a.changed slots (ap (λ (c : ChangedValue). c.all) (sym changed) ∙ e))
      (λ slot e. untouched_before_each a.changed slots slot (subst (λ (c : ChangedValue). IsUntouched c slot) changed e))
      (λ slot e. untouched_apart a.changed slots slot (subst (λ (c : ChangedValue). IsUntouched c slot) changed e))
      (λ item e. unhelped_before_each a.changed slots item (subst (λ (c : ChangedValue). IsUnhelped c item) changed e))

module _ (finished : Maps) (a b : Run) (slots : List GlobSlot) (steps : Steps finished (import_state (at_rest (core_in a))) (import_state (at_rest (core_in b))))
    (among : ScopesChangeAmong a.map b.map a.local (path_slots slots)) (local : b.local ≡ a.local) (changed : b.changed ≡ noted_along slots a.changed) where
  along_slot : (slot : PathSlot) → IsUntouched b.changed slot → IsUntouched (noted_along slots a.changed) slot
  along_slot slot e = subst (λ (c : ChangedValue). IsUntouched c slot) changed e

  left_along : b.reached ≡ a.reached → b.taken ≡ a.taken → LeavesImports a b
  left_along reached taken = record {
    enums = λ id variants is. among.differs.enums id ∙ is;
    reached = λ i low. ap (λ (rs : List ImportDirective). slice_get rs i) reached;
    taken = λ i low. ap (λ (ts : List TakenValue). slice_get ts i) taken;
    longer = let same : length b.reached ≡ length a.reached = ap (λ (rs : List ImportDirective). length rs) reached in omega (arith, same);
    taken_longer = let same : length b.taken ≡ length a.taken = ap (λ (ts : List TakenValue). length ts) taken in omega (arith, same);
  }

  pub noted_spread : b.reached ≡ a.reached → b.taken ≡ a.taken → LeavesGlobs finished a b → IsNotedBeside finished a b
  noted_spread reached taken globs = record {
    slots =
        slots_among finished a b (path_slots slots) steps among local
        (λ e. along_some slots a.changed (ap (λ (c : ChangedValue). c.all) (sym changed) ∙ e))
        (λ slot e. along_before slots a.changed slot (along_slot slot e))
        (λ slot e. along_apart slots a.changed slot (along_slot slot e))
        (λ item e. along_unhelped slots a.changed item (subst (λ (c : ChangedValue). IsUnhelped c item) changed e));
    imports = λ e. left_along reached taken;
    globs = λ e. globs;
  }

-- ---- where two calls succeed

module _ {T E U F : Type 0} where
  pub through_both : (P Q : T → Type 0) (R : Type 0) (first : Result T E) (second : Result U F) → OnOk second (IsOkAnd first P) → IfOk first Q
      → ((x : T) → P x → Q x → R) → OnOk second R
  through_both P Q R (Ok x) (Ok y) both holds gives = gives x both holds
  through_both P Q R (Err e) (Ok y) both holds gives = absurd both
  through_both P Q R (Ok x) (Err f) both holds gives = tt
  through_both P Q R (Err e) (Err f) both holds gives = tt

module _ {T E : Type 0} where
  -- what holds of each of two holds of both
  pub both_of_each : (P Q : T → Type 0) (first : Result T E) → IfOk first P → IfOk first Q → IfOk first (λ x. P x × Q x)
  both_of_each P Q (Ok x) p q = (p, q)
  both_of_each P Q (Err e) p q = tt
