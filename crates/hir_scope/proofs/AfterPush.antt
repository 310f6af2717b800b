-- What a push makes of a scope, without its candidates.
use Rattle.std.proofs.Common.{◌≡◌, ◌≢◌, ◌∙◌, ap, sym, subst, refl, ℕ, true, false, Bool, not, ◌&&◌, ◌||◌, List, [], ◌∷◌, Option, None, Some, cond}
use Rattle.std.specs.Option.{option_map}
use Rattle.std.specs.Ordering.{nat_cmp, is_eq}
use Rattle.std.specs.Cmp.Lexicographic.{slice_cmp}
use Rattle.std.proofs.lemmas.Cmp.{tied_itself, nat_list_cmp_total}
use Rattle.hir_ids.specs.contracts.ids.ModuleDefIdPartialEq.TheImpl as module_def
use Rattle.hir_ids.specs.contracts.macro_kind.MacroIdPartialEq.TheImpl as makro
use Rattle.hir_ids.specs.declared.macro_kind.MacroId.{MacroId}
use Rattle.hir_ids.specs.declared.ids.ModuleDefId.{ModuleDefId}
use Rattle.hir_ids.specs.declared.ids.ModuleDefId.TheVariants as defs
use Rattle.hir_per_ns.specs.contracts.imports.ImportOrExternCratePartialEq.TheImpl as item_import
use Rattle.hir_per_ns.specs.contracts.imports.ImportOrGlobPartialEq.TheImpl as glob_import
use Rattle.hir_scope.specs.Types.{ImportOrDef, ImportOrExternCrate, ImportOrGlob, PerNs}
use Rattle.hir_scope.specs.Bindings.{Push, Candidate, after_push, first_of, is_reresolved_by, items_by, slot_after, slot_after_candidate, slot_at, taken, takes}
use Rattle.hir_scope.specs.Bindings.{type_candidate, value_candidate, macro_candidate, written_items, written_places}
use Rattle.hir_scope.specs.Entries.{any_value, item_at, with_entry}
use Rattle.hir_scope.specs.Globs.{GlobNames, Place, has_place, no_globs}
use Rattle.hir_scope.specs.ImportRecords.{is_glob, reached_by, value_reached_by}
use Rattle.hir_per_ns.specs.PerNs.{Item, item_of, or_of, value_import, is_nothing}
use Rattle.hir_scope.specs.Scope.{ScopeValue, binding_of}
use Rattle.hir_scope.specs.Scope.Push.{SameDeclarations, binding_after, pushed_scope, pushed_globs, taken_candidates, with_unresolved, written_scope}
use Rattle.hir_scope.specs.Scope.Reads.{binds_macro, binds_type, binds_value}
use Rattle.hir_scope.proofs.Pushes.{pushed-types, pushed-values, pushed-macros}
use Rattle.hir_scope_table.proofs.AnyValue.{any_value-with_entry}
use Rattle.hir_scope_table.proofs.Lookups.{lookup-with_entry}
use Rattle.hir_scope_table.proofs.Pushes.{name-apart}
use Rattle.hir_scope_table.proofs.SlotAfter.{slot_after_candidate-glob}

-- ---- a list by names, with one more

module _ {V : Type 0} (es : List (List ℕ × V)) (name : List ℕ) (v : V) where
  pub item_at-with_entry : item_at (with_entry (slice_cmp nat_cmp) es name v) name ≡ Some v
  item_at-with_entry = lookup-with_entry (slice_cmp nat_cmp) nat_list_cmp_total es name v name
      ∙ ap (λ (b : Bool). cond b (Some v) (item_at es name)) (ap is_eq (tied_itself nat_list_cmp_total name))

  pub item_at-with_entry_other : (other : List ℕ) → other ≢ name → item_at (with_entry (slice_cmp nat_cmp) es name v) other ≡ item_at es other
  item_at-with_entry_other other ne = lookup-with_entry (slice_cmp nat_cmp) nat_list_cmp_total es name v other
      ∙ ap (λ (b : Bool). cond b (Some v) (item_at es other)) (name-apart name other ne)

-- ---- the other names, and what isn't bound

binding_of-written : (globs : GlobNames) (place : Place) (items : PerNs) (import : Option ImportOrExternCrate) (scope : ScopeValue) (name : List ℕ)
    → binding_of (pushed_scope globs place items import scope) name
    ≡ binding_of (written_scope place.1 (taken_candidates scope globs place items import) scope) name
binding_of-written globs place items import scope name =
    let types = pushed-types scope globs place import items in
    let values = pushed-values scope globs place import items in
    let macros = pushed-macros scope globs place import items in
    λ i. record { types = item_at (types i) name; values = item_at (values i) name; macros = item_at (macros i) name }

module _ {D I : Type 0} where
  written_other : (es : List (List ℕ × Item D I)) (name other : List ℕ) (candidate : Option (Candidate D I)) → other ≢ name
      → item_at (written_items name candidate es) other ≡ item_at es other
  written_other es name other None ne = refl
  written_other es name other (Some c) ne = item_at-with_entry_other es name c.push.item other ne

-- a push leaves what other names stand for
pub binding_of-pushed_other : (globs : GlobNames) (place : Place) (items : PerNs) (import : Option ImportOrExternCrate) (scope : ScopeValue) (other : List ℕ)
    → other ≢ place.1
    → binding_of (pushed_scope globs place items import scope) other ≡ binding_of scope other
binding_of-pushed_other globs place items import scope other ne =
    let candidates = taken_candidates scope globs place items import in
    let types = written_other scope.types place.1 other candidates.types ne in
    let values = written_other scope.values place.1 other candidates.values ne in
    let macros = written_other scope.macros place.1 other candidates.macros ne in
    binding_of-written globs place items import scope other ∙ (λ i. record { types = types i; values = values i; macros = macros i })

-- ---- where no glob has brought anything

module _ {D I : Type 0} (same_def : D → D → Bool) (same_import : I → I → Bool) where
  written_here : (es : List (List ℕ × Item D I)) (place : Place) (push : Push D I) (source : ImportOrDef) → push.is_glob ≡ false
      → item_at (written_items place.1 (taken same_def same_import es [] place (Some (record { push = push; source = source }))) es) place.1
      ≡ slot_after same_def same_import (item_at es place.1) (Some push.item)
  written_here es place push source explicit = go (item_at es place.1) refl
    where
      step : (b : Item D I) → item_at es place.1 ≡ Some b → (gives : Bool)
          → item_at (written_items place.1 (cond (not push.is_glob && (false || gives)) (Some (record { push = push; source = source })) None) es) place.1
          ≡ cond gives (Some push.item) (Some b)
      step b e true = rw explicit (item_at-with_entry es place.1 push.item)
      step b e false = rw explicit e

      go : (o : Option (Item D I)) → item_at es place.1 ≡ o
          → item_at (written_items place.1 (cond (takes same_def same_import false o push) (Some (record { push = push; source = source })) None) es) place.1
          ≡ slot_after same_def same_import o (Some push.item)
      go None e = item_at-with_entry es place.1 push.item
      go (Some b) e = step b e (is_reresolved_by same_def same_import b push.item)

module _ {D I : Type 0} where
  no_place : (place : Place) (push : Push D I) (source : ImportOrDef) → push.is_glob ≡ false → (b : Bool)
      → written_places place (cond b (Some (record { push = push; source = source })) None) [] ≡ []
  no_place place push source explicit true = rw explicit refl
  no_place place push source explicit false = refl

module _ (place : Place) (import : Option ImportOrExternCrate) (scope : ScopeValue) (explicit : is_glob import ≡ false) where
  types_here : (o : Option (Item ModuleDefId ImportOrExternCrate))
      → item_at (written_items place.1 (taken module_def.ghosts.eq item_import.ghosts.eq scope.types [] place (type_candidate o import)) scope.types) place.1
      ≡ slot_after module_def.ghosts.eq item_import.ghosts.eq (item_at scope.types place.1)
      (option_map (λ (i : Item ModuleDefId ImportOrExternCrate). item_of i.def i.vis import) o)
  types_here None = refl
  types_here (Some i) = written_here module_def.ghosts.eq item_import.ghosts.eq scope.types place _ _ explicit

  values_here : (o : Option (Item ModuleDefId ImportOrGlob))
      → item_at (written_items place.1 (taken module_def.ghosts.eq glob_import.ghosts.eq scope.values [] place (value_candidate o import)) scope.values) place.1
      ≡ slot_after module_def.ghosts.eq glob_import.ghosts.eq (item_at scope.values place.1)
      (option_map (λ (i : Item ModuleDefId ImportOrGlob). item_of i.def i.vis (value_import import)) o)
  values_here None = refl
  values_here (Some i) = written_here module_def.ghosts.eq glob_import.ghosts.eq scope.values place _ _ explicit

  macros_here : (o : Option (Item MacroId ImportOrExternCrate))
      → item_at (written_items place.1 (taken makro.ghosts.eq item_import.ghosts.eq scope.macros [] place (macro_candidate o import)) scope.macros) place.1
      ≡ slot_after makro.ghosts.eq item_import.ghosts.eq (item_at scope.macros place.1)
      (option_map (λ (i : Item MacroId ImportOrExternCrate). item_of i.def i.vis import) o)
  macros_here None = refl
  macros_here (Some i) = written_here makro.ghosts.eq item_import.ghosts.eq scope.macros place _ _ explicit

  -- the name stands for what a push by no glob makes of it
  pub binding_of-pushed_here : (items : PerNs)
      → binding_of (pushed_scope no_globs place items import scope) place.1 ≡ after_push (binding_of scope place.1) (items_by import items)
  binding_of-pushed_here items =
      let types = types_here items.types in
      let values = values_here items.values in
      let macros = macros_here items.macros in
      binding_of-written no_globs place items import scope place.1 ∙ (λ i. record { types = types i; values = values i; macros = macros i })

  no_types : (o : Option (Item ModuleDefId ImportOrExternCrate))
      → written_places place (taken module_def.ghosts.eq item_import.ghosts.eq scope.types [] place (type_candidate o import)) [] ≡ []
  no_types None = refl
  no_types (Some i) = no_place place _ _ explicit _

  no_values : (o : Option (Item ModuleDefId ImportOrGlob))
      → written_places place (taken module_def.ghosts.eq glob_import.ghosts.eq scope.values [] place (value_candidate o import)) [] ≡ []
  no_values None = refl
  no_values (Some i) = no_place place _ _ explicit _

  no_macros : (o : Option (Item MacroId ImportOrExternCrate))
      → written_places place (taken makro.ghosts.eq item_import.ghosts.eq scope.macros [] place (macro_candidate o import)) [] ≡ []
  no_macros None = refl
  no_macros (Some i) = no_place place _ _ explicit _

  -- and globs still have brought nothing
  pub pushed_globs-none : (items : PerNs) → pushed_globs scope place items import no_globs ≡ no_globs
  pushed_globs-none items =
      let types = no_types items.types in
      let values = no_values items.values in
      let macros = no_macros items.macros in
      λ i. record { types = types i; values = values i; macros = macros i }

-- ---- a namespace is as it was, or has the pushed item at the name

module _ (globs : GlobNames) (place : Place) (import : Option ImportOrExternCrate) (scope : ScopeValue) where
  pub on_pushed_types : (P : List (List ℕ × Item ModuleDefId ImportOrExternCrate) → Type 0) (items : PerNs) → P scope.types
      → ((i : Item ModuleDefId ImportOrExternCrate) → items.types ≡ Some i
      → P (with_entry (slice_cmp nat_cmp) scope.types place.1 (item_of i.def i.vis import)))
      → P (pushed_scope globs place items import scope).types
  on_pushed_types P items old new = subst P (sym (pushed-types scope globs place import items)) (go items.types refl)
    where
      go : (o : Option (Item ModuleDefId ImportOrExternCrate)) → items.types ≡ o
          → P (written_items place.1 (taken module_def.ghosts.eq item_import.ghosts.eq scope.types globs.types place (type_candidate o import)) scope.types)
      go None e = old
      go (Some i) e = on (takes module_def.ghosts.eq item_import.ghosts.eq (has_place globs.types place) (item_at scope.types place.1)
          (record { item = item_of i.def i.vis import; is_glob = is_glob import }))
        where
          on : (b : Bool) → P (written_items place.1 (cond b (type_candidate (Some i) import) None) scope.types)
          on true = new i e
          on false = old

  pub on_pushed_values : (P : List (List ℕ × Item ModuleDefId ImportOrGlob) → Type 0) (items : PerNs) → P scope.values
      → ((i : Item ModuleDefId ImportOrGlob) → items.values ≡ Some i
      → P (with_entry (slice_cmp nat_cmp) scope.values place.1 (item_of i.def i.vis (value_import import))))
      → P (pushed_scope globs place items import scope).values
  on_pushed_values P items old new = subst P (sym (pushed-values scope globs place import items)) (go items.values refl)
    where
      go : (o : Option (Item ModuleDefId ImportOrGlob)) → items.values ≡ o
          → P (written_items place.1 (taken module_def.ghosts.eq glob_import.ghosts.eq scope.values globs.values place (value_candidate o import)) scope.values)
      go None e = old
      go (Some i) e = on (takes module_def.ghosts.eq glob_import.ghosts.eq (has_place globs.values place) (item_at scope.values place.1)
          (record { item = item_of i.def i.vis (value_import import); is_glob = is_glob import }))
        where
          on : (b : Bool) → P (written_items place.1 (cond b (value_candidate (Some i) import) None) scope.values)
          on true = new i e
          on false = old

  pub on_pushed_macros : (P : List (List ℕ × Item MacroId ImportOrExternCrate) → Type 0) (items : PerNs) → P scope.macros
      → ((i : Item MacroId ImportOrExternCrate) → items.macros ≡ Some i → P (with_entry (slice_cmp nat_cmp) scope.macros place.1 (item_of i.def i.vis import)))
      → P (pushed_scope globs place items import scope).macros
  on_pushed_macros P items old new = subst P (sym (pushed-macros scope globs place import items)) (go items.macros refl)
    where
      go : (o : Option (Item MacroId ImportOrExternCrate)) → items.macros ≡ o
          → P (written_items place.1 (taken makro.ghosts.eq item_import.ghosts.eq scope.macros globs.macros place (macro_candidate o import)) scope.macros)
      go None e = old
      go (Some i) e = on (takes makro.ghosts.eq item_import.ghosts.eq (has_place globs.macros place) (item_at scope.macros place.1)
          (record { item = item_of i.def i.vis import; is_glob = is_glob import }))
        where
          on : (b : Bool) → P (written_items place.1 (cond b (macro_candidate (Some i) import) None) scope.macros)
          on true = new i e
          on false = old

  -- where a test holds of no bound item and not of the pushed one, it holds of none afterwards
  pub binds_type-pushed : (test : Item ModuleDefId ImportOrExternCrate → Bool) (items : PerNs) → binds_type test scope ≡ false
      → ((i : Item ModuleDefId ImportOrExternCrate) → items.types ≡ Some i → test (item_of i.def i.vis import) ≡ false)
      → binds_type test (pushed_scope globs place items import scope) ≡ false
  binds_type-pushed test items none new = on_pushed_types (λ es. any_value test es ≡ false) items none
      (λ i e. any_value-with_entry test (slice_cmp nat_cmp) scope.types place.1 (item_of i.def i.vis import) none (new i e))

  pub binds_value-pushed : (test : Item ModuleDefId ImportOrGlob → Bool) (items : PerNs) → binds_value test scope ≡ false
      → ((i : Item ModuleDefId ImportOrGlob) → items.values ≡ Some i → test (item_of i.def i.vis (value_import import)) ≡ false)
      → binds_value test (pushed_scope globs place items import scope) ≡ false
  binds_value-pushed test items none new = on_pushed_values (λ es. any_value test es ≡ false) items none
      (λ i e. any_value-with_entry test (slice_cmp nat_cmp) scope.values place.1 (item_of i.def i.vis (value_import import)) none (new i e))

  pub binds_macro-pushed : (test : Item MacroId ImportOrExternCrate → Bool) (items : PerNs) → binds_macro test scope ≡ false
      → ((i : Item MacroId ImportOrExternCrate) → items.macros ≡ Some i → test (item_of i.def i.vis import) ≡ false)
      → binds_macro test (pushed_scope globs place items import scope) ≡ false
  binds_macro-pushed test items none new = on_pushed_macros (λ es. any_value test es ≡ false) items none
      (λ i e. any_value-with_entry test (slice_cmp nat_cmp) scope.macros place.1 (item_of i.def i.vis import) none (new i e))

  -- what a scope declares stays
  pub declarations_stay : (items : PerNs) → SameDeclarations scope (pushed_scope globs place items import scope)
  declarations_stay items = elim (is_nothing items)
      as (λ b. SameDeclarations scope (cond b (with_unresolved scope place.1) (written_scope place.1 (taken_candidates scope globs place items import) scope))) [
        | true ↦ record {
          declarations = refl;
          impls = refl;
          builtin_derive_impls = refl;
          extern_blocks = refl;
          unnamed_consts = refl;
          unnamed_traits = refl;
          use_decls = refl;
          extern_crate_decls = refl;
          legacy_macros = refl;
          attr_macros = refl;
          macro_calls = refl;
          derive_macros = refl;
        }
        | false ↦ record {
          declarations = refl;
          impls = refl;
          builtin_derive_impls = refl;
          extern_blocks = refl;
          unnamed_consts = refl;
          unnamed_traits = refl;
          use_decls = refl;
          extern_crate_decls = refl;
          legacy_macros = refl;
          attr_macros = refl;
          macro_calls = refl;
          derive_macros = refl;
        }
      ]

-- ---- what the name stands for, whatever globs have brought

module _ {D I : Type 0} (same_def : D → D → Bool) (same_import : I → I → Bool) where
  bound_here : (es : List (List ℕ × Item D I)) (globs : List Place) (place : Place) (candidate : Option (Candidate D I))
      → item_at (written_items place.1 (taken same_def same_import es globs place candidate) es) place.1
      ≡ (slot_after_candidate same_def same_import candidate (slot_at es globs place)).bound
  bound_here es globs place None = refl
  bound_here es globs place (Some c) = go (takes same_def same_import (has_place globs place) (item_at es place.1) c.push)
    where
      go : (b : Bool) → item_at (written_items place.1 (cond b (Some c) None) es) place.1
          ≡ (cond b (record { bound = Some c.push.item; globbed = c.push.is_glob }) (slot_at es globs place)).bound
      go true = item_at-with_entry es place.1 c.push.item
      go false = refl

first_of-none : {A : Type 0} (o : Option A) → o ≡ first_of o None
first_of-none None = refl
first_of-none (Some a) = refl

module _ (globs : GlobNames) (place : Place) (import : Option ImportOrExternCrate) (scope : ScopeValue) (items : PerNs) where
  pub binding_of-pushed : binding_of (pushed_scope globs place items import scope) place.1 ≡ binding_after scope globs place items import
  binding_of-pushed =
      let types = bound_here module_def.ghosts.eq item_import.ghosts.eq scope.types globs.types place (type_candidate items.types import) in
      let values = bound_here module_def.ghosts.eq glob_import.ghosts.eq scope.values globs.values place (value_candidate items.values import) in
      let macros = bound_here makro.ghosts.eq item_import.ghosts.eq scope.macros globs.macros place (macro_candidate items.macros import) in
      binding_of-written globs place items import scope place.1 ∙ (λ i. record { types = types i; values = values i; macros = macros i })

  -- a push by a glob binds what wasn't bound
  pub binding_of-pushed_by_glob : is_glob import ≡ true
      → binding_of (pushed_scope globs place items import scope) place.1 ≡ or_of (binding_of scope place.1) (items_by import items)
  binding_of-pushed_by_glob globbed =
      let types = of_types items.types in
      let values = of_values items.values in
      let macros = of_macros items.macros in
      binding_of-pushed ∙ (λ i. record { types = types i; values = values i; macros = macros i })
    where
      of_types : (o : Option (Item ModuleDefId ImportOrExternCrate))
          → (slot_after_candidate module_def.ghosts.eq item_import.ghosts.eq (type_candidate o import) (slot_at scope.types globs.types place)).bound
          ≡ first_of (item_at scope.types place.1) (option_map (λ (i : Item ModuleDefId ImportOrExternCrate). item_of i.def i.vis import) o)
      of_types None = first_of-none (item_at scope.types place.1)
      of_types (Some i) = slot_after_candidate-glob module_def.ghosts.eq item_import.ghosts.eq
          (record { push = record { item = item_of i.def i.vis import; is_glob = is_glob import }; source = reached_by i.import i.def })
          (slot_at scope.types globs.types place) globbed

      of_values : (o : Option (Item ModuleDefId ImportOrGlob))
          → (slot_after_candidate module_def.ghosts.eq glob_import.ghosts.eq (value_candidate o import) (slot_at scope.values globs.values place)).bound
          ≡ first_of (item_at scope.values place.1) (option_map (λ (i : Item ModuleDefId ImportOrGlob). item_of i.def i.vis (value_import import)) o)
      of_values None = first_of-none (item_at scope.values place.1)
      of_values (Some i) = slot_after_candidate-glob module_def.ghosts.eq glob_import.ghosts.eq
          (record { push = record { item = item_of i.def i.vis (value_import import); is_glob = is_glob import }; source = value_reached_by i.import i.def })
          (slot_at scope.values globs.values place) globbed

      of_macros : (o : Option (Item MacroId ImportOrExternCrate))
          → (slot_after_candidate makro.ghosts.eq item_import.ghosts.eq (macro_candidate o import) (slot_at scope.macros globs.macros place)).bound
          ≡ first_of (item_at scope.macros place.1) (option_map (λ (i : Item MacroId ImportOrExternCrate). item_of i.def i.vis import) o)
      of_macros None = first_of-none (item_at scope.macros place.1)
      of_macros (Some i) = slot_after_candidate-glob makro.ghosts.eq item_import.ghosts.eq
          (record { push = record { item = item_of i.def i.vis import; is_glob = is_glob import }; source = reached_by i.import (defs.MacroId i.def) })
          (slot_at scope.macros globs.macros place) globbed
