-- What imports bind is bound explicitly.
use Rattle.std.proofs.Common.{◌≡◌, ◌≢◌, ◌∙◌, ap, sym, refl, ℕ, zero, suc, ◌<◌, Bool, true, false, List, [], ◌∷◌, length, Option, None, Some, is_some, cond}
use Rattle.std.proofs.Common.{arith}
use Rattle.std.proofs.lemmas.Bool.{ltb-true}
use Rattle.std.specs.Prelude.{IsSome, nat_lt, slice_get}
use mathlib.Core.Bool.{true≢false}
use Rattle.hir_nameres.specs.HirIds.contracts.ids.ModuleDefIdPartialEq.TheImpl as module_def
use Rattle.hir_nameres.specs.HirIds.contracts.macro_kind.MacroIdPartialEq.TheImpl as makro
use Rattle.hir_nameres.specs.HirIds.declared.macro_kind.MacroId.{MacroId}
use Rattle.hir_nameres.specs.HirIds.declared.ids.ModuleDefId.{ModuleDefId}
use Rattle.hir_nameres.specs.HirIds.declared.ids.TraitId.{TraitId}
use Rattle.hir_nameres.specs.HirPerNs.contracts.imports.ImportOrExternCratePartialEq.TheImpl as item_import
use Rattle.hir_nameres.specs.HirPerNs.contracts.imports.ImportOrGlobPartialEq.TheImpl as value_import
use Rattle.hir_nameres.specs.HirPerNs.declared.imports.ImportId.{ImportId}
use Rattle.hir_nameres.specs.HirPerNs.declared.imports.ImportOrExternCrate.{ImportOrExternCrate}
use Rattle.hir_nameres.specs.HirPerNs.declared.imports.ImportOrGlob.{ImportOrGlob}
use Rattle.hir_nameres.specs.HirPerNs.declared.item_in_ns.ItemInNs.{ItemInNs}
use Rattle.hir_nameres.specs.HirPerNs.declared.per_ns.PerNs.{PerNs}
use Rattle.hir_nameres.specs.HirPerNs.declared.visibility.Visibility.{Visibility}
use Rattle.hir_nameres.specs.HirPerNs.declared.item_in_ns.ItemInNs.TheVariants as in_ns
use Rattle.hir_nameres.specs.HirScope.Bindings.{Candidate, macro_candidate, taken, takes, type_candidate, value_candidate, written_items}
use Rattle.hir_nameres.specs.HirScope.Entries.{item_at}
use Rattle.hir_nameres.specs.HirScope.Globs.{GlobNames, Place, has_place}
use Rattle.hir_nameres.specs.HirPerNs.PerNs.{Item}
use Rattle.hir_nameres.specs.HirScope.Scope.{ScopeValue}
use Rattle.hir_nameres.specs.HirScope.Scope.Push.{pushed_scope, taken_macro, taken_type, taken_value}
use Rattle.hir_nameres.specs.HirScope.Scope.Reads.{unnamed_vis}
use Rattle.hir_nameres.proofs.HirScope.AfterPush.{declarations_stay, item_at-with_entry, item_at-with_entry_other}
use Rattle.hir_nameres.proofs.HirScope.Pushes.{pushed-macros, pushed-types, pushed-values}
use Rattle.hir_nameres.proofs.HirDefMapRules.Grown.{length-changed}
use Rattle.hir_nameres.specs.HirDefMapRules.State.{ModuleValue, globs_after, module_at, place_at, pushed, with_module_scope, with_scope}
use Rattle.hir_glob_imports.specs.Keys.{slot_at}
use Rattle.hir_glob_imports.specs.View.{bound_in}
use Rattle.hir_glob_imports.specs.Waves.{IsExplicit}
use Rattle.hir_glob_imports.specs.declared.edge.Key.{Key}
use Rattle.hir_glob_imports.specs.declared.edge.Key.TheVariants.{Types, Values, Macros, Unnamed}
use Rattle.hir_import_growth.specs.Binding.{IsBound}
use Rattle.hir_import_rules.specs.Names.{ScopesValue, bound_by, bound_trait, view_of, with_trait}
use Rattle.hir_import_rules.specs.ScopeLaws.{bound_scope, keeps-trait}
use Rattle.hir_import_growth.specs.ViewLaws.{changed_here, changes_in_slot, changes_nowhere, differ_in_slot, differ_nowhere}

-- ---- one namespace

none_of : {X : Type 0} (o : Option X) → is_some o ≡ false → o ≡ None
none_of None e = refl
none_of (Some x) e = absurd (true≢false e)

some_of : {X : Type 0} (o : Option X) → is_some o ≡ true → (x : X) × (o ≡ Some x)
some_of None e = absurd (true≢false (sym e))
some_of (Some x) e = (x, refl)

module _ {D I : Type 0} (same_def : D → D → Bool) (same_import : I → I → Bool) where
  written_other : (es : List (List ℕ × Item D I)) (name other : List ℕ) (candidate : Option (Candidate D I)) → other ≢ name
      → item_at (written_items name candidate es) other ≡ item_at es other
  written_other es name other None ne = refl
  written_other es name other (Some c) ne = item_at-with_entry_other es name c.push.item other ne

  -- where there is a candidate, something is bound afterwards
  bound_after : (in_namespace : D → ItemInNs) (es : List (List ℕ × Item D I)) (globs : List Place) (place : Place) (c : Candidate D I)
      → IsSome (bound_by in_namespace (item_at (written_items place.1 (taken same_def same_import es globs place (Some c)) es) place.1))
  bound_after in_namespace es globs place c = go (item_at es place.1) refl
    where
      on : (b : Item D I) → item_at es place.1 ≡ Some b → (t : Bool)
          → IsSome (bound_by in_namespace (item_at (written_items place.1 (cond t (Some c) None) es) place.1))
      on b e true = ap (λ (o : Option (Item D I)). is_some (bound_by in_namespace o)) (item_at-with_entry es place.1 c.push.item)
      on b e false = ap (λ (o : Option (Item D I)). is_some (bound_by in_namespace o)) e

      go : (o : Option (Item D I)) → item_at es place.1 ≡ o
          → IsSome (bound_by in_namespace (item_at (written_items place.1 (cond (takes same_def same_import (has_place globs place) o c.push) (Some c) None) es)
          place.1))
      go None e = ap (λ (o : Option (Item D I)). is_some (bound_by in_namespace o)) (item_at-with_entry es place.1 c.push.item)
      go (Some b) e = on b e (takes same_def same_import (has_place globs place) (Some b) c.push)

-- the module of a number below the count
pub found-below : {A : Type 0} (xs : List A) (k : ℕ) → k < length xs → (x : A) × (slice_get xs k ≡ Some x)
found-below [] k low = absurd (omega arith)
found-below (x ∷ xs) zero low = (x, refl)
found-below (x ∷ xs) (suc k) low = found-below xs k (omega arith)

-- ---- namespace after namespace

module _ (n : ScopesValue) (home : ℕ) (name : List ℕ) (items : PerNs) (import : Option ImportOrExternCrate) where
  abbrev here : Place
  here = place_at n.map.id home name

  -- a scope once the types are pushed, once the values are too, and once all are
  abbrev with_types : ScopeValue → ScopeValue
  with_types s = record s { types = written_items name (taken_type s n.globs here items import) s.types }

  abbrev with_values : ScopeValue → ScopeValue
  with_values s = record s {
    types = written_items name (taken_type s n.globs here items import) s.types;
    values = written_items name (taken_value s n.globs here items import) s.values;
  }

  abbrev with_all : ScopeValue → ScopeValue
  with_all s = pushed_scope n.globs here items import s

  abbrev after_all : GlobNames
  after_all = globs_after n.map n.globs home name items import

  abbrev once : GlobNames → (ScopeValue → ScopeValue) → ScopesValue
  once globs change = record { finished = n.finished; map = with_scope n.map home change; globs = globs }

  types_apart : (s : ScopeValue) (key : Key) → key ≢ Types name → bound_scope (with_types s) key ≡ bound_scope s key
  types_apart s (Types other) ne = ap (bound_by in_ns.Types)
      (written_other module_def.ghosts.eq item_import.ghosts.eq s.types name other (taken_type s n.globs here items import) (λ e. ne (ap Types e)))
  types_apart s otherwise ne = refl

  values_apart : (s : ScopeValue) (key : Key) → key ≢ Values name → bound_scope (with_values s) key ≡ bound_scope (with_types s) key
  values_apart s (Values other) ne = ap (bound_by in_ns.Values)
      (written_other module_def.ghosts.eq value_import.ghosts.eq s.values name other (taken_value s n.globs here items import) (λ e. ne (ap Values e)))
  values_apart s otherwise ne = refl

  macros_apart : (s : ScopeValue) (key : Key) → key ≢ Macros name → bound_scope (with_all s) key ≡ bound_scope (with_values s) key
  macros_apart s (Types other) ne =
      ap (λ (es : List (List ℕ × Item ModuleDefId ImportOrExternCrate)). bound_by in_ns.Types (item_at es other)) (pushed-types s n.globs here import items)
  macros_apart s (Values other) ne =
      ap (λ (es : List (List ℕ × Item ModuleDefId ImportOrGlob)). bound_by in_ns.Values (item_at es other)) (pushed-values s n.globs here import items)
  macros_apart s (Macros other) ne =
      ap (λ (es : List (List ℕ × Item MacroId ImportOrExternCrate)). bound_by in_ns.Macros (item_at es other)) (pushed-macros s n.globs here import items)
      ∙ ap (bound_by in_ns.Macros) (written_other makro.ghosts.eq item_import.ghosts.eq s.macros name other (taken_macro s n.globs here items import)
      (λ e. ne (ap Macros e)))
  macros_apart s (Unnamed id) ne =
      ap (λ (ts : List (TraitId × Item (Unit {0}) ImportId)). bound_trait id (unnamed_vis (record s { unnamed_traits = ts }) id))
      (declarations_stay n.globs here import s items).unnamed_traits

  -- where nothing is pushed, nothing changes
  types_stay : items.types ≡ None → (s : ScopeValue) (key : Key) → bound_scope (with_types s) key ≡ bound_scope s key
  types_stay none s key = ap (λ (o : Option (Item ModuleDefId ImportOrExternCrate)). bound_scope (record s {
    types = written_items name (taken module_def.ghosts.eq item_import.ghosts.eq s.types n.globs.types here (type_candidate o import)) s.types;
  }) key) none

  values_stay : items.values ≡ None → (s : ScopeValue) (key : Key) → bound_scope (with_values s) key ≡ bound_scope (with_types s) key
  values_stay none s key = ap (λ (o : Option (Item ModuleDefId ImportOrGlob)). bound_scope (record s {
    types = written_items name (taken_type s n.globs here items import) s.types;
    values = written_items name (taken module_def.ghosts.eq value_import.ghosts.eq s.values n.globs.values here (value_candidate o import)) s.values;
  }) key) none

  macros_none : items.macros ≡ None → (s : ScopeValue) → written_items name (taken_macro s n.globs here items import) s.macros ≡ s.macros
  macros_none none s = ap (λ (o : Option (Item MacroId ImportOrExternCrate)).
      written_items name (taken makro.ghosts.eq item_import.ghosts.eq s.macros n.globs.macros here (macro_candidate o import)) s.macros) none

  macros_stay : items.macros ≡ None → (s : ScopeValue) (key : Key) → bound_scope (with_all s) key ≡ bound_scope (with_values s) key
  macros_stay none s (Types other) = macros_apart s (Types other) (λ e. absurd cc)
  macros_stay none s (Values other) = macros_apart s (Values other) (λ e. absurd cc)
  macros_stay none s (Macros other) =
      ap (λ (es : List (List ℕ × Item MacroId ImportOrExternCrate)). bound_by in_ns.Macros (item_at es other))
      (pushed-macros s n.globs here import items ∙ macros_none none s)
  macros_stay none s (Unnamed id) = macros_apart s (Unnamed id) (λ e. absurd cc)

  module _ (m : ModuleValue) (there : module_at n.map home ≡ Some m) where
    types_bound : is_some items.types ≡ true → IsSome (bound_in (view_of (once n.globs with_types)) (slot_at home (Types name)))
    types_bound some =
        let item = some_of items.types some in
        ap is_some (changed_here n home with_types n.globs m there (Types name))
        ∙ ap (λ (o : Option (Item ModuleDefId ImportOrExternCrate)). is_some
        (bound_by in_ns.Types (item_at (written_items name (taken module_def.ghosts.eq item_import.ghosts.eq m.scope.types n.globs.types here
        (type_candidate o import)) m.scope.types) name))) item.1
        ∙ bound_after module_def.ghosts.eq item_import.ghosts.eq in_ns.Types m.scope.types n.globs.types here _

    values_bound : is_some items.values ≡ true → IsSome (bound_in (view_of (once n.globs with_values)) (slot_at home (Values name)))
    values_bound some =
        let item = some_of items.values some in
        ap is_some (changed_here n home with_values n.globs m there (Values name))
        ∙ ap (λ (o : Option (Item ModuleDefId ImportOrGlob)). is_some
        (bound_by in_ns.Values (item_at (written_items name (taken module_def.ghosts.eq value_import.ghosts.eq m.scope.values n.globs.values here
        (value_candidate o import)) m.scope.values) name))) item.1
        ∙ bound_after module_def.ghosts.eq value_import.ghosts.eq in_ns.Values m.scope.values n.globs.values here _

    macros_bound : is_some items.macros ≡ true → IsSome (bound_in (view_of (once after_all with_all)) (slot_at home (Macros name)))
    macros_bound some =
        let item = some_of items.macros some in
        ap is_some (changed_here n home with_all after_all m there (Macros name))
        ∙ ap (λ (es : List (List ℕ × Item MacroId ImportOrExternCrate)). is_some (bound_by in_ns.Macros (item_at es name)))
        (pushed-macros m.scope n.globs here import items)
        ∙ ap (λ (o : Option (Item MacroId ImportOrExternCrate)). is_some
        (bound_by in_ns.Macros (item_at (written_items name (taken makro.ghosts.eq item_import.ghosts.eq m.scope.macros n.globs.macros here
        (macro_candidate o import)) m.scope.macros) name))) item.1
        ∙ bound_after makro.ghosts.eq item_import.ghosts.eq in_ns.Macros m.scope.macros n.globs.macros here _

  -- where the module is there
  there_from : (globs : GlobNames) (change : ScopeValue → ScopeValue) → (view_of (once globs change)).has home ≡ true → (view_of n).has home ≡ true
  there_from globs change is = sym (ap (λ (count : ℕ). nat_lt home count) (length-changed n.map.modules home (with_module_scope change))) ∙ is

  found : (view_of n).has home ≡ true → (m : ModuleValue) × (module_at n.map home ≡ Some m)
  found is = found-below n.map.modules home (ltb-true home (length n.map.modules) is)

  -- in each namespace in which something is pushed, something is bound afterwards where the module is there, and nothing else changes
  is_bound : IsBound home name items (view_of n) (view_of (once after_all with_all))
  is_bound = record {
    with_types = view_of (once n.globs with_types);
    with_values = view_of (once n.globs with_values);
    types = record {
      stays = λ none. changes_nowhere n home with_types n.globs (types_stay (none_of items.types none));
      bound = λ some. record {
        changes = changes_in_slot n home with_types n.globs (Types name) types_apart;
        bound = λ named is. let m = found is in types_bound m.0 m.1 some;
      };
    };
    values = record {
      stays = λ none. differ_nowhere n home with_types with_values n.globs n.globs (values_stay (none_of items.values none));
      bound = λ some. record {
        changes = differ_in_slot n home with_types with_values n.globs n.globs (Values name) values_apart;
        bound = λ named is. let m = found (there_from n.globs with_types is) in values_bound m.0 m.1 some;
      };
    };
    macros = record {
      stays = λ none. differ_nowhere n home with_values with_all n.globs after_all (macros_stay (none_of items.macros none));
      bound = λ some. record {
        changes = differ_in_slot n home with_values with_all n.globs after_all (Macros name) macros_apart;
        bound = λ named is. let m = found (there_from n.globs with_values is) in macros_bound m.0 m.1 some;
      };
    };
  }

-- a push to a name of a module
pub push_binds : (n : ScopesValue) (home : ℕ) (name : List ℕ) (items : PerNs) (import : Option ImportOrExternCrate)
    → IsBound home name items (view_of n) (view_of
    (record n { map = pushed n.map n.globs home name items import; globs = globs_after n.map n.globs home name items import }))
push_binds n home name items import = is_bound n home name items import

-- a trait that is kept without a name
pub keep_binds : (n : ScopesValue) (home : ℕ) (id : TraitId) (vis : Visibility) (leaf : Option ImportId)
    → IsExplicit (slot_at home (Unnamed id)) (view_of n) (view_of (record n { map = with_scope n.map home (with_trait id vis leaf) }))
keep_binds n home id vis leaf = record {
  changes = changes_in_slot n home (with_trait id vis leaf) n.globs (Unnamed id) (keeps-trait id vis leaf);
  bound = λ named is. absurd (true≢false named);
}
