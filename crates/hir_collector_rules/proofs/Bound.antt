-- What is bound stays bound, and what is pushed is bound.
use Rattle.std.proofs.Common.{◌≡◌, ◌≢◌, ◌∙◌, ℕ, zero, suc, ◌<◌, Bool, true, false, ◌||◌, cond, List, [], ◌∷◌, length, slice_get, Option, Some, None, is_some}
use Rattle.std.proofs.Common.{◌⊎◌, inl, inr, refl, ap, subst, arith}
use Rattle.std.specs.Option.{option_map}
use Rattle.std.specs.BTreeMap.{is_at}
use Rattle.std.specs.Ordering.{nat_cmp, ordering_reverse}
use Rattle.std.specs.Cmp.Lexicographic.{slice_cmp}
use Rattle.std.specs.declared.cmp.Ordering.{Ordering}
use Rattle.std.specs.declared.cmp.Ordering.TheVariants.{Less, Equal, Greater}
use Rattle.std.proofs.lemmas.Bool.{cases_lt}
use Rattle.std.proofs.lemmas.Cmp.{nat_list_cmp_total}
use Rattle.hir_nameres.specs.HirIds.contracts.ids.ModuleDefIdPartialEq.TheImpl as module_def
use Rattle.hir_nameres.specs.HirIds.contracts.macro_kind.MacroIdPartialEq.TheImpl as makro
use Rattle.hir_nameres.specs.HirIds.declared.macro_kind.MacroId.{MacroId}
use Rattle.hir_nameres.specs.HirIds.declared.ids.ModuleDefId.{ModuleDefId}
use Rattle.hir_nameres.specs.HirIds.declared.ids.ModuleId.{ModuleId}
use Rattle.hir_nameres.specs.HirIds.declared.ids.TraitId.{TraitId}
use Rattle.hir_nameres.specs.HirPerNs.contracts.imports.ImportOrExternCratePartialEq.TheImpl as item_import
use Rattle.hir_nameres.specs.HirPerNs.contracts.imports.ImportOrGlobPartialEq.TheImpl as glob_import
use Rattle.hir_nameres.specs.HirScope.Bindings.{Candidate, macro_candidate, taken, takes, type_candidate, value_candidate}
use Rattle.hir_nameres.specs.HirScope.Bindings.{with_item_definition, with_item_visibility}
use Rattle.hir_nameres.specs.HirScope.Bindings.{written_items}
use Rattle.hir_nameres.specs.HirScope.Entries.{item_at}
use Rattle.hir_nameres.specs.HirScope.Globs.{GlobNames, Place, has_place}
use Rattle.hir_nameres.specs.HirPerNs.PerNs.{nothing, Item, is_nothing}
use Rattle.hir_nameres.specs.HirScope.Scope.{ScopeValue, binding_of}
use Rattle.hir_nameres.specs.HirScope.Scope.Push.{pushed_scope, taken_candidates, taken_macro, taken_type, taken_value, with_unresolved, written_scope}
use Rattle.hir_nameres.specs.HirPerNs.declared.imports.ImportId.{ImportId}
use Rattle.hir_nameres.specs.HirPerNs.declared.imports.ImportOrExternCrate.{ImportOrExternCrate}
use Rattle.hir_nameres.specs.HirPerNs.declared.imports.ImportOrGlob.{ImportOrGlob}
use Rattle.hir_nameres.specs.HirPerNs.declared.item_in_ns.ItemInNs.{ItemInNs}
use Rattle.hir_nameres.specs.HirPerNs.declared.per_ns.PerNs.{PerNs}
use Rattle.hir_nameres.specs.HirPerNs.declared.visibility.Visibility.{Visibility}
use Rattle.hir_nameres.specs.HirPerNs.declared.item_in_ns.ItemInNs.TheVariants as in_ns
use Rattle.hir_nameres.proofs.HirScope.AfterPush.{item_at-with_entry}
use Rattle.hir_nameres.proofs.HirScope.Pushes.{pushed-macros, pushed-types, pushed-values}
use Rattle.hir_nameres.specs.HirDefMapRules.State.{Map, ModuleValue, changed_at, entry_of, with_module_scope}
use Rattle.hir_nameres.specs.HirDefMapRules.Overlay.{Maps}
use Rattle.hir_glob_imports.specs.declared.edge.Key.{Key}
use Rattle.hir_glob_imports.specs.declared.edge.Key.TheVariants.{Types, Values, Macros, Unnamed}
use Rattle.hir_import_rules.specs.declared.namespaces.Namespaces.{Namespaces}
use Rattle.hir_import_rules.specs.Directives.{AreAmong, namespaces_of, both_of, brought, brought_type, imported}
use Rattle.hir_import_rules.specs.Names.{redefined, revised, with_trait}
use Rattle.hir_collector_rules.proofs.Entries.{rewritten_at, still_set, still_with_entry}
use Rattle.hir_collector_rules.proofs.ImportEdits.{Edit, edit, keeps_unnamed, pushes_to, redefines, revises}

-- ---- sets of namespaces

pub AreAmong-same : (a : Namespaces) → AreAmong a a
AreAmong-same a = record { types = λ h. h; values = λ h. h; macros = λ h. h }

pub AreAmong-trans : {a b c : Namespaces} → AreAmong a b → AreAmong b c → AreAmong a c
AreAmong-trans p q = record { types = λ h. q.types (p.types h); values = λ h. q.values (p.values h); macros = λ h. q.macros (p.macros h) }

pub AreAmong-by : {a b c : Namespaces} → b ≡ c → AreAmong a b → AreAmong a c
AreAmong-by {a} e p = subst (λ (x : Namespaces). AreAmong a x) e p

either : (a b : Bool) (P : Type 0) → (a ≡ true → P) → (b ≡ true → P) → (a || b) ≡ true → P
either true b P f g h = f refl
either false b P f g h = g h

pub AreAmong-both : {a b c : Namespaces} → AreAmong a c → AreAmong b c → AreAmong (both_of a b) c
AreAmong-both {a} {b} {c} p q = record {
  types = either a.types b.types (c.types ≡ true) p.types q.types;
  values = either a.values b.values (c.values ≡ true) p.values q.values;
  macros = either a.macros b.macros (c.macros ≡ true) p.macros q.macros;
}

pub AreAmong-nothing : (c : Namespaces) → AreAmong (namespaces_of nothing) c
AreAmong-nothing c =
    record { types = λ h. absurd (let no : ⊥ = cc in no); values = λ h. absurd (let no : ⊥ = cc in no); macros = λ h. absurd (let no : ⊥ = cc in no) }

-- ---- names and numbers

itself : (o : Ordering) → o ≡ ordering_reverse o → o ≡ Equal
itself Less e = absurd (let no : ⊥ = cc in no)
itself Equal e = refl
itself Greater e = absurd (let no : ⊥ = cc in no)

pub cmp_itself : (x y : List ℕ) → x ≡ y → slice_cmp nat_cmp x y ≡ Equal
cmp_itself x y e = subst (λ (z : List ℕ). slice_cmp nat_cmp x z ≡ Equal) e (itself (slice_cmp nat_cmp x x) (nat_list_cmp_total.antisymm x x))

pub number_same_or_not : (m n : ℕ) → (m ≡ n) ⊎ (m ≢ n)
number_same_or_not m n =
    elim (cases_lt m n) [ inl h ↦ inr (omega arith) | inr h ↦ elim (cases_lt n m) [ inl g ↦ inr (omega arith) | inr g ↦ inl (omega arith) ] ]

-- ---- one namespace

module _ {D I : Type 0} (es : List (List ℕ × Item D I)) where
  -- what is bound stays bound where something is written
  pub bound-written : (name : List ℕ) (o : Option (Candidate D I)) (other : List ℕ) → is_some (item_at es other) ≡ true
      → is_some (item_at (written_items name o es) other) ≡ true
  bound-written name None other h = h
  bound-written name (Some c) other h = still_with_entry (is_at (slice_cmp nat_cmp other)) (slice_cmp nat_cmp) es name c.push.item h

  -- or written anew
  pub bound-rewritten : (new : Item D I → Item D I) (name : List ℕ) (o : Option (Item D I)) (other : List ℕ) → is_some (item_at es other) ≡ true
      → is_some (item_at (rewritten_at new es name o) other) ≡ true
  bound-rewritten new name None other h = h
  bound-rewritten new name (Some i) other h = still_set (is_at (slice_cmp nat_cmp other)) (is_at (slice_cmp nat_cmp name)) es (new i) h

  -- what is offered is bound, or something else is
  pub bound-offered : (same_def : D → D → Bool) (same_import : I → I → Bool) (globs : List Place) (place : Place) (c : Candidate D I)
      → is_some (item_at (written_items place.1 (taken same_def same_import es globs place (Some c)) es) place.1) ≡ true
  bound-offered same_def same_import globs place c = go (item_at es place.1) refl
    where
      now : is_some (item_at (written_items place.1 (Some c) es) place.1) ≡ true
      now = ap (λ (o : Option (Item D I)). is_some o) (item_at-with_entry es place.1 c.push.item)

      chosen : (b : Bool) → is_some (item_at es place.1) ≡ true → is_some (item_at (written_items place.1 (cond b (Some c) None) es) place.1) ≡ true
      chosen true h = now
      chosen false h = h

      go : (o : Option (Item D I)) → item_at es place.1 ≡ o
          → is_some (item_at (written_items place.1 (cond (takes same_def same_import (has_place globs place) o c.push) (Some c) None) es) place.1) ≡ true
      go None e = now
      go (Some b) e = chosen (takes same_def same_import (has_place globs place) (Some b) c.push) (ap (λ (o : Option (Item D I)). is_some o) e)

-- ---- a scope

-- a change after which a scope binds what it bound, and declares what it declared
pub record KeepsBindings (change : ScopeValue → ScopeValue) : Type 0 where
  pub bound : (scope : ScopeValue) (name : List ℕ) → AreAmong (namespaces_of (binding_of scope name)) (namespaces_of (binding_of (change scope) name))
  pub declared : (scope : ScopeValue) → (change scope).declarations ≡ scope.declarations

keeps-pushed : (globs : GlobNames) (place : Place) (items : PerNs) (import : Option ImportOrExternCrate) → KeepsBindings (pushed_scope globs place items import)
keeps-pushed globs place items import = record { bound = bound; declared = λ scope. declared scope (is_nothing items) }
  where
    bound : (scope : ScopeValue) (name : List ℕ) → AreAmong (namespaces_of (binding_of scope name))
        (namespaces_of (binding_of (pushed_scope globs place items import scope) name))
    bound scope name = record {
      types =
          λ h. ap (λ (es : List _). is_some (item_at es name)) (pushed-types scope globs place import items) ∙ bound-written scope.types place.1
          (taken_type scope globs place items import) name h;
      values =
          λ h. ap (λ (es : List _). is_some (item_at es name)) (pushed-values scope globs place import items) ∙ bound-written scope.values place.1
          (taken_value scope globs place items import) name h;
      macros =
          λ h. ap (λ (es : List _). is_some (item_at es name)) (pushed-macros scope globs place import items) ∙ bound-written scope.macros place.1
          (taken_macro scope globs place items import) name h;
    }

    declared : (scope : ScopeValue) (b : Bool)
        → (cond b (with_unresolved scope place.1) (written_scope place.1 (taken_candidates scope globs place items import) scope)).declarations ≡ scope.declarations
    declared scope true = refl
    declared scope false = refl

keeps-trait : (id : TraitId) (vis : Visibility) (import : Option ImportId) → KeepsBindings (with_trait id vis import)
keeps-trait id vis import = record { bound = λ scope name. AreAmong-same (namespaces_of (binding_of scope name)); declared = λ scope. refl }

keeps-redefined : (name : List ℕ) (def : ItemInNs) (vis : Visibility) → KeepsBindings (redefined name def vis)
keeps-redefined name (in_ns.Types def) vis = record {
  bound =
      λ scope other. record {
        types = bound-rewritten scope.types (with_item_definition def vis) name (item_at scope.types name) other;
        values = λ h. h;
        macros = λ h. h;
      };
  declared = λ scope. refl;
}
keeps-redefined name (in_ns.Values def) vis = record {
  bound =
      λ scope other. record {
        types = λ h. h;
        values = bound-rewritten scope.values (with_item_definition def vis) name (item_at scope.values name) other;
        macros = λ h. h;
      };
  declared = λ scope. refl;
}
keeps-redefined name (in_ns.Macros def) vis = record {
  bound =
      λ scope other. record {
        types = λ h. h;
        values = λ h. h;
        macros = bound-rewritten scope.macros (with_item_definition def vis) name
            (item_at scope.macros name) other;
      };
  declared = λ scope. refl;
}

keeps-revised : (key : Key) (vis : Visibility) → KeepsBindings (revised key vis)
keeps-revised (Types name) vis = record {
  bound =
      λ scope other. record {
        types = bound-rewritten scope.types (with_item_visibility vis) name (item_at scope.types name) other;
        values = λ h. h;
        macros = λ h. h;
      };
  declared = λ scope. refl;
}
keeps-revised (Values name) vis = record {
  bound =
      λ scope other. record {
        types = λ h. h;
        values = bound-rewritten scope.values (with_item_visibility vis) name (item_at scope.values name) other;
        macros = λ h. h;
      };
  declared = λ scope. refl;
}
keeps-revised (Macros name) vis = record {
  bound =
      λ scope other. record {
        types = λ h. h;
        values = λ h. h;
        macros = bound-rewritten scope.macros (with_item_visibility vis) name (item_at scope.macros name)
            other;
      };
  declared = λ scope. refl;
}
keeps-revised (Unnamed id) vis = keeps-trait id vis None

pub keeps-edit : (m : ModuleId) (e : Edit) → KeepsBindings (edit m e)
keeps-edit m (pushes_to globs name items import) = keeps-pushed globs (m, name) items import
keeps-edit m (keeps_unnamed id vis import) = keeps-trait id vis import
keeps-edit m (redefines name def vis) = keeps-redefined name def vis
keeps-edit m (revises key vis) = keeps-revised key vis

-- ---- modules

-- what a module binds it binds once such a change is made of one
pub among-changed : (ms : List ModuleValue) (at : ℕ) (change : ScopeValue → ScopeValue) → KeepsBindings change → (k : ℕ) (name : List ℕ)
    → AreAmong (namespaces_of (entry_of (slice_get ms k) name)) (namespaces_of (entry_of (slice_get (changed_at ms at (with_module_scope change)) k) name))
among-changed [] at change keeps k name = AreAmong-nothing (namespaces_of nothing)
among-changed (m ∷ ms) zero change keeps zero name = keeps.bound m.scope name
among-changed (m ∷ ms) zero change keeps (suc k) name = AreAmong-same (namespaces_of (entry_of (slice_get ms k) name))
among-changed (m ∷ ms) (suc at) change keeps zero name = AreAmong-same (namespaces_of (binding_of m.scope name))
among-changed (m ∷ ms) (suc at) change keeps (suc k) name = among-changed ms at change keeps k name

-- ---- what is pushed

-- each namespace of the items is bound under the name
offered-pushed : (globs : GlobNames) (place : Place) (items : PerNs) (import : Option ImportOrExternCrate) (scope : ScopeValue)
    → AreAmong (namespaces_of items) (namespaces_of (binding_of (pushed_scope globs place items import scope) place.1))
offered-pushed globs place items import scope = record {
  types = λ h. ap (λ (es : List _). is_some (item_at es place.1)) (pushed-types scope globs place import items) ∙ type items.types h;
  values = λ h. ap (λ (es : List _). is_some (item_at es place.1)) (pushed-values scope globs place import items) ∙ value items.values h;
  macros = λ h. ap (λ (es : List _). is_some (item_at es place.1)) (pushed-macros scope globs place import items) ∙ macro items.macros h;
}
  where
    type : (o : Option (Item ModuleDefId ImportOrExternCrate)) → is_some o ≡ true
        → is_some (item_at (written_items place.1 (taken module_def.ghosts.eq item_import.ghosts.eq scope.types globs.types place (type_candidate o import))
        scope.types) place.1) ≡ true
    type None h = absurd (let no : ⊥ = cc in no)
    type (Some i) h = bound-offered scope.types module_def.ghosts.eq item_import.ghosts.eq globs.types place _

    value : (o : Option (Item ModuleDefId ImportOrGlob)) → is_some o ≡ true
        → is_some (item_at (written_items place.1 (taken module_def.ghosts.eq glob_import.ghosts.eq scope.values globs.values place (value_candidate o import))
        scope.values) place.1) ≡ true
    value None h = absurd (let no : ⊥ = cc in no)
    value (Some i) h = bound-offered scope.values module_def.ghosts.eq glob_import.ghosts.eq globs.values place _

    macro : (o : Option (Item MacroId ImportOrExternCrate)) → is_some o ≡ true
        → is_some (item_at (written_items place.1 (taken makro.ghosts.eq item_import.ghosts.eq scope.macros globs.macros place (macro_candidate o import))
        scope.macros) place.1) ≡ true
    macro None h = absurd (let no : ⊥ = cc in no)
    macro (Some i) h = bound-offered scope.macros makro.ghosts.eq item_import.ghosts.eq globs.macros place _

-- so it is in a module that is there
pub among-pushed : (ms : List ModuleValue) (at : ℕ) (globs : GlobNames) (place : Place) (items : PerNs) (import : Option ImportOrExternCrate) → at < length ms
    → AreAmong (namespaces_of items) (namespaces_of (entry_of (slice_get (changed_at ms at (with_module_scope (pushed_scope globs place items import))) at)
    place.1))
among-pushed [] at globs place items import h = absurd (omega arith)
among-pushed (m ∷ ms) zero globs place items import h = offered-pushed globs place items import m.scope
among-pushed (m ∷ ms) (suc at) globs place items import h = among-pushed ms at globs place items import (omega arith)

-- an import has what it offers, in the same namespaces
some_offered : {A B : Type 0} (f : A → B) (o : Option A) → is_some (option_map f o) ≡ is_some o
some_offered f None = refl
some_offered f (Some x) = refl

pub namespaces_of-imported : (finished : Maps) (m : Map) (own : Visibility) (alone : Bool) (items : PerNs) → namespaces_of (imported finished m own alone items)
    ≡ namespaces_of items
namespaces_of-imported finished m own alone items =
    rw (
      some_offered (brought_type finished m own alone) items.types,
      some_offered (brought finished m own) items.values,
      some_offered (brought finished m own)
          items.macros,
    ) refl
