-- So it is in each scope of a map, whatever globs and imports do there.
use Rattle.std.proofs.Common.{◌≡◌, ◌∙◌, ℕ, true, List, [], ◌∷◌, ◌++◌, Option, None, Some, slice_get, refl, sym, ap, subst}
use Rattle.hir_collector_rules.specs.HirIds.contracts.ids.ModuleDefIdPartialEq.TheImpl as module_def
use Rattle.hir_collector_rules.specs.HirIds.contracts.macro_kind.MacroIdPartialEq.TheImpl as makro
use Rattle.hir_collector_rules.specs.HirIds.declared.macro_kind.MacroId.{MacroId}
use Rattle.hir_collector_rules.specs.HirIds.declared.ids.ModuleDefId.{ModuleDefId}
use Rattle.hir_collector_rules.specs.HirIds.declared.ids.ModuleId.{ModuleId}
use Rattle.hir_collector_rules.specs.HirIds.declared.ids.TraitId.{TraitId}
use Rattle.hir_collector_rules.specs.HirIds.declared.ids.ModuleDefId.TheVariants as definitions
use Rattle.hir_collector_rules.specs.HirPerNs.contracts.imports.ImportOrExternCratePartialEq.TheImpl as item_import
use Rattle.hir_collector_rules.specs.HirPerNs.contracts.imports.ImportOrGlobPartialEq.TheImpl as glob_import
use Rattle.hir_collector_rules.specs.HirScope.Bindings.{macro_candidate, type_candidate, value_candidate, with_item_definition, with_item_visibility}
use Rattle.hir_collector_rules.specs.HirScope.Globs.{GlobNames, Place}
use Rattle.hir_collector_rules.specs.HirScope.ImportRecords.{is_glob, reached_by, value_reached_by}
use Rattle.hir_collector_rules.specs.HirPerNs.PerNs.{Item, value_import}
use Rattle.hir_collector_rules.specs.HirScope.Scope.{ScopeValue, empty_scope}
use Rattle.hir_collector_rules.specs.HirScope.Scope.Push.{pushed_scope}
use Rattle.hir_collector_rules.specs.HirPerNs.declared.imports.ImportId.{ImportId}
use Rattle.hir_collector_rules.specs.HirPerNs.declared.imports.ImportOrExternCrate.{ImportOrExternCrate}
use Rattle.hir_collector_rules.specs.HirPerNs.declared.imports.ImportOrGlob.{ImportOrGlob}
use Rattle.hir_collector_rules.specs.HirPerNs.declared.item_in_ns.ItemInNs.{ItemInNs}
use Rattle.hir_collector_rules.specs.HirPerNs.declared.per_ns.PerNs.{PerNs}
use Rattle.hir_collector_rules.specs.HirPerNs.declared.visibility.Visibility.{Visibility}
use Rattle.hir_collector_rules.specs.HirPerNs.declared.imports.ImportOrExternCrate.TheVariants as ways
use Rattle.hir_collector_rules.specs.HirPerNs.declared.item_in_ns.ItemInNs.TheVariants as in_ns
use Rattle.hir_collector_rules.proofs.HirScope.Pushes.{pushed-macros, pushed-types, pushed-values}
use Rattle.hir_collector_rules.specs.HirDefMapRules.State.{ModuleValue, changed_at, with_module_scope}
use Rattle.hir_collector_rules.specs.HirGlobImports.Keys.{slot_at}
use Rattle.hir_collector_rules.specs.HirGlobImports.Rules.{BroughtBy, with_brought}
use Rattle.hir_collector_rules.specs.HirGlobImports.declared.edge.Brought.{Brought}
use Rattle.hir_collector_rules.specs.HirGlobImports.declared.edge.Key.{Key}
use Rattle.hir_collector_rules.specs.HirGlobImports.declared.edge.Slot.{Slot}
use Rattle.hir_collector_rules.specs.HirGlobImports.declared.edge.Key.TheVariants.{Types, Values, Macros, Unnamed}
use Rattle.hir_collector_rules.specs.HirImportRules.Names.{redefined, revised, with_trait}
use Rattle.hir_collector_rules.proofs.ImportEdits.{Edit, edit, keeps_unnamed, pushes_to, redefines, revises}
use Rattle.hir_def_collector_laws.proofs.ModuleLists.{IsChanged, IsOfLonger, changed-at, changed_one, newest, of_longer, older, other_one}
use Rattle.hir_def_collector_laws.proofs.NotedScopes.{HasSameNames}
use Rattle.hir_def_collector_written.proofs.Declares.{plain}
use Rattle.hir_def_collector_written.proofs.OwnItems.{AreOwnItems, HasNoOwn, IsOwnItem, items_after, none_anew, none_pushed, own_anew, own_noted, own_pushed}
use Rattle.hir_def_collector_written.proofs.OwnItems.{own_unbrought}

-- an import brought what stands at a key of a scope, if anything does
abbrev pub HasNoOwnAt : ScopeValue → Key → Type 0
HasNoOwnAt s (Types name) = HasNoOwn s.types name
HasNoOwnAt s (Values name) = HasNoOwn s.values name
HasNoOwnAt s (Macros name) = HasNoOwn s.macros name
HasNoOwnAt s (Unnamed id) = Unit {0}

-- so it is in a slot of these modules
pub record NoOwnIn (ms : List ModuleValue) (number : ℕ) (key : Key) : Type 0 where
  pub none : (m : ModuleValue) → slice_get ms number ≡ Some m → HasNoOwnAt m.scope key

-- what a glob pushes carries an import
type_imported : (by : Option ImportOrExternCrate) → is_glob by ≡ true → by ≡ None → ⊥
type_imported None e f = let no : ⊥ = cc in no
type_imported (Some way) e f = let no : ⊥ = cc in no

value_imported : (by : Option ImportOrExternCrate) → is_glob by ≡ true → value_import by ≡ None → ⊥
value_imported None e f = let no : ⊥ = cc in no
value_imported (Some (ways.Glob id)) e f = let no : ⊥ = cc in no
value_imported (Some (ways.Import id)) e f = let no : ⊥ = cc in no
value_imported (Some (ways.ExternCrate id)) e f = let no : ⊥ = cc in no

-- ---- that stays so as globs go on

module _ (globs : GlobNames) (place : Place) (items : PerNs) (by : Option ImportOrExternCrate) (glob : is_glob by ≡ true) (s : ScopeValue) where
  no_type_pushed : (name : List ℕ) → HasNoOwn s.types name → HasNoOwn (pushed_scope globs place items by s).types name
  no_type_pushed name vacant =
      subst (λ (xs : List (List ℕ × Item ModuleDefId ImportOrExternCrate)). HasNoOwn xs name) (sym (pushed-types s globs place by items)) (go items.types)
    where
      go : (o : Option (Item ModuleDefId ImportOrExternCrate))
          → HasNoOwn (items_after module_def.ghosts.eq item_import.ghosts.eq globs.types place s.types (type_candidate o by)) name
      go None = vacant
      go (Some i) =
          none_pushed module_def.ghosts.eq item_import.ghosts.eq globs.types place s.types
          (record { push = record { item = record { def = i.def; vis = i.vis; import = by }; is_glob = is_glob by }; source = reached_by i.import i.def })
          (type_imported by glob) name vacant

  no_value_pushed : (name : List ℕ) → HasNoOwn s.values name → HasNoOwn (pushed_scope globs place items by s).values name
  no_value_pushed name vacant =
      subst (λ (xs : List (List ℕ × Item ModuleDefId ImportOrGlob)). HasNoOwn xs name) (sym (pushed-values s globs place by items)) (go items.values)
    where
      go : (o : Option (Item ModuleDefId ImportOrGlob))
          → HasNoOwn (items_after module_def.ghosts.eq glob_import.ghosts.eq globs.values place s.values (value_candidate o by)) name
      go None = vacant
      go (Some i) =
          none_pushed module_def.ghosts.eq glob_import.ghosts.eq globs.values place s.values
          (record {
            push = record { item = record { def = i.def; vis = i.vis; import = value_import by }; is_glob = is_glob by };
            source = value_reached_by i.import i.def;
          })
          (value_imported by glob) name vacant

  no_macro_pushed : (name : List ℕ) → HasNoOwn s.macros name → HasNoOwn (pushed_scope globs place items by s).macros name
  no_macro_pushed name vacant =
      subst (λ (xs : List (List ℕ × Item MacroId ImportOrExternCrate)). HasNoOwn xs name) (sym (pushed-macros s globs place by items)) (go items.macros)
    where
      go : (o : Option (Item MacroId ImportOrExternCrate))
          → HasNoOwn (items_after makro.ghosts.eq item_import.ghosts.eq globs.macros place s.macros (macro_candidate o by)) name
      go None = vacant
      go (Some i) =
          none_pushed makro.ghosts.eq item_import.ghosts.eq globs.macros place s.macros
          (record {
            push = record { item = record { def = i.def; vis = i.vis; import = by }; is_glob = is_glob by };
            source = reached_by i.import
                (definitions.MacroId i.def);
          })
          (type_imported by glob) name vacant

pub none_pushed_in : (globs : GlobNames) (place : Place) (items : PerNs) (by : Option ImportOrExternCrate) → is_glob by ≡ true → (s : ScopeValue) (key : Key)
    → HasNoOwnAt s key
    → HasNoOwnAt (pushed_scope globs place items by s) key
none_pushed_in globs place items by glob s (Types name) vacant = no_type_pushed globs place items by glob s name vacant
none_pushed_in globs place items by glob s (Values name) vacant = no_value_pushed globs place items by glob s name vacant
none_pushed_in globs place items by glob s (Macros name) vacant = no_macro_pushed globs place items by glob s name vacant
none_pushed_in globs place items by glob s (Unnamed id) vacant = tt

pub none_redefined : (name : List ℕ) (def : ItemInNs) (vis : Visibility) (s : ScopeValue) (key : Key) → HasNoOwnAt s key
    → HasNoOwnAt (redefined name def vis s) key
none_redefined name (in_ns.Types def) vis s (Types n) vacant = none_anew (with_item_definition def vis) s.types name (λ i. refl) n vacant
none_redefined name (in_ns.Types def) vis s (Values n) vacant = vacant
none_redefined name (in_ns.Types def) vis s (Macros n) vacant = vacant
none_redefined name (in_ns.Types def) vis s (Unnamed id) vacant = tt
none_redefined name (in_ns.Values def) vis s (Types n) vacant = vacant
none_redefined name (in_ns.Values def) vis s (Values n) vacant = none_anew (with_item_definition def vis) s.values name (λ i. refl) n vacant
none_redefined name (in_ns.Values def) vis s (Macros n) vacant = vacant
none_redefined name (in_ns.Values def) vis s (Unnamed id) vacant = tt
none_redefined name (in_ns.Macros def) vis s (Types n) vacant = vacant
none_redefined name (in_ns.Macros def) vis s (Values n) vacant = vacant
none_redefined name (in_ns.Macros def) vis s (Macros n) vacant = none_anew (with_item_definition def vis) s.macros name (λ i. refl) n vacant
none_redefined name (in_ns.Macros def) vis s (Unnamed id) vacant = tt

-- a trait without a name is none of these
pub none_kept : (id : TraitId) (vis : Visibility) (by : Option ImportId) (s : ScopeValue) (key : Key) → HasNoOwnAt s key
    → HasNoOwnAt (with_trait id vis by s) key
none_kept id vis by s (Unnamed other) vacant = tt
none_kept id vis by s other vacant = vacant

-- in the modules of a map
pub none_changed : (ms : List ModuleValue) (at : ℕ) (change : ScopeValue → ScopeValue) (number : ℕ) (key : Key)
    → ((s : ScopeValue) → HasNoOwnAt s key → HasNoOwnAt (change s) key)
    → NoOwnIn ms number key → NoOwnIn (changed_at ms at (with_module_scope change)) number key
none_changed ms at change number key keeps f = record { none = λ m e. go m (changed-at ms at (with_module_scope change) number m e) }
  where
    go : (m : ModuleValue) → IsChanged ms at (with_module_scope change) number m → HasNoOwnAt m.scope key
    go m (changed_one old same there is) = subst (λ (v : ModuleValue). HasNoOwnAt v.scope key) (sym is) (keeps old.scope (f.none old there))
    go m (other_one ne there) = f.none m there

-- an edit of these modules by a glob: what is written anew, an import brought
abbrev pub IsAlongEdit : List ModuleValue → ℕ → Edit → Type 0
IsAlongEdit ms home (pushes_to globs name items by) = is_glob by ≡ true
IsAlongEdit ms home (keeps_unnamed id vis by) = Unit {0}
IsAlongEdit ms home (redefines name (in_ns.Types def) vis) = NoOwnIn ms home (Types name)
IsAlongEdit ms home (redefines name (in_ns.Values def) vis) = NoOwnIn ms home (Values name)
IsAlongEdit ms home (redefines name (in_ns.Macros def) vis) = NoOwnIn ms home (Macros name)
IsAlongEdit ms home (revises key vis) = NoOwnIn ms home key

-- ---- what holds of each

module _ (OwnType : ℕ → List ℕ → Item ModuleDefId ImportOrExternCrate → Type 0) (OwnValue : ℕ → List ℕ → Item ModuleDefId ImportOrGlob → Type 0)
    (OwnMacro : ℕ → List ℕ → Item MacroId ImportOrExternCrate → Type 0) where
  -- ---- a scope

  pub record IsOwnScope (brought : BroughtBy) (number : ℕ) (s : ScopeValue) : Type 0 where
    pub types : AreOwnItems Types (OwnType number) brought number s.types
    pub values : AreOwnItems Values (OwnValue number) brought number s.values
    pub macros : AreOwnItems Macros (OwnMacro number) brought number s.macros

  own_same : (brought : BroughtBy) (number : ℕ) (old new : ScopeValue) → HasSameNames old new → IsOwnScope brought number old → IsOwnScope brought number new
  own_same brought number old new same f = record {
    types = subst (λ (xs : List (List ℕ × Item ModuleDefId ImportOrExternCrate)). AreOwnItems Types (OwnType number) brought number xs)
        (sym same.types) f.types;
    values = subst (λ (xs : List (List ℕ × Item ModuleDefId ImportOrGlob)). AreOwnItems Values (OwnValue number) brought number xs) (sym same.values) f.values;
    macros = subst (λ (xs : List (List ℕ × Item MacroId ImportOrExternCrate)). AreOwnItems Macros (OwnMacro number) brought number xs)
        (sym same.macros) f.macros;
  }

  own_forgotten : (brought brought' : BroughtBy) (number : ℕ) (s : ScopeValue)
      → ((key : Key) → brought (slot_at number key) ≡ None → brought' (slot_at number key) ≡ None)
      → IsOwnScope brought number s → IsOwnScope brought' number s
  own_forgotten brought brought' number s keeps f = record {
    types = own_unbrought Types (OwnType number) brought brought' number s.types (λ name. keeps (Types name)) f.types;
    values = own_unbrought Values (OwnValue number) brought brought' number s.values (λ name. keeps (Values name)) f.values;
    macros = own_unbrought Macros (OwnMacro number) brought brought' number s.macros (λ name. keeps (Macros name)) f.macros;
  }

  -- a glob is noted as what brought what stands in a slot that an import brought
  module _ (brought : BroughtBy) (now : Brought) (number home : ℕ) (key : Key) (s : ScopeValue) (apart : home ≡ number → HasNoOwnAt s key)
      (f : IsOwnScope brought number s) where
    here : (other : Key) → slot_at home key ≡ slot_at number other → HasNoOwnAt s other
    here other e = subst (λ (k : Key). HasNoOwnAt s k) (ap (λ (x : Slot). x.key) e) (apart (ap (λ (x : Slot). x.at) e))

    pub own_noted_in : IsOwnScope (with_brought brought (slot_at home key) (Some now)) number s
    own_noted_in = record {
      types = own_noted Types (OwnType number) brought now number home key s.types (λ name e. here (Types name) e) f.types;
      values = own_noted Values (OwnValue number) brought now number home key s.values (λ name e. here (Values name) e) f.values;
      macros = own_noted Macros (OwnMacro number) brought now number home key s.macros (λ name e. here (Macros name) e) f.macros;
    }

  -- ---- a push

  -- what is pushed without an import is such an item, and no glob is noted to have brought it
  pub record IsOwnPush (brought : BroughtBy) (number : ℕ) (name : List ℕ) (items : PerNs) (by : Option ImportOrExternCrate) : Type 0 where
    pub types : (i : Item ModuleDefId ImportOrExternCrate) → items.types ≡ Some i → by ≡ None → IsOwnItem Types (OwnType number) brought number name (plain i)
    pub values : (i : Item ModuleDefId ImportOrGlob) → items.values ≡ Some i → value_import by ≡ None
        → IsOwnItem Values (OwnValue number) brought number name (plain i)
    pub macros : (i : Item MacroId ImportOrExternCrate) → items.macros ≡ Some i → by ≡ None → IsOwnItem Macros (OwnMacro number) brought number name (plain i)

  -- what a glob pushes is none
  glob_push : (brought : BroughtBy) (number : ℕ) (name : List ℕ) (items : PerNs) (by : Option ImportOrExternCrate) → is_glob by ≡ true
      → IsOwnPush brought number name items by
  glob_push brought number name items by glob = record {
    types = λ i e none. absurd (type_imported by glob none);
    values = λ i e none. absurd (value_imported by glob none);
    macros = λ i e none. absurd (type_imported by glob none);
  }

  module _ (brought : BroughtBy) (globs : GlobNames) (number : ℕ) (place : Place) (items : PerNs) (by : Option ImportOrExternCrate)
      (fine : IsOwnPush brought number place.1 items by)
      (s : ScopeValue) (f : IsOwnScope brought number s) where
    types_pushed : AreOwnItems Types (OwnType number) brought number (pushed_scope globs place items by s).types
    types_pushed =
        subst (λ (xs : List (List ℕ × Item ModuleDefId ImportOrExternCrate)). AreOwnItems Types (OwnType number) brought number xs)
        (sym (pushed-types s globs place by items)) (go items.types refl)
      where
        go : (o : Option (Item ModuleDefId ImportOrExternCrate)) → items.types ≡ o
            → AreOwnItems Types (OwnType number) brought number
            (items_after module_def.ghosts.eq item_import.ghosts.eq globs.types place s.types (type_candidate o by))
        go None is = f.types
        go (Some i) is =
            own_pushed Types (OwnType number) module_def.ghosts.eq item_import.ghosts.eq globs.types place brought number s.types
            (record { push = record { item = record { def = i.def; vis = i.vis; import = by }; is_glob = is_glob by }; source = reached_by i.import i.def })
            (λ none. subst
            (λ (x : Option ImportOrExternCrate). IsOwnItem Types (OwnType number) brought number place.1 (record { def = i.def; vis = i.vis; import = x }))
            (sym none) (fine.types i is none))
            f.types

    values_pushed : AreOwnItems Values (OwnValue number) brought number (pushed_scope globs place items by s).values
    values_pushed =
        subst (λ (xs : List (List ℕ × Item ModuleDefId ImportOrGlob)). AreOwnItems Values (OwnValue number) brought number xs)
        (sym (pushed-values s globs place by items)) (go items.values refl)
      where
        go : (o : Option (Item ModuleDefId ImportOrGlob)) → items.values ≡ o
            → AreOwnItems Values (OwnValue number) brought number
            (items_after module_def.ghosts.eq glob_import.ghosts.eq globs.values place s.values (value_candidate o by))
        go None is = f.values
        go (Some i) is =
            own_pushed Values (OwnValue number) module_def.ghosts.eq glob_import.ghosts.eq globs.values place brought number s.values
            (record {
              push = record { item = record { def = i.def; vis = i.vis; import = value_import by }; is_glob = is_glob by };
              source = value_reached_by i.import i.def;
            })
            (λ none. subst
            (λ (x : Option ImportOrGlob). IsOwnItem Values (OwnValue number) brought number place.1 (record { def = i.def; vis = i.vis; import = x }))
            (sym none) (fine.values i is none))
            f.values

    macros_pushed : AreOwnItems Macros (OwnMacro number) brought number (pushed_scope globs place items by s).macros
    macros_pushed =
        subst (λ (xs : List (List ℕ × Item MacroId ImportOrExternCrate)). AreOwnItems Macros (OwnMacro number) brought number xs)
        (sym (pushed-macros s globs place by items)) (go items.macros refl)
      where
        go : (o : Option (Item MacroId ImportOrExternCrate)) → items.macros ≡ o
            → AreOwnItems Macros (OwnMacro number) brought number
            (items_after makro.ghosts.eq item_import.ghosts.eq globs.macros place s.macros (macro_candidate o by))
        go None is = f.macros
        go (Some i) is =
            own_pushed Macros (OwnMacro number) makro.ghosts.eq item_import.ghosts.eq globs.macros place brought number s.macros
            (record {
              push = record { item = record { def = i.def; vis = i.vis; import = by }; is_glob = is_glob by };
              source = reached_by i.import
                  (definitions.MacroId i.def);
            })
            (λ none. subst
            (λ (x : Option ImportOrExternCrate). IsOwnItem Macros (OwnMacro number) brought number place.1 (record { def = i.def; vis = i.vis; import = x }))
            (sym none) (fine.macros i is none))
            f.macros

    pub own_pushed_in : IsOwnScope brought number (pushed_scope globs place items by s)
    own_pushed_in = record { types = types_pushed; values = values_pushed; macros = macros_pushed }

  -- ---- edits along globs

  module _ (brought : BroughtBy) (home : ℕ) (m : ModuleId) (ms : List ModuleValue) (v : ModuleValue) (at : slice_get ms home ≡ Some v)
      (f : IsOwnScope brought home v.scope) where
    revised_in : (key : Key) (vis : Visibility) → NoOwnIn ms home key → IsOwnScope brought home (revised key vis v.scope)
    revised_in (Types name) vis fine = record {
      types = own_anew Types (OwnType home) (with_item_visibility vis) (λ i. refl) v.scope.types name brought home (fine.none v at) f.types;
      values = f.values;
      macros = f.macros;
    }
    revised_in (Values name) vis fine = record {
      types = f.types;
      values = own_anew Values (OwnValue home) (with_item_visibility vis) (λ i. refl) v.scope.values name brought home (fine.none v at) f.values;
      macros = f.macros;
    }
    revised_in (Macros name) vis fine = record {
      types = f.types;
      values = f.values;
      macros = own_anew Macros (OwnMacro home) (with_item_visibility vis) (λ i. refl) v.scope.macros name brought home (fine.none v at) f.macros;
    }
    revised_in (Unnamed id) vis fine = record { types = f.types; values = f.values; macros = f.macros }

    pub own_edit : (e : Edit) → IsAlongEdit ms home e → IsOwnScope brought home (edit m e v.scope)
    own_edit (pushes_to globs name items by) fine = own_pushed_in brought globs home (m, name) items by (glob_push brought home name items by fine) v.scope f
    own_edit (keeps_unnamed id vis by) fine = record { types = f.types; values = f.values; macros = f.macros }
    own_edit (redefines name (in_ns.Types def) vis) fine = record {
      types = own_anew Types (OwnType home) (with_item_definition def vis) (λ i. refl) v.scope.types name brought home (fine.none v at) f.types;
      values = f.values;
      macros = f.macros;
    }
    own_edit (redefines name (in_ns.Values def) vis) fine = record {
      types = f.types;
      values = own_anew Values (OwnValue home) (with_item_definition def vis) (λ i. refl) v.scope.values name brought home (fine.none v at) f.values;
      macros = f.macros;
    }
    own_edit (redefines name (in_ns.Macros def) vis) fine = record {
      types = f.types;
      values = f.values;
      macros = own_anew Macros (OwnMacro home) (with_item_definition def vis) (λ i. refl) v.scope.macros name brought home (fine.none v at) f.macros;
    }
    own_edit (revises key vis) fine = revised_in key vis fine

  -- ---- modules

  pub record AreOwnModules (brought : BroughtBy) (ms : List ModuleValue) : Type 0 where
    pub each : (number : ℕ) (m : ModuleValue) → slice_get ms number ≡ Some m → IsOwnScope brought number m.scope

  -- one changes, and globs are noted to have brought nothing more
  module _ (brought brought' : BroughtBy) (ms : List ModuleValue) (at : ℕ) (change : ModuleValue → ModuleValue)
      (keeps : (number : ℕ) (key : Key) → brought (slot_at number key) ≡ None → brought' (slot_at number key) ≡ None)
      (here : (old : ModuleValue) → slice_get ms at ≡ Some old → IsOwnScope brought' at old.scope → IsOwnScope brought' at (change old).scope) where
    pub own_changed : AreOwnModules brought ms → AreOwnModules brought' (changed_at ms at change)
    own_changed f = record { each = λ number m e. go number m (changed-at ms at change number m e) }
      where
        go : (number : ℕ) (m : ModuleValue) → IsChanged ms at change number m → IsOwnScope brought' number m.scope
        go number m (changed_one old same there is) =
            let found : slice_get ms at ≡ Some old = subst (λ (k : ℕ). slice_get ms k ≡ Some old) same there in
            let before : IsOwnScope brought' at old.scope = own_forgotten brought brought' at old.scope (keeps at) (f.each at old found) in
            subst (λ (k : ℕ). IsOwnScope brought' k m.scope) (sym same)
            (subst (λ (v : ModuleValue). IsOwnScope brought' at v.scope) (sym is) (here old found before))
        go number m (other_one ne there) = own_forgotten brought brought' number m.scope (keeps number) (f.each number m there)

  -- names stand for what they did
  pub own_rescoped : (brought : BroughtBy) (ms : List ModuleValue) (at : ℕ) (change : ModuleValue → ModuleValue)
      → ((m : ModuleValue) → HasSameNames m.scope (change m).scope)
      → AreOwnModules brought ms → AreOwnModules brought (changed_at ms at change)
  own_rescoped brought ms at change same f =
      own_changed brought brought ms at change (λ number key none. none) (λ old there g. own_same brought at old.scope (change old).scope (same old) g) f

  -- one more binds nothing
  pub own_longer : (brought : BroughtBy) (ms : List ModuleValue) (new : ModuleValue) → new.scope ≡ empty_scope → AreOwnModules brought ms
      → AreOwnModules brought (ms ++ new ∷ [])
  own_longer brought ms new empty f = record { each = λ number m e. go number m (of_longer ms new number m e) }
    where
      nothing : (number : ℕ) → IsOwnScope brought number empty_scope
      nothing number = record {
        types = λ name i e none. absurd (let no : ⊥ = cc in no);
        values = λ name i e none. absurd (let no : ⊥ = cc in no);
        macros = λ name i e none. absurd (let no : ⊥ = cc in no);
      }

      go : (number : ℕ) (m : ModuleValue) → IsOfLonger ms new number m → IsOwnScope brought number m.scope
      go number m (older h) = f.each number m h
      go number m (newest h) = subst (λ (s : ScopeValue). IsOwnScope brought number s) (sym (ap (λ (v : ModuleValue). v.scope) h ∙ empty)) (nothing number)

  -- a glob is noted as what brought what stands in a slot that an import brought
  pub own_noted_there : (brought : BroughtBy) (now : Brought) (home : ℕ) (key : Key) (ms : List ModuleValue) → NoOwnIn ms home key → AreOwnModules brought ms
      → AreOwnModules (with_brought brought (slot_at home key) (Some now)) ms
  own_noted_there brought now home key ms none_own f = record {
    each = λ number m e. own_noted_in brought now number home key m.scope (λ same. none_own.none m (subst (λ (k : ℕ). slice_get ms k ≡ Some m) (sym same) e))
        (f.each number m e);
  }
