-- Of what names stand for that no import brought, something holds where a run stands, and no glob is noted as what brought it.
use Rattle.std.proofs.Common.{◌≡◌, ◌∙◌, ℕ, Bool, true, false, List, Option, None, Some, is_some, map as list_map, if◌then◌else◌, refl, sym, ap, subst}
use Rattle.hir_collector_rules.specs.HirIds.declared.macro_kind.MacroId.{MacroId}
use Rattle.hir_collector_rules.specs.HirIds.declared.ids.ModuleDefId.{ModuleDefId}
use Rattle.hir_collector_rules.specs.HirScope.Entries.{item_at}
use Rattle.hir_collector_rules.specs.HirPerNs.PerNs.{Item, value_import}
use Rattle.hir_collector_rules.specs.HirScope.Scope.{ScopeValue}
use Rattle.hir_collector_rules.specs.HirPerNs.declared.imports.GlobId.{GlobId}
use Rattle.hir_collector_rules.specs.HirPerNs.declared.imports.ImportOrExternCrate.{ImportOrExternCrate}
use Rattle.hir_collector_rules.specs.HirPerNs.declared.imports.ImportOrGlob.{ImportOrGlob}
use Rattle.hir_collector_rules.specs.HirPerNs.declared.per_ns.PerNs.{PerNs}
use Rattle.hir_collector_rules.specs.HirPerNs.declared.visibility.Visibility.{Visibility}
use Rattle.hir_collector_rules.specs.HirPerNs.declared.imports.ImportOrExternCrate.TheVariants as ways
use Rattle.hir_collector_rules.specs.HirPerNs.declared.item_in_ns.ItemInNs.TheVariants as in_ns
use Rattle.hir_collector_rules.specs.HirDefMapRules.Declaration.{listed}
use Rattle.hir_collector_rules.specs.HirDefMapRules.Overlay.{Maps}
use Rattle.hir_collector_rules.specs.HirDefMapRules.State.{Map, ModuleValue, changed_at, entry_of, module_at, new_id}
use Rattle.hir_collector_rules.specs.HirDefMapRules.State.{new_module, numbered, place_at, pushed_module, with_child}
use Rattle.hir_collector_rules.specs.HirDefMapRules.State.{with_module_scope}
use Rattle.hir_collector_rules.specs.HirGlobImports.Keys.{same_slot, slot_at}
use Rattle.hir_collector_rules.specs.HirGlobImports.Moves.{brought_vis, may_raise}
use Rattle.hir_collector_rules.specs.HirGlobImports.Rules.{BroughtBy, Rule as GlobRule, May as MayAlong, acts as glob_acts}
use Rattle.hir_collector_rules.specs.HirGlobImports.Rules.{brings, copies, copies_along, follows, follows_along}
use Rattle.hir_collector_rules.specs.HirGlobImports.Rules.{noted, raises, raises_along}
use Rattle.hir_collector_rules.specs.HirGlobImports.View.{bound_in}
use Rattle.hir_collector_rules.specs.HirGlobImports.declared.edge.Bound.{Bound}
use Rattle.hir_collector_rules.specs.HirGlobImports.declared.edge.Brought.{Brought}
use Rattle.hir_collector_rules.specs.HirGlobImports.declared.edge.Key.{Key}
use Rattle.hir_collector_rules.specs.HirGlobImports.declared.edge.Slot.{Slot}
use Rattle.hir_collector_rules.specs.HirGlobImports.declared.edge.Target.{Target}
use Rattle.hir_collector_rules.specs.HirGlobImports.declared.edge.Key.TheVariants.{Types, Values, Macros, Unnamed}
use Rattle.hir_collector_rules.proofs.HirGlobImports.Settling.{same_itself}
use Rattle.hir_collector_rules.specs.HirImportRules.Changes.{Change as ImportChange, along, forgotten, forgotten_in}
use Rattle.hir_collector_rules.specs.HirImportRules.Changes.{keeps_trait, kept_vis, pushes, pushing, records, takes}
use Rattle.hir_collector_rules.specs.HirImportRules.ScopeLaws.{vacant_of}
use Rattle.hir_collector_rules.specs.HirImportRules.Names.{bound_by, bound_of, entries_of, items_by, scope_table, trait_vis, view_of, with_trait}
use Rattle.hir_collector_rules.specs.HirImportRules.State.{ImportState, glob_state, scopes_of}
use Rattle.hir_collector_rules.specs.Changes.{Change, lists, makes, gives_variants, begins_paths, reaches, awaits, ends, settles, changes_imports, adds_textual}
use Rattle.hir_collector_rules.specs.Changes.{takes_textual, defines, describes, helps, lists_derive, notes, exports, uses_macros, tells, goes_on, act}
use Rattle.hir_collector_rules.specs.Changes.{with_builtin_derive}
use Rattle.hir_collector_rules.specs.Invocations.{with_invocation}
use Rattle.hir_collector_rules.specs.ItemIds.{module_id}
use Rattle.hir_collector_rules.specs.State.{State, import_state}
use Rattle.hir_collector_rules.proofs.Changes.{AllFine}
use Rattle.hir_collector_rules.proofs.ImportEdits.{Edit, copy_at, copy_where, edit, edit_of, edited, follow_at, follow_where, map_after}
use Rattle.hir_def_collector_laws.proofs.NotedScopes.{same_listed}
use Rattle.hir_def_collector_written.proofs.Declares.{plain}
use Rattle.hir_def_collector_written.proofs.OwnItems.{IsOwnItem}
use Rattle.hir_def_collector_written.proofs.OwnScopes.{AreOwnModules, HasNoOwnAt, IsAlongEdit, IsOwnPush, NoOwnIn, none_changed, none_kept, none_pushed_in}
use Rattle.hir_def_collector_written.proofs.OwnScopes.{none_redefined, own_changed, own_edit, own_longer, own_noted_there, own_pushed_in, own_rescoped}

-- ---- what is forgotten

forget_none : (home : ℕ) (key : Key) (binds : Bool) (brought : BroughtBy) (s : Slot) → brought s ≡ None → forgotten_in home key binds brought s ≡ None
forget_none home key false brought s e = e
forget_none home key true brought s e = go (same_slot (slot_at home key) s)
  where
    go : (t : Bool) → (if t then None else brought s) ≡ None
    go true = refl
    go false = e

forget_now : (home : ℕ) (key : Key) (binds : Bool) (brought : BroughtBy) → binds ≡ true → forgotten_in home key binds brought (slot_at home key) ≡ None
forget_now home key true brought e = ap (λ (t : Bool). if t then None else brought (slot_at home key)) (same_itself (slot_at home key))
forget_now home key false brought e = absurd (let no : ⊥ = cc in no)

module _ (home : ℕ) (name : List ℕ) (items : PerNs) (brought : BroughtBy) where
  abbrev without_types : BroughtBy
  without_types = forgotten_in home (Types name) (is_some items.types) brought

  abbrev without_values : BroughtBy
  without_values = forgotten_in home (Values name) (is_some items.values) without_types

  forgotten_still : (s : Slot) → brought s ≡ None → forgotten home name items brought s ≡ None
  forgotten_still s e =
      forget_none home (Macros name) (is_some items.macros) without_values s
      (forget_none home (Values name) (is_some items.values) without_types s (forget_none home (Types name) (is_some items.types) brought s e))

  forgot_type : is_some items.types ≡ true → forgotten home name items brought (slot_at home (Types name)) ≡ None
  forgot_type e =
      forget_none home (Macros name) (is_some items.macros) without_values (slot_at home (Types name))
      (forget_none home (Values name) (is_some items.values) without_types (slot_at home (Types name))
      (forget_now home (Types name) (is_some items.types) brought e))

  forgot_value : is_some items.values ≡ true → forgotten home name items brought (slot_at home (Values name)) ≡ None
  forgot_value e =
      forget_none home (Macros name) (is_some items.macros) without_values (slot_at home (Values name))
      (forget_now home (Values name) (is_some items.values) without_types e)

  forgot_macro : is_some items.macros ≡ true → forgotten home name items brought (slot_at home (Macros name)) ≡ None
  forgot_macro e = forget_now home (Macros name) (is_some items.macros) without_values e

-- ---- where an import brought what stands in a slot

-- nothing stands there
none_vacant : (finished : Maps) (s : ImportState) (at : ℕ) (key : Key) → bound_in (view_of (scopes_of finished s)) (slot_at at key) ≡ None
    → NoOwnIn s.map.modules at key
none_vacant finished s at (Types name) vacant = record {
  none = λ old there i e none.
      let nothing : item_at old.scope.types name ≡ None =
      vacant_of in_ns.Types (item_at old.scope.types name)
      (ap (λ (o : Option ModuleValue). bound_by in_ns.Types (entry_of o name).types) (sym there) ∙ vacant) in
      let no : ⊥ = cc in
      no;
}
none_vacant finished s at (Values name) vacant = record {
  none = λ old there i e none.
      let nothing : item_at old.scope.values name ≡ None =
      vacant_of in_ns.Values (item_at old.scope.values name)
      (ap (λ (o : Option ModuleValue). bound_by in_ns.Values (entry_of o name).values) (sym there) ∙ vacant) in
      let no : ⊥ = cc in
      no;
}
none_vacant finished s at (Macros name) vacant = record {
  none = λ old there i e none.
      let nothing : item_at old.scope.macros name ≡ None =
      vacant_of in_ns.Macros (item_at old.scope.macros name)
      (ap (λ (o : Option ModuleValue). bound_by in_ns.Macros (entry_of o name).macros) (sym there) ∙ vacant) in
      let no : ⊥ = cc in
      no;
}
none_vacant finished s at (Unnamed id) vacant = record { none = λ old there. tt }

-- it stays so where a glob copies, and where a name follows one
none_copied : (s : ImportState) (slot : Slot) (vis : Visibility) (by : GlobId) (o : Option Bound) (at : ℕ) (key : Key) → NoOwnIn s.map.modules at key
    → NoOwnIn (edited s.map (copy_where s slot vis by o)).modules at key
none_copied s slot vis by None at key f = f
none_copied s slot vis by (Some b) at key f =
    none_changed s.map.modules slot.at (edit (numbered s.map.id slot.at) (copy_at s slot.key vis by b)) at key (λ scope vacant. go slot.key scope vacant) f
  where
    go : (k : Key) (scope : ScopeValue) → HasNoOwnAt scope key → HasNoOwnAt (edit (numbered s.map.id slot.at) (copy_at s k vis by b) scope) key
    go (Types name) scope vacant = none_pushed_in s.globs (numbered s.map.id slot.at, name) (items_by b.def vis) (Some (ways.Glob by)) refl scope key vacant
    go (Values name) scope vacant = none_pushed_in s.globs (numbered s.map.id slot.at, name) (items_by b.def vis) (Some (ways.Glob by)) refl scope key vacant
    go (Macros name) scope vacant = none_pushed_in s.globs (numbered s.map.id slot.at, name) (items_by b.def vis) (Some (ways.Glob by)) refl scope key vacant
    go (Unnamed id) scope vacant = none_kept id vis None scope key vacant

none_followed : (s : ImportState) (slot : Slot) (vis : Visibility) (o : Option Bound) (at : ℕ) (key : Key) → NoOwnIn s.map.modules at key
    → NoOwnIn (edited s.map (follow_where s slot vis o)).modules at key
none_followed s slot vis None at key f = f
none_followed s slot vis (Some b) at key f =
    none_changed s.map.modules slot.at (edit (numbered s.map.id slot.at) (follow_at s slot.key vis b)) at key (λ scope vacant. go slot.key scope vacant) f
  where
    go : (k : Key) (scope : ScopeValue) → HasNoOwnAt scope key → HasNoOwnAt (edit (numbered s.map.id slot.at) (follow_at s k vis b) scope) key
    go (Types name) scope vacant = none_redefined name b.def vis scope key vacant
    go (Values name) scope vacant = none_redefined name b.def vis scope key vacant
    go (Macros name) scope vacant = none_redefined name b.def vis scope key vacant
    go (Unnamed id) scope vacant = none_kept id vis None scope key vacant

module _ (OwnType : ℕ → List ℕ → Item ModuleDefId ImportOrExternCrate → Type 0) (OwnValue : ℕ → List ℕ → Item ModuleDefId ImportOrGlob → Type 0)
    (OwnMacro : ℕ → List ℕ → Item MacroId ImportOrExternCrate → Type 0) where
  abbrev AreOwnIn : BroughtBy → List ModuleValue → Type 0
  AreOwnIn brought ms = AreOwnModules OwnType OwnValue OwnMacro brought ms

  -- an edge is noted as what brought what stands there
  none_brought : (brought : BroughtBy) (ms : List ModuleValue) (at : ℕ) (key : Key) (last : Brought) → brought (slot_at at key) ≡ Some last
      → AreOwnIn brought ms → NoOwnIn ms at key
  none_brought brought ms at (Types name) last e f = record {
    none = λ m there i h none.
        let own : IsOwnItem Types (OwnType at) brought at name i = (f.each at m there).types name i h none in
        let missing : None ≡ Some last = sym own.unbrought ∙ e in
        let no : ⊥ = cc in
        no;
  }
  none_brought brought ms at (Values name) last e f = record {
    none = λ m there i h none.
        let own : IsOwnItem Values (OwnValue at) brought at name i = (f.each at m there).values name i h none in
        let missing : None ≡ Some last = sym own.unbrought ∙ e in
        let no : ⊥ = cc in
        no;
  }
  none_brought brought ms at (Macros name) last e f = record {
    none = λ m there i h none.
        let own : IsOwnItem Macros (OwnMacro at) brought at name i = (f.each at m there).macros name i h none in
        let missing : None ≡ Some last = sym own.unbrought ∙ e in
        let no : ⊥ = cc in
        no;
  }
  none_brought brought ms at (Unnamed id) last e f = record { none = λ m there. tt }

  -- or an edge may raise it
  none_raised : (brought : BroughtBy) (ms : List ModuleValue) (at : ℕ) (key : Key) (j : ℕ) → may_raise j key (brought (slot_at at key)) ≡ true
      → AreOwnIn brought ms → NoOwnIn ms at key
  none_raised brought ms at (Unnamed id) j may f = record { none = λ m there. tt }
  none_raised brought ms at (Types name) j may f = record {
    none = λ m there i h none.
        let own : IsOwnItem Types (OwnType at) brought at name i = (f.each at m there).types name i h none in
        let wrong : false ≡ true = sym (ap (may_raise j (Types name)) own.unbrought) ∙ may in
        let no : ⊥ = cc in
        no;
  }
  none_raised brought ms at (Values name) j may f = record {
    none = λ m there i h none.
        let own : IsOwnItem Values (OwnValue at) brought at name i = (f.each at m there).values name i h none in
        let wrong : false ≡ true = sym (ap (may_raise j (Values name)) own.unbrought) ∙ may in
        let no : ⊥ = cc in
        no;
  }
  none_raised brought ms at (Macros name) j may f = record {
    none = λ m there i h none.
        let own : IsOwnItem Macros (OwnMacro at) brought at name i = (f.each at m there).macros name i h none in
        let wrong : false ≡ true = sym (ap (may_raise j (Macros name)) own.unbrought) ∙ may in
        let no : ⊥ = cc in
        no;
  }

  -- ---- changes

  pub record IsOwnState (s : State) : Type 0 where
    pub modules : AreOwnIn s.core.globs.brought s.core.map.modules

  -- this holds of what is pushed without an import
  pub record IsFinePush (home : ℕ) (name : List ℕ) (items : PerNs) (by : Option ImportOrExternCrate) : Type 0 where
    pub types : (i : Item ModuleDefId ImportOrExternCrate) → items.types ≡ Some i → by ≡ None → OwnType home name (plain i)
    pub values : (i : Item ModuleDefId ImportOrGlob) → items.values ≡ Some i → value_import by ≡ None → OwnValue home name (plain i)
    pub macros : (i : Item MacroId ImportOrExternCrate) → items.macros ≡ Some i → by ≡ None → OwnMacro home name (plain i)

  abbrev pub IsFineImport : State → ImportChange → Type 0
  IsFineImport s (pushes home name items source) = (n : List ℕ) → name ≡ Some n → IsFinePush home n items (pushing source)
  IsFineImport s (keeps_trait finished home id vis by) = Unit {0}
  IsFineImport s (takes i t) = Unit {0}
  IsFineImport s (records edges) = Unit {0}
  IsFineImport s (along finished (copies slot of vis by)) = Unit {0}
  IsFineImport s (along finished (brings slot by)) = NoOwnIn s.core.map.modules slot.at slot.key
  IsFineImport s (along finished (follows slot of vis)) = NoOwnIn s.core.map.modules slot.at slot.key
  IsFineImport s (along finished (raises slot vis)) = NoOwnIn s.core.map.modules slot.at slot.key

  abbrev pub IsFine : State → Change → Type 0
  IsFine s (changes_imports c) = IsFineImport s c
  IsFine s other = Unit {0}

  -- no glob is said any more to have brought it
  own_push : (home : ℕ) (name : List ℕ) (items : PerNs) (by : Option ImportOrExternCrate) (brought : BroughtBy) → IsFinePush home name items by
      → IsOwnPush OwnType OwnValue OwnMacro (forgotten home name items brought) home name items by
  own_push home name items by brought fine = record {
    types = λ i e none. record { unbrought = forgot_type home name items brought (ap is_some e); own = fine.types i e none };
    values = λ i e none. record { unbrought = forgot_value home name items brought (ap is_some e); own = fine.values i e none };
    macros = λ i e none. record { unbrought = forgot_macro home name items brought (ap is_some e); own = fine.macros i e none };
  }

  abbrev AreAlong : List ModuleValue → Option (ℕ × Edit) → Type 0
  AreAlong ms None = Unit {0}
  AreAlong ms (Some e) = IsAlongEdit ms e.0 e.1

  own_edited : (brought : BroughtBy) (m : Map) (o : Option (ℕ × Edit)) → AreAlong m.modules o → AreOwnIn brought m.modules
      → AreOwnIn brought (edited m o).modules
  own_edited brought m None fine f = f
  own_edited brought m (Some e) fine f =
      own_changed OwnType OwnValue OwnMacro brought brought m.modules e.0 (with_module_scope (edit (numbered m.id e.0) e.1)) (λ number key none. none)
      (λ old there g. own_edit OwnType OwnValue OwnMacro brought e.0 (numbered m.id e.0) m.modules old there g e.1 fine) f

  copies_along_edge : (s : ImportState) (slot : Slot) (vis : Visibility) (by : GlobId) (o : Option Bound) → AreAlong s.map.modules (copy_where s slot vis by o)
  copies_along_edge s slot vis by None = tt
  copies_along_edge s slot vis by (Some b) = go slot.key
    where
      go : (key : Key) → IsAlongEdit s.map.modules slot.at (copy_at s key vis by b)
      go (Unnamed id) = tt
      go other = refl

  follows_along_edge : (finished : Maps) (s : ImportState) (of : Target) (vis : Visibility) (at : ℕ) (key : Key) → NoOwnIn s.map.modules at key
      → AreAlong s.map.modules (follow_where s (slot_at at key) vis (bound_of (scopes_of finished s) of key))
  follows_along_edge finished s of vis at (Types name) f = go (entries_of (scopes_of finished s) of name).types
    where
      go : (o : Option (Item ModuleDefId ImportOrExternCrate)) → AreAlong s.map.modules (follow_where s (slot_at at (Types name)) vis (bound_by in_ns.Types o))
      go None = tt
      go (Some i) = f
  follows_along_edge finished s of vis at (Values name) f = go (entries_of (scopes_of finished s) of name).values
    where
      go : (o : Option (Item ModuleDefId ImportOrGlob)) → AreAlong s.map.modules (follow_where s (slot_at at (Values name)) vis (bound_by in_ns.Values o))
      go None = tt
      go (Some i) = f
  follows_along_edge finished s of vis at (Macros name) f = go (entries_of (scopes_of finished s) of name).macros
    where
      go : (o : Option (Item MacroId ImportOrExternCrate)) → AreAlong s.map.modules (follow_where s (slot_at at (Macros name)) vis (bound_by in_ns.Macros o))
      go None = tt
      go (Some i) = f
  follows_along_edge finished s of vis at (Unnamed id) f = go (bound_of (scopes_of finished s) of (Unnamed id))
    where
      go : (o : Option Bound) → AreAlong s.map.modules (follow_where s (slot_at at (Unnamed id)) vis o)
      go None = tt
      go (Some b) = tt

  own_brings : (brought : BroughtBy) (ms : List ModuleValue) (at : ℕ) (key : Key) (by : Brought) → NoOwnIn ms at key → AreOwnIn brought ms
      → AreOwnIn (noted brought (slot_at at key) by) ms
  own_brings brought ms at (Types name) by none_own f = own_noted_there OwnType OwnValue OwnMacro brought by at (Types name) ms none_own f
  own_brings brought ms at (Values name) by none_own f = own_noted_there OwnType OwnValue OwnMacro brought by at (Values name) ms none_own f
  own_brings brought ms at (Macros name) by none_own f = own_noted_there OwnType OwnValue OwnMacro brought by at (Macros name) ms none_own f
  own_brings brought ms at (Unnamed id) by none_own f = f

  own-along : (s : State) (c : ImportChange) (brought : BroughtBy) → AreAlong s.core.map.modules (edit_of (import_state s) c)
      → AreOwnIn brought s.core.map.modules
      → AreOwnIn brought (act s (changes_imports c)).core.map.modules
  own-along s c brought fine f =
      subst (λ (m : Map). AreOwnIn brought m.modules) (sym (map_after (import_state s) c)) (own_edited brought s.core.map (edit_of (import_state s) c) fine f)

  own-imports : (s : State) (c : ImportChange) → IsOwnState s → IsFineImport s c → IsOwnState (act s (changes_imports c))
  own-imports s (pushes home None items source) f fine = record { modules = f.modules }
  own-imports s (pushes home (Some name) items source) f fine =
      let after : BroughtBy = forgotten home name items s.core.globs.brought in
      record {
        modules = own_changed OwnType OwnValue OwnMacro s.core.globs.brought after s.core.map.modules home
            (pushed_module s.core.globs.names (place_at s.core.map.id home name) items (pushing source))
            (λ number key none. forgotten_still home name items s.core.globs.brought (slot_at number key) none)
            (λ old there g. own_pushed_in OwnType OwnValue OwnMacro after s.core.globs.names home (place_at s.core.map.id home name) items (pushing source)
            (own_push home name items (pushing source) s.core.globs.brought (fine name refl)) old.scope g) f.modules;
      }
  own-imports s (keeps_trait finished home None vis by) f fine = record { modules = f.modules }
  own-imports s (keeps_trait finished home (Some id) vis by) f fine =
      let change : ScopeValue → ScopeValue = with_trait id (kept_vis finished s.core.map vis (trait_vis (module_at s.core.map home) id)) by in
      record {
        modules = own_changed OwnType OwnValue OwnMacro s.core.globs.brought _ s.core.map.modules home (with_module_scope change)
            (λ number key none. forget_none home (Unnamed id) true s.core.globs.brought (slot_at number key) none)
            (λ old there g. record { types = g.types; values = g.values; macros = g.macros }) f.modules;
      }
  own-imports s (takes i t) f fine = record { modules = f.modules }
  own-imports s (records edges) f fine = record { modules = f.modules }
  own-imports s (along finished (copies slot of vis by)) f fine = record {
    modules = own-along s (along finished (copies slot of vis by)) s.core.globs.brought
        (copies_along_edge (import_state s) slot vis by (bound_of (scopes_of finished (import_state s)) of slot.key)) f.modules;
  }
  own-imports s (along finished (brings slot by)) f fine =
      record { modules = own_brings s.core.globs.brought s.core.map.modules slot.at slot.key by fine f.modules }
  own-imports s (along finished (follows slot of vis)) f fine = record {
    modules = own-along s (along finished (follows slot of vis)) s.core.globs.brought
        (follows_along_edge finished (import_state s) of vis slot.at slot.key fine) f.modules;
  }
  own-imports s (along finished (raises slot vis)) f fine =
      record { modules = own-along s (along finished (raises slot vis)) s.core.globs.brought fine f.modules }

  own_scopes : (s : State) (home : ℕ) (change : ScopeValue → ScopeValue) → ((x : ScopeValue) → (change x).types ≡ x.types)
      → ((x : ScopeValue) → (change x).values ≡ x.values)
      → ((x : ScopeValue) → (change x).macros ≡ x.macros) → IsOwnState s
      → AreOwnIn s.core.globs.brought (changed_at s.core.map.modules home (with_module_scope change))
  own_scopes s home change types values macros f =
      own_rescoped OwnType OwnValue OwnMacro s.core.globs.brought s.core.map.modules home (with_module_scope change)
      (λ m. record { types = types m.scope; values = values m.scope; macros = macros m.scope }) f.modules

  pub own-act : (s : State) (c : Change) → IsOwnState s → IsFine s c → IsOwnState (act s c)
  own-act s (lists home d) f fine = record {
    modules = own_rescoped OwnType OwnValue OwnMacro s.core.globs.brought s.core.map.modules home (with_module_scope (listed d))
        (λ m. same_listed d m.scope) f.modules;
  }
  own-act s (makes home name origin visibility) f fine = record {
    modules = own_longer OwnType OwnValue OwnMacro s.core.globs.brought (changed_at s.core.map.modules home (with_child name (new_id s.core.map)))
        (new_module origin visibility (Some (module_id s.core.map home))) refl
        (own_rescoped OwnType OwnValue OwnMacro s.core.globs.brought s.core.map.modules home (with_child name (new_id s.core.map))
        (λ m. record { types = refl; values = refl; macros = refl }) f.modules);
  }
  own-act s (changes_imports c) f fine = own-imports s c f fine
  own-act s (adds_textual home name makro) f fine = record { modules = own_scopes s home _ (λ x. refl) (λ x. refl) (λ x. refl) f }
  own-act s (takes_textual home from_) f fine = record { modules = own_scopes s home _ (λ x. refl) (λ x. refl) (λ x. refl) f }
  own-act s (lists_derive home imp) f fine = record { modules = own_scopes s home (with_builtin_derive imp) (λ x. refl) (λ x. refl) (λ x. refl) f }
  own-act s (notes home invocation) f fine = record { modules = own_scopes s home (with_invocation invocation) (λ x. refl) (λ x. refl) (λ x. refl) f }
  own-act s other f fine = record { modules = f.modules }

  -- ---- along globs

  module _ (finished : Maps) (s : State) (f : IsOwnState s) where
    pub along_fine : (rule : GlobRule) → MayAlong scope_table (glob_state finished (import_state s)) rule
        → AllFine IsFine s (list_map changes_imports (list_map (along finished) (glob_acts (view_of (scopes_of finished (import_state s))) rule)))
    along_fine (copies_along j e slot b) may =
        let i : ImportState = import_state s in
        let vis : Visibility = brought_vis (view_of (scopes_of finished i)) e b in
        let none_there : NoOwnIn s.core.map.modules slot.at slot.key = none_vacant finished i slot.at slot.key may.vacant in
        let none_after : NoOwnIn (act s (changes_imports (along finished (copies slot e.source vis e.id)))).core.map.modules slot.at slot.key =
        subst (λ (m : Map). NoOwnIn m.modules slot.at slot.key) (sym (map_after i (along finished (copies slot e.source vis e.id))))
        (none_copied i slot vis e.id (bound_of (scopes_of finished i) e.source slot.key) slot.at slot.key none_there) in
        (tt, (none_after, tt))
    along_fine (follows_along j e slot b) may =
        let i : ImportState = import_state s in
        let vis : Visibility = brought_vis (view_of (scopes_of finished i)) e b in
        let none_there : NoOwnIn s.core.map.modules slot.at slot.key =
        none_brought s.core.globs.brought s.core.map.modules slot.at slot.key may.last may.brought_last f.modules in
        let none_after : NoOwnIn (act s (changes_imports (along finished (follows slot e.source vis)))).core.map.modules slot.at slot.key =
        subst (λ (m : Map). NoOwnIn m.modules slot.at slot.key) (sym (map_after i (along finished (follows slot e.source vis))))
        (none_followed i slot vis (bound_of (scopes_of finished i) e.source slot.key) slot.at slot.key none_there) in
        (none_there, (none_after, tt))
    along_fine (raises_along j e slot vis) may = (none_raised s.core.globs.brought s.core.map.modules slot.at slot.key j may.may f.modules, tt)
