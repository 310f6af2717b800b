-- What a glob brought came along an edge, and is what that edge's source shows.
use Rattle.std.proofs.Common.{◌≡◌, ◌≢◌, ◌∙◌, ℕ, zero, suc, ◌==◌, ◌||◌, not, List, [], ◌∷◌, Bool, true, false, cond, Option, None, Some, map as list_map}
use Rattle.std.proofs.Common.{slice_get, unwrap_or, refl, sym, ap, subst, true≢false}
use Rattle.std.proofs.lemmas.Cmp.{nat_list_cmp_total}
use Rattle.std.specs.Prelude.{option_and_then, option_map}
use Rattle.std.specs.BTreeMap.{is_at}
use Rattle.std.specs.Cmp.{first_so, second_so, unsigned_Decides}
use Rattle.std.specs.Cmp.Lexicographic.{slice_cmp}
use Rattle.std.specs.Map.{remove_entry}
use Rattle.std.specs.Ordering.{nat_cmp}
use Rattle.hir_collector_rules.specs.HirIds.declared.ids.Crate.{Crate}
use Rattle.hir_collector_rules.specs.HirIds.declared.macro_kind.MacroId.{MacroId}
use Rattle.hir_collector_rules.specs.HirIds.declared.ids.MapId.{MapId}
use Rattle.hir_collector_rules.specs.HirIds.declared.ids.ModuleDefId.{ModuleDefId}
use Rattle.hir_collector_rules.specs.HirIds.declared.ids.TraitId.{TraitId}
use Rattle.hir_collector_rules.specs.HirIds.contracts.ids.ModuleDefIdPartialEq.TheImpl as module_def
use Rattle.hir_collector_rules.specs.HirIds.declared.ids.ModuleDefId.TheVariants as definitions
use Rattle.hir_collector_rules.specs.HirScope.Entries.{item_at}
use Rattle.hir_collector_rules.specs.HirScope.Globs.{GlobNames, Place}
use Rattle.hir_collector_rules.specs.HirScope.ImportRecords.{is_glob}
use Rattle.hir_collector_rules.specs.HirPerNs.Imports.{glob_of}
use Rattle.hir_collector_rules.specs.HirPerNs.ModuleTree.{same_crate}
use Rattle.hir_collector_rules.specs.HirPerNs.PerNs.{Item}
use Rattle.hir_collector_rules.specs.HirScope.Scope.{ScopeValue}
use Rattle.hir_collector_rules.specs.HirScope.Scope.Updates.{censored_item, censored_macro, is_definition}
use Rattle.hir_collector_rules.specs.HirPerNs.contracts.item_in_ns.ItemInNsEq.TheImpl.Laws.{laws-law as item_laws}
use Rattle.hir_collector_rules.specs.HirPerNs.declared.imports.GlobId.{GlobId}
use Rattle.hir_collector_rules.specs.HirPerNs.declared.imports.ImportOrExternCrate.{ImportOrExternCrate}
use Rattle.hir_collector_rules.specs.HirPerNs.declared.imports.ImportOrGlob.{ImportOrGlob}
use Rattle.hir_collector_rules.specs.HirPerNs.declared.item_in_ns.ItemInNs.{ItemInNs}
use Rattle.hir_collector_rules.specs.HirPerNs.declared.per_ns.PerNs.{PerNs}
use Rattle.hir_collector_rules.specs.HirPerNs.declared.visibility.Visibility.{Visibility}
use Rattle.hir_collector_rules.specs.HirPerNs.declared.item_in_ns.ItemInNs.TheVariants as in_ns
use Rattle.hir_collector_rules.specs.HirPerNs.declared.visibility.Visibility.TheVariants.{Module, PubCrate, Public}
use Rattle.hir_collector_rules.specs.HirTables.Tables.{TablesValue}
use Rattle.hir_collector_rules.specs.HirDefMapRules.Declaration.{listed}
use Rattle.hir_collector_rules.specs.HirDefMapRules.Overlay.{Maps}
use Rattle.hir_collector_rules.specs.HirDefMapRules.State.{Map, ModuleValue, changed_at, entry_at, entry_of, module_at}
use Rattle.hir_collector_rules.specs.HirDefMapRules.State.{new_id, new_module, with_child, with_module_scope}
use Rattle.hir_collector_rules.specs.HirGlobImports.Keys.{is_unnamed, slot_at}
use Rattle.hir_collector_rules.specs.HirGlobImports.Moves.{brought_vis, is_as_seen, may_raise, same_bound, same_def, same_vis, seen_by, shown}
use Rattle.hir_collector_rules.specs.HirGlobImports.Rules.{BroughtBy, CanCopy, CanFollow, CanRaise, Rule as GlobRule}
use Rattle.hir_collector_rules.specs.HirGlobImports.Rules.{May as MayAlong, acts as glob_acts, as_seen, copies_along}
use Rattle.hir_collector_rules.specs.HirGlobImports.Rules.{follows_along, noted, raises_along}
use Rattle.hir_collector_rules.specs.HirGlobImports.View.{View, bound_in}
use Rattle.hir_collector_rules.specs.HirGlobImports.Waves.{Stands}
use Rattle.hir_collector_rules.specs.HirGlobImports.declared.edge.Bound.{Bound}
use Rattle.hir_collector_rules.specs.HirGlobImports.declared.edge.Brought.{Brought}
use Rattle.hir_collector_rules.specs.HirGlobImports.declared.edge.Edge.{Edge}
use Rattle.hir_collector_rules.specs.HirGlobImports.declared.edge.Key.{Key}
use Rattle.hir_collector_rules.specs.HirGlobImports.declared.edge.Key.TheVariants.{Types, Values, Macros, Unnamed}
use Rattle.hir_collector_rules.specs.HirImportRules.Changes.{Change as ImportChange, along, keeps_trait, kept_vis, pushes, pushing, records, takes}
use Rattle.hir_collector_rules.specs.HirImportRules.ScopeLaws.{vacant_of}
use Rattle.hir_collector_rules.specs.HirImportRules.Names.{ScopesValue, bound_at, bound_by, bound_of, copied, copied_where}
use Rattle.hir_collector_rules.specs.HirImportRules.Names.{entries_of, followed, followed_where, raised}
use Rattle.hir_collector_rules.specs.HirImportRules.Names.{scope_table, trait_vis, view_of, with_trait}
use Rattle.hir_collector_rules.specs.HirImportRules.Rules.{Rule as ImportRule, May as MayImport, goes_along, takes_glob, takes_import}
use Rattle.hir_collector_rules.specs.HirImportRules.State.{glob_state, scopes_of}
use Rattle.hir_collector_rules.specs.HirImportRules.Visibilities.{greater_in, lesser_in}
use Rattle.hir_collector_rules.specs.HirImportRules.declared.directive.ImportDirective.{ImportDirective}
use Rattle.hir_collector_rules.specs.HirImportRules.declared.directive.ImportSource.{ImportSource}
use Rattle.hir_collector_rules.specs.HirImportRules.declared.directive.ImportSource.TheVariants as sources
use Rattle.hir_collector_rules.specs.Calls.{error_of}
use Rattle.hir_collector_rules.specs.Changes.{Change, lists, makes, gives_variants, begins_paths, reaches, awaits, ends, settles, changes_imports, adds_textual}
use Rattle.hir_collector_rules.specs.Changes.{takes_textual, defines, describes, helps, lists_derive, notes, exports, uses_macros, tells, goes_on, act, perform}
use Rattle.hir_collector_rules.specs.Changes.{with_builtin_derive}
use Rattle.hir_collector_rules.specs.Invocations.{with_invocation}
use Rattle.hir_collector_rules.specs.declared.exported.ExportedFunction.{ExportedFunction}
use Rattle.hir_collector_rules.specs.Derivation.{CollectedValue, Ends}
use Rattle.hir_collector_rules.specs.Ended.{ended, exporting_scope, without_function, without_functions}
use Rattle.hir_collector_rules.specs.ItemIds.{module_id}
use Rattle.hir_collector_rules.specs.Keys.{Environment}
use Rattle.hir_collector_rules.specs.Start.{Beginning, read_by}
use Rattle.hir_collector_rules.specs.State.{Core, State, import_state}
use Rattle.hir_collector_rules.specs.Steps.{Rule, drops_item, awaits_attribute, lists_derives, faults_derive, exports_macro, reaches_call, rests}
use Rattle.hir_collector_rules.specs.Steps.{expands_call, meets_macro}
use Rattle.hir_collector_rules.specs.Steps.{drops_call, drops_reached, derives_builtin, skips_attribute, falls_back, defines_rules, defines_macro}
use Rattle.hir_collector_rules.specs.Steps.{closes_module, declares_item, declares_enum, lists_constant, lists_impl, opens_module, opens_file, drops_file}
use Rattle.hir_collector_rules.specs.Steps.{misses_file, enters_block, reaches_imports, reaches_crate, resolves_imports, May, Steps, acts, asking, more, none}
use Rattle.hir_collector_rules.specs.Workspace.{Workspace}
use Rattle.hir_collector_rules.proofs.Changes.{AllFine, fine_bringing, fine_expanding, fine_macro, fine_reporting, perform_keeps}
use Rattle.hir_def_collector_laws.specs.Globs.{AlsoShows, GlobsBringWhatIsShown, IsAsShown, IsBrought, WasSeen, glob_at, glob_by, glob_of_value, is_open_in}
use Rattle.hir_def_collector_laws.specs.Globs.{view_in}
use Rattle.hir_def_collector_laws.proofs.Bindings.{AreFine, IsFineScope, fine_last, fine_without}
use Rattle.hir_def_collector_laws.proofs.Ended.{ended_by}
use Rattle.hir_def_collector_laws.proofs.Entries.{found_mapped, found_removed}
use Rattle.hir_def_collector_laws.proofs.Exact.{exact_bound, exact_visibility}
use Rattle.hir_def_collector_laws.proofs.Noted.{GivesAll, HasNote, IsAsOpen, KeepsEdges, keeps_recorded}
use Rattle.hir_def_collector_laws.proofs.NotedScopes.{AreNoted, IsNotedScope, noted_explicit, noted_followed_macro, noted_followed_type, noted_followed_value}
use Rattle.hir_def_collector_laws.proofs.NotedScopes.{noted_longer, noted_macro, noted_raised_macro, noted_raised_type, noted_raised_value, noted_recorded}
use Rattle.hir_def_collector_laws.proofs.NotedScopes.{noted_rescoped, noted_traits, noted_type, noted_value, same_listed}

-- each name that a glob brought has its note where a run stands
pub record IsNotedState (s : State) : Type 0 where
  pub modules : AreNoted s.core.map.id s.core.globs.names s.core.globs.brought s.core.globs.edges s.core.map.modules

-- ---- changes

-- no glob pushes, and globs that were recorded stay; what goes along globs is spoken of below
abbrev IsFineImport : State → ImportChange → Type 0
IsFineImport s (pushes home name items source) = is_glob (pushing source) ≡ false
IsFineImport s (keeps_trait finished home id vis by) = Unit {0}
IsFineImport s (takes i t) = Unit {0}
IsFineImport s (records edges) = KeepsEdges s.core.globs.edges edges
IsFineImport s (along finished a) = ⊥

abbrev IsFine : State → Change → Type 0
IsFine s (changes_imports c) = IsFineImport s c
IsFine s other = Unit {0}

noted-imports : (s : State) (c : ImportChange) → IsNotedState s → IsFineImport s c → IsNotedState (act s (changes_imports c))
noted-imports s (pushes home None items source) f fine = record { modules = f.modules }
noted-imports s (pushes home (Some name) items source) f fine = record {
  modules =
      noted_explicit s.core.map.id s.core.globs.names s.core.globs.brought s.core.globs.edges home name items (pushing source) fine s.core.map.modules
      f.modules;
}
noted-imports s (keeps_trait finished home None vis by) f fine = record { modules = f.modules }
noted-imports s (keeps_trait finished home (Some id) vis by) f fine =
    let change : ScopeValue → ScopeValue = with_trait id (kept_vis finished s.core.map vis (trait_vis (module_at s.core.map home) id)) by in
    record {
      modules =
          noted_traits s.core.map.id s.core.globs.names s.core.globs.brought s.core.globs.edges (changed_at s.core.map.modules home (with_module_scope change))
          home id None
          (noted_rescoped s.core.map.modules home (with_module_scope change) (λ m. record { types = refl; values = refl; macros = refl }) f.modules);
    }
noted-imports s (takes i t) f fine = record { modules = f.modules }
noted-imports s (records edges) f fine =
    record { modules = noted_recorded s.core.map.id s.core.globs.names s.core.globs.brought s.core.globs.edges edges s.core.map.modules fine f.modules }
noted-imports s (along finished a) f fine = absurd fine

noted-act : (s : State) (c : Change) → IsNotedState s → IsFine s c → IsNotedState (act s c)
noted-act s (lists home d) f fine =
    record { modules = noted_rescoped s.core.map.modules home (with_module_scope (listed d)) (λ m. same_listed d m.scope) f.modules }
noted-act s (makes home name origin visibility) f fine = record {
  modules =
      noted_longer (changed_at s.core.map.modules home (with_child name (new_id s.core.map))) (new_module origin visibility (Some (module_id s.core.map home)))
      refl
      (noted_rescoped s.core.map.modules home (with_child name (new_id s.core.map)) (λ m. record { types = refl; values = refl; macros = refl }) f.modules);
}
noted-act s (changes_imports c) f fine = noted-imports s c f fine
noted-act s (adds_textual home name makro) f fine =
    record { modules = noted_rescoped s.core.map.modules home (with_module_scope _) (λ m. record { types = refl; values = refl; macros = refl }) f.modules }
noted-act s (takes_textual home from_) f fine =
    record { modules = noted_rescoped s.core.map.modules home (with_module_scope _) (λ m. record { types = refl; values = refl; macros = refl }) f.modules }
noted-act s (lists_derive home imp) f fine =
    record {
      modules = noted_rescoped s.core.map.modules home (with_module_scope (with_builtin_derive imp))
          (λ m. record { types = refl; values = refl; macros = refl }) f.modules;
    }
noted-act s (notes home invocation) f fine =
    record {
      modules = noted_rescoped s.core.map.modules home (with_module_scope (with_invocation invocation))
          (λ m. record { types = refl; values = refl; macros = refl }) f.modules;
    }
noted-act s other f fine = record { modules = f.modules }

-- ---- along globs

-- the lesser of two visibilities is open where both are
lesser_open : (finished : Maps) (m : Map) (within : Option Crate) (a b : Visibility) → is_open_in within a ≡ true → is_open_in within b ≡ true
    → is_open_in within (unwrap_or (lesser_in finished m a b) a) ≡ true
unfolding lesser_in
lesser_open finished m within Public b e f = f
lesser_open finished m None (PubCrate c) b e f = absurd (true≢false (sym e))
lesser_open finished m (Some krate) (PubCrate c) Public e f = e
lesser_open finished m (Some krate) (PubCrate c) (PubCrate d) e f = go (same_crate c d)
  where
    go : (t : Bool) → is_open_in (Some krate) (unwrap_or (cond t (Some (PubCrate c)) None) (PubCrate c)) ≡ true
    go true = e
    go false = e
lesser_open finished m (Some krate) (PubCrate c) (Module n explicitness) e f = absurd (true≢false (sym f))
lesser_open finished m within (Module n explicitness) b e f = absurd (true≢false (sym e))

-- the greater is as open as each
open_crate : (krate c : Crate) (t : Bool) (wide : Visibility) → cond t (Some (PubCrate c)) None ≡ Some wide → is_open_in (Some krate) (PubCrate c) ≡ true
    → is_open_in (Some krate) wide ≡ true
open_crate krate c true wide e f = let same : PubCrate c ≡ wide = cc in subst (λ (x : Visibility). is_open_in (Some krate) x ≡ true) same f
open_crate krate c false wide e f = absurd (let no : ⊥ = cc in no)

open_public : (within : Option Crate) (wide : Visibility) → Some Public ≡ Some wide → is_open_in within wide ≡ true
open_public within wide e = let same : Public ≡ wide = cc in subst (λ (x : Visibility). is_open_in within x ≡ true) same refl

greater_open : (finished : Maps) (m : Map) (a b wide : Visibility) → greater_in finished m a b ≡ Some wide → IsAsOpen a wide
unfolding greater_in
greater_open finished m Public b wide e within f = open_public within wide e
greater_open finished m (PubCrate c) b wide e None f = absurd (true≢false (sym f))
greater_open finished m (PubCrate c) Public wide e (Some krate) f = open_public (Some krate) wide e
greater_open finished m (PubCrate c) (PubCrate d) wide e (Some krate) f = open_crate krate c (same_crate c d) wide e f
greater_open finished m (PubCrate c) (Module n explicitness) wide e (Some krate) f = open_crate krate c (same_crate n.map.krate c) wide e f
greater_open finished m (Module n explicitness) b wide e within f = absurd (true≢false (sym f))

module _ (finished : Maps) (m : Map) (globs : GlobNames) (brought : BroughtBy) (edges : List Edge) (f : AreNoted m.id globs brought edges m.modules) where
  abbrev here : ScopesValue
  here = record { finished = finished; map = m; globs = globs }

  -- a scope of them changed, and another edge noted
  abbrev AreNotedAfter : ScopesValue → BroughtBy → Type 0
  AreNotedAfter n brought' = AreNoted n.map.id n.globs brought' edges n.map.modules

  -- a trait without a name is no glob's to note
  with_trait_noted : (at : ℕ) (id : TraitId) (vis : Visibility) → AreNoted m.id globs brought edges
      (changed_at m.modules at (with_module_scope (with_trait id vis None)))
  with_trait_noted at id vis =
      noted_rescoped m.modules at (with_module_scope (with_trait id vis None)) (λ v. record { types = refl; values = refl; macros = refl }) f

  -- ---- a slot of a module

  module _ (at : ℕ) where
    vacant_type : (name : List ℕ) → bound_in (view_of here) (slot_at at (Types name)) ≡ None → (old : ModuleValue) → slice_get m.modules at ≡ Some old
        → item_at old.scope.types name ≡ None
    vacant_type name vacant old there =
        vacant_of in_ns.Types (item_at old.scope.types name) (ap (λ (o : Option ModuleValue). bound_by in_ns.Types (entry_of o name).types) (sym there) ∙
        vacant)

    vacant_value : (name : List ℕ) → bound_in (view_of here) (slot_at at (Values name)) ≡ None → (old : ModuleValue) → slice_get m.modules at ≡ Some old
        → item_at old.scope.values name ≡ None
    vacant_value name vacant old there =
        vacant_of in_ns.Values (item_at old.scope.values name) (ap (λ (o : Option ModuleValue). bound_by in_ns.Values (entry_of o name).values) (sym there) ∙
        vacant)

    vacant_macro : (name : List ℕ) → bound_in (view_of here) (slot_at at (Macros name)) ≡ None → (old : ModuleValue) → slice_get m.modules at ≡ Some old
        → item_at old.scope.macros name ≡ None
    vacant_macro name vacant old there =
        vacant_of in_ns.Macros (item_at old.scope.macros name) (ap (λ (o : Option ModuleValue). bound_by in_ns.Macros (entry_of o name).macros) (sym there) ∙
        vacant)

    module _ (j : ℕ) (e : Edge) (b : Bound) where
      -- it is brought under the lesser visibility
      abbrev given_vis : Visibility
      given_vis = brought_vis (view_of here) e b

      all_given : GivesAll (as_seen j e b) given_vis
      all_given within seen edge = lesser_open finished m within e.vis b.vis edge seen

      -- what the source has is shown
      not_shown : (o : Option Bound) → seen_by ((view_of here).sees e.importer) o ≡ Some b → o ≡ None → ⊥
      not_shown None h is = let no : None ≡ Some b = h in cc
      not_shown (Some c) h is = cc

      copied_noted : (key : Key) → CanCopy (view_of here) edges j e (slot_at at key) b
          → AreNotedAfter (copied here (slot_at at key) e.source given_vis e.id) (noted brought (slot_at at key) (as_seen j e b))
      copied_noted (Types name) may = go (entries_of here e.source name).types refl
        where
          go : (o : Option (Item ModuleDefId ImportOrExternCrate)) → (entries_of here e.source name).types ≡ o
              → AreNotedAfter (copied_where here (slot_at at (Types name)) given_vis e.id (bound_by in_ns.Types o))
              (noted brought (slot_at at (Types name)) (as_seen j e b))
          go None is = absurd (not_shown (bound_of here e.source (Types name)) may.shows.shown (ap (bound_by in_ns.Types) is))
          go (Some i) is =
              noted_type m.id globs brought edges e (as_seen j e b) may.shows.recorded at may.shows.at name given_vis all_given i.def m.modules
              (vacant_type name may.vacant) f
      copied_noted (Values name) may = go (entries_of here e.source name).values refl
        where
          go : (o : Option (Item ModuleDefId ImportOrGlob)) → (entries_of here e.source name).values ≡ o
              → AreNotedAfter (copied_where here (slot_at at (Values name)) given_vis e.id (bound_by in_ns.Values o))
              (noted brought (slot_at at (Values name)) (as_seen j e b))
          go None is = absurd (not_shown (bound_of here e.source (Values name)) may.shows.shown (ap (bound_by in_ns.Values) is))
          go (Some i) is =
              noted_value m.id globs brought edges e (as_seen j e b) may.shows.recorded at may.shows.at name given_vis all_given i.def m.modules
              (vacant_value name may.vacant) f
      copied_noted (Macros name) may = go (entries_of here e.source name).macros refl
        where
          go : (o : Option (Item MacroId ImportOrExternCrate)) → (entries_of here e.source name).macros ≡ o
              → AreNotedAfter (copied_where here (slot_at at (Macros name)) given_vis e.id (bound_by in_ns.Macros o))
              (noted brought (slot_at at (Macros name)) (as_seen j e b))
          go None is = absurd (not_shown (bound_of here e.source (Macros name)) may.shows.shown (ap (bound_by in_ns.Macros) is))
          go (Some i) is =
              noted_macro m.id globs brought edges e (as_seen j e b) may.shows.recorded at may.shows.at name given_vis all_given i.def m.modules
              (vacant_macro name may.vacant) f
      copied_noted (Unnamed id) may = go (bound_of here e.source (Unnamed id))
        where
          go : (o : Option Bound) → AreNotedAfter (copied_where here (slot_at at (Unnamed id)) given_vis e.id o) brought
          go None = f
          go (Some c) = with_trait_noted at id given_vis

      followed_noted : (key : Key) → CanFollow (view_of here) edges brought j e (slot_at at key) b
          → AreNotedAfter (followed here (slot_at at key) e.source given_vis) (noted brought (slot_at at key) (as_seen j e b))
      followed_noted (Types name) may = go (entries_of here e.source name).types refl
        where
          go : (o : Option (Item ModuleDefId ImportOrExternCrate)) → (entries_of here e.source name).types ≡ o
              → AreNotedAfter (followed_where here (slot_at at (Types name)) given_vis (bound_by in_ns.Types o))
              (noted brought (slot_at at (Types name)) (as_seen j e b))
          go None is = absurd (not_shown (bound_of here e.source (Types name)) may.shows.shown (ap (bound_by in_ns.Types) is))
          go (Some i) is =
              noted_followed_type m.id globs brought edges at name may.last (as_seen j e b) ((unsigned_Decides may.last.edge j).0 may.by_it) given_vis all_given
              m.modules f i.def may.brought_last
      followed_noted (Values name) may = go (entries_of here e.source name).values refl
        where
          go : (o : Option (Item ModuleDefId ImportOrGlob)) → (entries_of here e.source name).values ≡ o
              → AreNotedAfter (followed_where here (slot_at at (Values name)) given_vis (bound_by in_ns.Values o))
              (noted brought (slot_at at (Values name)) (as_seen j e b))
          go None is = absurd (not_shown (bound_of here e.source (Values name)) may.shows.shown (ap (bound_by in_ns.Values) is))
          go (Some i) is =
              noted_followed_value m.id globs brought edges at name may.last (as_seen j e b) ((unsigned_Decides may.last.edge j).0 may.by_it) given_vis
              all_given m.modules f i.def may.brought_last
      followed_noted (Macros name) may = go (entries_of here e.source name).macros refl
        where
          go : (o : Option (Item MacroId ImportOrExternCrate)) → (entries_of here e.source name).macros ≡ o
              → AreNotedAfter (followed_where here (slot_at at (Macros name)) given_vis (bound_by in_ns.Macros o))
              (noted brought (slot_at at (Macros name)) (as_seen j e b))
          go None is = absurd (not_shown (bound_of here e.source (Macros name)) may.shows.shown (ap (bound_by in_ns.Macros) is))
          go (Some i) is =
              noted_followed_macro m.id globs brought edges at name may.last (as_seen j e b) ((unsigned_Decides may.last.edge j).0 may.by_it) given_vis
              all_given m.modules f i.def may.brought_last
      followed_noted (Unnamed id) may = absurd (true≢false may.named)

    -- an edge that raises hides nothing
    module _ (j : ℕ) (e : Edge) (vis : Visibility) where
      wider : (key : Key) (may : CanRaise (view_of here) edges brought j e (slot_at at key) vis) → (b : Bound) → Some b
          ≡ bound_in (view_of here) (slot_at at key) → IsAsOpen b.vis vis
      wider key may b stands =
          let same : Some b ≡ Some may.c = stands ∙ may.stands in
          let is_c : b ≡ may.c = cc in
          greater_open finished m b.vis (brought_vis (view_of here) e may.b) vis
          (ap (λ (x : Bound). greater_in finished m x.vis (brought_vis (view_of here) e may.b)) is_c ∙ may.greater)

      raised_noted : (key : Key) → CanRaise (view_of here) edges brought j e (slot_at at key) vis → AreNotedAfter (raised here (slot_at at key) vis) brought
      raised_noted (Types name) may =
          noted_raised_type m.id globs brought edges at name vis m.modules f
          (λ old there i h. wider (Types name) may (record { def = in_ns.Types i.def; vis = i.vis })
          (sym (ap (bound_by in_ns.Types) h) ∙ ap (λ (o : Option ModuleValue). bound_by in_ns.Types (entry_of o name).types) (sym there)))
      raised_noted (Values name) may =
          noted_raised_value m.id globs brought edges at name vis m.modules f
          (λ old there i h. wider (Values name) may (record { def = in_ns.Values i.def; vis = i.vis })
          (sym (ap (bound_by in_ns.Values) h) ∙ ap (λ (o : Option ModuleValue). bound_by in_ns.Values (entry_of o name).values) (sym there)))
      raised_noted (Macros name) may =
          noted_raised_macro m.id globs brought edges at name vis m.modules f
          (λ old there i h. wider (Macros name) may (record { def = in_ns.Macros i.def; vis = i.vis })
          (sym (ap (bound_by in_ns.Macros) h) ∙ ap (λ (o : Option ModuleValue). bound_by in_ns.Macros (entry_of o name).macros) (sym there)))
      raised_noted (Unnamed id) may = with_trait_noted at id vis

-- each step along a glob keeps it so
along_noted : (finished : Maps) (s : State) (rule : GlobRule) → MayAlong scope_table (glob_state finished (import_state s)) rule → IsNotedState s
    → IsNotedState (perform s (list_map changes_imports (list_map (along finished) (glob_acts (view_of (scopes_of finished (import_state s))) rule))))
along_noted finished s (copies_along j e slot b) may f = record {
  modules = copied_noted finished s.core.map s.core.globs.names s.core.globs.brought s.core.globs.edges f.modules slot.at j e b slot.key may;
}
along_noted finished s (follows_along j e slot b) may f = record {
  modules = followed_noted finished s.core.map s.core.globs.names s.core.globs.brought s.core.globs.edges f.modules slot.at j e b slot.key may;
}
along_noted finished s (raises_along j e slot vis) may f = record {
  modules = raised_noted finished s.core.map s.core.globs.names s.core.globs.brought s.core.globs.edges f.modules slot.at j e vis slot.key may;
}

-- ---- rules

explicit_source : (source : ImportSource) → is_glob (pushing (Some source)) ≡ false
explicit_source (sources.Use id kind) = refl
explicit_source (sources.ExternCrate id krate) = refl

module _ (finished : Maps) (s : State) (f : IsNotedState s) where
  by_changes : (r : Rule) → AllFine IsFine (asking s r) (acts finished s r) → IsNotedState (perform (asking s r) (acts finished s r))
  by_changes r fine = perform_keeps IsNotedState IsFine noted-act (acts finished s r) (asking s r) (record { modules = f.modules }) fine

  import_noted : (rule : ImportRule) → MayImport finished (import_state s) rule
      → IsNotedState (perform (asking s (resolves_imports rule)) (acts finished s (resolves_imports rule)))
  import_noted (takes_import i r t) may = by_changes (resolves_imports (takes_import i r t)) (explicit_source r.source, (tt, (tt, tt)))
  import_noted (takes_glob i r t by target edges) may =
      by_changes (resolves_imports (takes_glob i r t by target edges)) (tt, (keeps_recorded s.core.globs.edges edges _ may.recorded, tt))
  import_noted (goes_along rule) may = along_noted finished (asking s (resolves_imports (goes_along rule))) rule may (record { modules = f.modules })

  rule_noted : (r : Rule) → May finished s r → IsNotedState (perform (asking s r) (acts finished s r))
  rule_noted (drops_item v report rest) may = by_changes (drops_item v report rest) (tt, (tt, tt))
  rule_noted (declares_item v d rest) may = by_changes (declares_item v d rest) (tt, (tt, (refl, tt)))
  rule_noted (declares_enum site head name found rest) may = by_changes (declares_enum site head name found rest) (tt, (tt, (tt, (refl, tt))))
  rule_noted (lists_constant site head rest) may = by_changes (lists_constant site head rest) (tt, (tt, tt))
  rule_noted (lists_impl site head of_trait rest) may = by_changes (lists_impl site head of_trait rest) (tt, (tt, tt))
  rule_noted (opens_module site head name items rest) may = by_changes (opens_module site head name items rest) (tt, (tt, (tt, (tt, (refl, tt)))))
  rule_noted (opens_file site head name search file rest) may = by_changes (opens_file site head name search file rest) (tt, (tt, (tt, (tt, (refl, tt)))))
  rule_noted (drops_file site head name search report rest) may = by_changes (drops_file site head name search report rest) (tt, (tt, tt))
  rule_noted (misses_file site head name search report rest) may =
      by_changes (misses_file site head name search report rest) (tt, (tt, (tt, (tt, (refl, (tt, tt))))))
  rule_noted (enters_block site head items rest) may = by_changes (enters_block site head items rest) (tt, (tt, tt))
  rule_noted (reaches_imports site head tree rest) may = by_changes (reaches_imports site head tree rest) (tt, (tt, (tt, tt)))
  rule_noted (reaches_crate site head name alias rest) may = by_changes (reaches_crate site head name alias rest) (tt, (tt, (tt, (tt, (tt, tt)))))
  rule_noted (defines_rules site head name expander helpers rest) may =
      by_changes (defines_rules site head name expander helpers rest) (tt, (tt, (tt, (tt, fine_macro IsFine _ _ expander (λ t. tt) head name _ (λ t. refl) _))))
  rule_noted (defines_macro site head name expander helpers rest) may =
      by_changes (defines_macro site head name expander helpers rest) (tt, (tt, (tt, (tt, (refl, fine_reporting IsFine _ _ expander (λ t. tt) _)))))
  rule_noted (closes_module parent child rest) may = by_changes (closes_module parent child rest) (tt, (tt, tt))
  rule_noted (awaits_attribute v a k rest) may = by_changes (awaits_attribute v a k rest) (tt, (tt, tt))
  rule_noted (lists_derives v at a adt paths call rest) may = by_changes (lists_derives v at a adt paths call rest) (tt, (tt, (tt, tt)))
  rule_noted (faults_derive v at report rest) may = by_changes (faults_derive v at report rest) (tt, (tt, tt))
  rule_noted (exports_macro site head name d e rest) may = by_changes (exports_macro site head name d e rest) (tt, (tt, (tt, (tt, (refl, (tt, (refl, tt)))))))
  rule_noted (reaches_call site head path rest) may = by_changes (reaches_call site head path rest) (tt, (tt, tt))
  rule_noted (meets_macro i d makro x) may = by_changes (meets_macro i d makro x) (tt, tt)
  rule_noted rests may = by_changes rests (tt, tt)
  rule_noted (expands_call i d makro x) may =
      by_changes (expands_call i d makro x) (tt, (tt, (tt, fine_expanding IsFine _ (λ t helper. tt) _ _ d (error_of x.there) (λ t text. tt) _)))
  rule_noted (drops_call i d) may = by_changes (drops_call i d) (tt, tt)
  rule_noted (drops_reached i d makro) may = by_changes (drops_reached i d makro) (tt, fine_bringing IsFine _ (λ t helper. tt) _ _)
  rule_noted (derives_builtin i d makro imp) may = by_changes (derives_builtin i d makro imp) (tt, (tt, (tt, fine_bringing IsFine _ (λ t helper. tt) _ _)))
  rule_noted (skips_attribute i d k waited) may = by_changes (skips_attribute i d k waited) (tt, (tt, tt))
  rule_noted (falls_back i d k waited) may = by_changes (falls_back i d k waited) (tt, (tt, (tt, tt)))
  rule_noted (resolves_imports rule) may = import_noted rule may

noted-Steps : {env : Environment} {finished : Maps} {begun last : State} → IsNotedState begun → Steps env finished begun last → IsNotedState last
noted-Steps f none = f
noted-Steps {finished = finished} f (more old new before step) =
    let done : IsNotedState (perform (asking old step.rule) (acts finished old step.rule)) = rule_noted finished old (noted-Steps f before) step.rule step.may
    in
    subst IsNotedState (sym step.is) (record { modules = done.modules })

-- ---- in the end

-- a glob brought what stands at a key, and gives it to all whom it may
pub record CameAlong (s : State) (number : ℕ) (key : Key) (id : GlobId) (stands : Option Bound) : Type 0 where
  pub by : IsBrought s number key id
  pub given : (bound : Bound) → stands ≡ Some bound → GivesAll by.last bound.vis

came_by_note : (s : State) (own : MapId) (places : List Place) (number : ℕ) (key : Key) (name : List ℕ) (id : GlobId) (vis : Visibility) (def : ItemInNs)
    → HasNote own places s.core.globs.brought s.core.globs.edges number key name id vis → CameAlong s number key id (Some (record { def = def; vis = vis }))
came_by_note s own places number key name id vis def note = record {
  by = record {
    place = note.last.edge;
    edge = note.edge;
    recorded = note.recorded;
    is_glob = note.is_glob;
    into = note.into;
    last = note.last;
    brought = note.noted;
    along = refl;
  };
  given = λ bound e.
      let same : record { def = def; vis = vis } ≡ bound = cc in
      subst (λ (b : Bound). GivesAll note.last b.vis) same note.given;
}

-- in each namespace
module _ (s : State) (own : MapId) (globs : GlobNames) (number : ℕ) (id : GlobId) (v : ScopeValue) (f : IsNotedScope own globs s.core.globs.brought s.core.globs.edges number v) where
  came_type : (name : List ℕ) (o : Option (Item ModuleDefId ImportOrExternCrate)) → item_at v.types name ≡ o → glob_by glob_of o ≡ Some id
      → CameAlong s number (Types name) id (bound_by in_ns.Types o)
  came_type name None at e = absurd (let no : ⊥ = cc in no)
  came_type name (Some i) at e = came_by_note s own globs.types number (Types name) name id i.vis (in_ns.Types i.def) (f.types name i id at e)

  came_value : (name : List ℕ) (o : Option (Item ModuleDefId ImportOrGlob)) → item_at v.values name ≡ o → glob_by glob_of_value o ≡ Some id
      → CameAlong s number (Values name) id (bound_by in_ns.Values o)
  came_value name None at e = absurd (let no : ⊥ = cc in no)
  came_value name (Some i) at e = came_by_note s own globs.values number (Values name) name id i.vis (in_ns.Values i.def) (f.values name i id at e)

  came_macro : (name : List ℕ) (o : Option (Item MacroId ImportOrExternCrate)) → item_at v.macros name ≡ o → glob_by glob_of o ≡ Some id
      → CameAlong s number (Macros name) id (bound_by in_ns.Macros o)
  came_macro name None at e = absurd (let no : ⊥ = cc in no)
  came_macro name (Some i) at e = came_by_note s own globs.macros number (Macros name) name id i.vis (in_ns.Macros i.def) (f.macros name i id at e)

brought_in : (s : State) (own : MapId) (globs : GlobNames) (number : ℕ) (o : Option ModuleValue)
    → ((v : ModuleValue) → o ≡ Some v → IsNotedScope own globs s.core.globs.brought s.core.globs.edges number v.scope)
    → (key : Key) (id : GlobId) → glob_at (entry_of o) key ≡ Some id → CameAlong s number key id (bound_at (entry_of o) (trait_vis o) key)
brought_in s own globs number None f (Types name) id e = absurd (let no : ⊥ = cc in no)
brought_in s own globs number None f (Values name) id e = absurd (let no : ⊥ = cc in no)
brought_in s own globs number None f (Macros name) id e = absurd (let no : ⊥ = cc in no)
brought_in s own globs number None f (Unnamed tr) id e = absurd (let no : ⊥ = cc in no)
brought_in s own globs number (Some v) f (Types name) id e = came_type s own globs number id v.scope (f v refl) name (item_at v.scope.types name) refl e
brought_in s own globs number (Some v) f (Values name) id e = came_value s own globs number id v.scope (f v refl) name (item_at v.scope.values name) refl e
brought_in s own globs number (Some v) f (Macros name) id e = came_macro s own globs number id v.scope (f v refl) name (item_at v.scope.macros name) refl e
brought_in s own globs number (Some v) f (Unnamed tr) id e = absurd (let no : ⊥ = cc in no)

-- what globs see at a key of a module is what stands there
stands_inside : (n : ScopesValue) (at : ℕ) (key : Key) → bound_in (view_of n) (slot_at at key) ≡ bound_at (entry_of (module_at n.map at))
    (trait_vis (module_at n.map at)) key
stands_inside n at (Types name) = refl
stands_inside n at other = refl

named : (entries : List ℕ → PerNs) (key : Key) (id : GlobId) → glob_at entries key ≡ Some id → is_unnamed key ≡ false
named entries (Unnamed tr) id e = absurd (let no : ⊥ = cc in no)
named entries other id e = refl

-- another edge may raise what one brought
other_may : (last : Brought) (place : ℕ) (key : Key) → is_unnamed key ≡ false → last.edge ≢ place → may_raise place key (Some last) ≡ true
other_may last place key name apart = go (last.edge == place) refl
  where
    go : (t : Bool) → (last.edge == place) ≡ t → may_raise place key (Some last) ≡ true
    go true e = absurd (apart ((unsigned_Decides last.edge place).0 e))
    go false e = λ i. name i || not (e i)

-- ---- what others see of the root of a procedural-macro crate

-- items that are seen by fewer are brought by the same globs
glob_censored : {D I : Type 0} (glob : I → Option GlobId) (new : Item D I → Item D I) → ((i : Item D I) → (new i).import ≡ i.import) → (o : Option (Item D I))
    → glob_by glob (option_map new o) ≡ glob_by glob o
glob_censored glob new keeps None = refl
glob_censored {I = I} glob new keeps (Some i) = ap (λ (way : Option I). option_and_then glob way) (keeps i)

glob_mapped : {D I : Type 0} (glob : I → Option GlobId) (new : Item D I → Item D I) → ((i : Item D I) → (new i).import ≡ i.import)
    → (items : List (List ℕ × Item D I)) (name : List ℕ)
    → glob_by glob (item_at (list_map (λ (e : List ℕ × Item D I). (e.0, new e.1)) items) name) ≡ glob_by glob (item_at items name)
glob_mapped glob new keeps items name =
    ap (glob_by glob) (found_mapped (is_at (slice_cmp nat_cmp name)) new items) ∙ glob_censored glob new keeps (item_at items name)

-- a value that is found without some functions is found with them
found_without : (rs : List ImportDirective) (home : ℕ) (fs : List ExportedFunction) (s : ScopeValue) → IsFineScope rs home s
    → (name : List ℕ) (i : Item ModuleDefId ImportOrGlob)
    → item_at (without_functions fs s).values name ≡ Some i → item_at s.values name ≡ Some i
found_without rs home [] s f name i e = e
found_without rs home (x ∷ xs) s f name i e =
    back (is_definition module_def.ghosts.eq (definitions.FunctionId x.id) (item_at s.values x.name))
    (found_without rs home xs (without_function x.name x.id s) (fine_without rs home (x ∷ []) s f) name i e)
  where
    back : (b : Bool) → item_at (cond b (remove_entry (is_at (slice_cmp nat_cmp x.name)) s.values) s.values) name ≡ Some i → item_at s.values name ≡ Some i
    back true h = found_removed (slice_cmp nat_cmp) nat_list_cmp_total x.name name s.values i f.alone h
    back false h = h

same_types : (fs : List ExportedFunction) (s : ScopeValue) → (without_functions fs s).types ≡ s.types
same_types [] s = refl
same_types (f ∷ fs) s = same_types fs (without_function f.name f.id s)

same_macros : (fs : List ExportedFunction) (s : ScopeValue) → (without_functions fs s).macros ≡ s.macros
same_macros [] s = refl
same_macros (f ∷ fs) s = same_macros fs (without_function f.name f.id s)

module _ (rs : List ImportDirective) (krate : Crate) (fs : List ExportedFunction) (v : ModuleValue) (f : IsFineScope rs 0 v.scope) where
  abbrev less : ModuleValue
  less = with_module_scope (exporting_scope krate fs) v

  value_before : (name : List ℕ) (id : GlobId) (o : Option (Item ModuleDefId ImportOrGlob)) → item_at (without_functions fs v.scope).values name ≡ o
      → glob_by glob_of_value o ≡ Some id
      → glob_by glob_of_value (item_at v.scope.values name) ≡ Some id
  value_before name id None at e = absurd (let no : ⊥ = cc in no)
  value_before name id (Some i) at e = ap (glob_by glob_of_value) (found_without rs 0 fs v.scope f name i at) ∙ e

  glob_less : (key : Key) (id : GlobId) → glob_at (entry_of (Some less)) key ≡ Some id → glob_at (entry_of (Some v)) key ≡ Some id
  glob_less (Types name) id e =
      ap (λ (items : List (List ℕ × Item ModuleDefId ImportOrExternCrate)). glob_by glob_of (item_at items name)) (sym (same_types fs v.scope))
      ∙ sym (glob_mapped glob_of (censored_item krate) (λ i. refl) (without_functions fs v.scope).types name) ∙ e
  glob_less (Values name) id e =
      value_before name id (item_at (without_functions fs v.scope).values name) refl
      (sym (glob_mapped glob_of_value (censored_item krate) (λ i. refl) (without_functions fs v.scope).values name) ∙ e)
  glob_less (Macros name) id e =
      ap (λ (items : List (List ℕ × Item MacroId ImportOrExternCrate)). glob_by glob_of (item_at items name)) (sym (same_macros fs v.scope))
      ∙ sym (glob_mapped glob_of (censored_macro krate) (λ i. refl) (without_functions fs v.scope).macros name) ∙ e
  glob_less (Unnamed tr) id e = absurd (let no : ⊥ = cc in no)

glob_ended : (rs : List ImportDirective) (c : Core) → AreFine rs c.map.modules → (number : ℕ) (key : Key) (id : GlobId) → glob_at (entry_at (ended c) number)
    key ≡ Some id → glob_at (entry_at c.map number) key ≡ Some id
glob_ended rs c f number key id =
    ended_by c (λ (m : Map). glob_at (entry_at m number) key ≡ Some id → glob_at (entry_at c.map number) key ≡ Some id) (λ h. h)
    (go number c.map.modules (λ v at. f.each 0 v at))
  where
    go : (k : ℕ) (ms : List ModuleValue) → ((v : ModuleValue) → slice_get ms 0 ≡ Some v → IsFineScope rs 0 v.scope)
        → glob_at (entry_of (slice_get (changed_at ms 0 (with_module_scope (exporting_scope c.map.id.krate c.exported))) k)) key ≡ Some id
        → glob_at (entry_of (slice_get ms k)) key ≡ Some id
    go k [] fine e = e
    go zero (v ∷ vs) fine e = glob_less rs c.map.id.krate c.exported v (fine v refl) key id e
    go (suc k) (v ∷ vs) fine e = e

module _ (tables : TablesValue) (w : Workspace) (finished : Maps) (from : Beginning) (answer : CollectedValue) (e : Ends tables w finished from answer) where
  noted_last : IsNotedState e.last
  noted_last = noted-Steps (record { modules = noted_longer [] _ refl (record { each = λ number m h. absurd (let no : ⊥ = cc in no) }) }) e.derived

  module _ (number : ℕ) (key : Key) (id : GlobId) (is : glob_at (entry_at answer.map number) key ≡ Some id) where
    abbrev v : View
    v = view_in (read_by w finished from.start) e.last

    in_last : glob_at (entry_at e.last.core.map number) key ≡ Some id
    in_last =
        glob_ended e.last.core.reached e.last.core (fine_last tables w finished from answer e).modules number key id
        (subst (λ (m : Map). glob_at (entry_at m number) key ≡ Some id) e.map_is is)

    along_edge : CameAlong e.last number key id (bound_at (entry_of (module_at e.last.core.map number)) (trait_vis (module_at e.last.core.map number)) key)
    along_edge =
        brought_in e.last e.last.core.map.id e.last.core.globs.names number (module_at e.last.core.map number) (λ m at. noted_last.modules.each number m at) key
        id in_last

    abbrev came : IsBrought e.last number key id
    came = along_edge.by

    has_name : is_unnamed key ≡ false
    has_name = named (entry_at e.last.core.map number) key id in_last

    stood : Stands v (slot_at number key) came.last
    stood = e.stands (slot_at number key) came.last came.brought

    as_now : (b : Bound) → shown v came.edge key ≡ Some b → WasSeen came.last came.edge b
    as_now b shows =
        let here : e.last.core.globs.brought (slot_at came.edge.importer key) ≡ Some came.last = ap (λ (k : ℕ). e.last.core.globs.brought (slot_at k key))
        came.into ∙ came.brought in
        let seen : is_as_seen came.edge b came.last ≡ true =
        (e.closed.followed came.place came.edge key came.recorded).followed has_name b came.last shows here
        ((unsigned_Decides came.last.edge came.place).1 came.along) in
        let same_seen : Bool = same_bound came.last.seen b in
        let same_edge : Bool = same_vis came.last.edge_vis came.edge.vis in
        record {
          seen = exact_bound came.last.seen b (first_so same_seen same_edge seen);
          under = exact_visibility came.last.edge_vis came.edge.vis
              (second_so same_seen same_edge seen);
        }

    as_open : (b : Bound) → shown v came.edge key ≡ Some b → (within : Option Crate) → is_open_in within b.vis ≡ true → is_open_in within came.edge.vis ≡ true
        → is_open_in within stood.bound.vis ≡ true
    as_open b shows within source edge =
        let was : WasSeen came.last came.edge b = as_now b shows in
        let stands : bound_at (entry_of (module_at e.last.core.map number)) (trait_vis (module_at e.last.core.map number)) key ≡ Some stood.bound =
        sym (stands_inside (scopes_of (read_by w finished from.start) (import_state e.last)) number key) ∙ stood.there in
        along_edge.given stood.bound stands within (ap (λ (x : Bound). is_open_in within x.vis) was.seen ∙ source) (ap (is_open_in within) was.under ∙ edge)

    as_wide : (other : Edge) (b : Bound) → AlsoShows v e.last number key came.place stood.bound other b → (wide : Visibility)
        → v.greater stood.bound.vis (brought_vis v other b) ≡ Some wide → wide ≡ stood.bound.vis
    as_wide other b also wide greater =
        let here : bound_in v (slot_at other.importer key) ≡ Some stood.bound = ap (λ (k : ℕ). bound_in v (slot_at k key)) also.into ∙ stood.there in
        let brought : e.last.core.globs.brought (slot_at other.importer key) ≡ Some came.last = ap (λ (k : ℕ). e.last.core.globs.brought (slot_at k key))
        also.into ∙ came.brought in
        let may : may_raise also.place key (e.last.core.globs.brought (slot_at other.importer key)) ≡ true =
        ap (may_raise also.place key) brought ∙ other_may came.last also.place key has_name (λ f. also.apart (sym came.along ∙ f)) in
        let same : same_def stood.bound.def b.def ≡ true = subst (λ (d : ItemInNs). same_def stood.bound.def d ≡ true) also.same
        (item_laws.refl stood.bound.def) in
        exact_visibility wide stood.bound.vis ((e.closed.raised also.place other key also.recorded).raised b stood.bound also.shows here may same wide greater)

    as_shown : IsAsShown v e.last number key id
    as_shown = record { by = came; bound = stood.bound; stands = stood.there; def = stood.same; now = as_now; kept_open = as_open; widest = as_wide }

pub globs_bring_what_is_shown : GlobsBringWhatIsShown
globs_bring_what_is_shown tables w finished from answer e number key id is = as_shown tables w finished from answer e number key id is
