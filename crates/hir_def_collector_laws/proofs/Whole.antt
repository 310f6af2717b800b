-- A run leaves maps that name only what is there.
use Rattle.std.specs.Prelude.{◌≡◌, ℕ, zero, suc, ◌<◌, List, [], ◌∷◌, ◌++◌, length, Bool, true, false, ◌&&◌, ◌||◌, not, is_some, Option, None, Some, cond}
use Rattle.std.specs.Prelude.{map as list_map, option_and_then, option_map, slice_get}
use Rattle.std.specs.List.{list_any}
use Rattle.std.proofs.Common.{ap, refl, subst, sym, ◌∙◌, arith}
use Rattle.std.specs.Cmp.{second_so}
use Rattle.std.specs.Prelude.{nat_eq}
use Rattle.std.specs.Str.{bytes_eq}
use Rattle.std.specs.Cmp.Lexicographic.{pointwise}
use Rattle.hir_collector_rules.specs.HirIds.declared.ast_id.AstId.{AstId}
use Rattle.hir_collector_rules.specs.HirIds.declared.ids.Crate.{Crate}
use Rattle.hir_collector_rules.specs.HirIds.declared.ids.EnumId.{EnumId}
use Rattle.hir_collector_rules.specs.HirIds.declared.ids.ExternCrateId.{ExternCrateId}
use Rattle.hir_collector_rules.specs.HirIds.declared.ids.FunctionId.{FunctionId}
use Rattle.hir_collector_rules.specs.HirIds.declared.macro_kind.MacroId.{MacroId}
use Rattle.hir_collector_rules.specs.HirIds.declared.ids.MapId.{MapId}
use Rattle.hir_collector_rules.specs.HirIds.declared.ids.ModuleDefId.{ModuleDefId}
use Rattle.hir_collector_rules.specs.HirIds.declared.ids.ModuleId.{ModuleId}
use Rattle.hir_collector_rules.specs.HirIds.declared.macro_kind.ProcMacroId.{ProcMacroId}
use Rattle.hir_collector_rules.specs.HirIds.declared.ids.TraitId.{TraitId}
use Rattle.hir_collector_rules.specs.HirIds.declared.ast_id.AstKind.TheVariants as nodes
use Rattle.hir_collector_rules.specs.HirIds.declared.ids.AdtId.TheVariants as adts
use Rattle.hir_collector_rules.specs.HirIds.declared.ids.ModuleDefId.TheVariants as definitions
use Rattle.hir_collector_rules.specs.HirIds.declared.macro_kind.MacroId.TheVariants as macros
use Rattle.hir_collector_rules.specs.HirBase.Shape.{has_constructor}
use Rattle.hir_collector_rules.specs.HirItemTree.KeptForest.{Head, function, leaf}
use Rattle.hir_collector_rules.specs.HirItemTree.Imports.{imports_of}
use Rattle.hir_collector_rules.specs.HirBase.declared.shape.ExternCrateName.{ExternCrateName}
use Rattle.hir_collector_rules.specs.HirRawVisibility.declared.raw_visibility.RawVisibility.{RawVisibility}
use Rattle.hir_collector_rules.specs.HirBase.declared.shape.ExternCrateName.TheVariants.{SelfCrate, Name}
use Rattle.hir_collector_rules.specs.HirPerNs.declared.imports.GlobId.{GlobId}
use Rattle.hir_collector_rules.specs.HirPerNs.declared.imports.ImportId.{ImportId}
use Rattle.hir_collector_rules.specs.HirPerNs.declared.imports.ImportOrExternCrate.{ImportOrExternCrate}
use Rattle.hir_collector_rules.specs.HirPerNs.declared.item_in_ns.ItemInNs.{ItemInNs}
use Rattle.hir_collector_rules.specs.HirPerNs.declared.per_ns.PerNs.{PerNs}
use Rattle.hir_collector_rules.specs.HirPerNs.declared.visibility.Visibility.{Visibility}
use Rattle.hir_collector_rules.specs.HirPerNs.declared.item_in_ns.ItemInNs.TheVariants as in_ns
use Rattle.hir_collector_rules.specs.HirPerNs.PerNs.{Item, with_constructor, item_of, macros_only}
use Rattle.hir_collector_rules.specs.HirPerNs.ModuleTree.{same_crate}
use Rattle.hir_collector_rules.specs.HirPerNs.declared.visibility.Visibility.TheVariants as visibilities
use Rattle.hir_collector_rules.specs.HirDefMapRules.declared.declaration.Declaration.TheVariants as listings
use Rattle.hir_collector_rules.specs.HirDefMapRules.declared.declaration.Declaration.{Declaration as Listing}
use Rattle.hir_collector_rules.specs.HirMapParts.declared.diagnostics.DefDiagnostic.{DefDiagnostic}
use Rattle.hir_collector_rules.specs.HirMapParts.declared.enum_variants.EnumVariant.{EnumVariant}
use Rattle.hir_collector_rules.specs.HirMapParts.declared.origin.ModuleOrigin.{ModuleOrigin}
use Rattle.hir_collector_rules.specs.HirDefMapRules.declared.reference.Reference.{Reference}
use Rattle.hir_collector_rules.specs.HirDefMapRules.declared.reference.Reference.TheVariants as named
use Rattle.hir_collector_rules.specs.HirIds.contracts.ids.MapIdPartialEq.TheImpl as map_id
use Rattle.hir_collector_rules.specs.HirDefMapRules.Sources.{on_some}
use Rattle.hir_collector_rules.proofs.HirDefMapRules.Fails.{Fails-nothing}
use Rattle.hir_collector_rules.proofs.HirDefMapRules.NoneOf.{neither, none_at, none_inserted_last, none_of_less, not_first, not_second}
use Rattle.hir_collector_rules.specs.HirDefMapRules.Inner.OverlayLaws.{same_id}
use Rattle.hir_collector_rules.specs.HirDefMapRules.Closed.{AreThere, IsThere, IsClosed, PathsLeadToWhatIsThere, VisibilityIsThere}
use Rattle.hir_collector_rules.specs.HirDefMapRules.WellFormed.{AreWellFormed, HasNoDanglingExtern, Extends, HasNoDanglingReference}
use Rattle.hir_collector_rules.proofs.HirDefMapRules.WellFormed.{HasNoDanglingExtern-more, IsClosed-well_formed, HasNoDanglingReference-more}
use Rattle.hir_collector_rules.proofs.HirDefMapRules.WellFormed.{held_there, none_missing}
use Rattle.hir_def_map.proofs.Naming.{held_outside}
use Rattle.hir_collector_rules.specs.HirDefMapRules.Declaration.{listed}
use Rattle.hir_collector_rules.specs.HirDefMapRules.Macros.{with_exported, with_macro_data, with_macro_def}
use Rattle.hir_collector_rules.specs.HirDefMapRules.References.{any_own_crate, any_reference_in, crate_map, is_holder_for}
use Rattle.hir_collector_rules.specs.HirDefMapRules.References.{is_missing, reference_to, prelude_reference}
use Rattle.hir_collector_rules.specs.HirDefMapRules.References.{test_crate, test_of, test_item, test_visibility, FailsAtItem, FailsAtMacro}
use Rattle.hir_collector_rules.specs.HirDefMapRules.Reaches.{by_import}
use Rattle.hir_collector_rules.specs.HirDefMapRules.Scoping.{Resolution, resolution_of}
use Rattle.hir_collector_rules.specs.HirDefMapRules.Scoping.Segments.{variant_in}
use Rattle.hir_collector_rules.specs.HirDefMapRules.Scoping.Asking.{local_of}
use Rattle.hir_collector_rules.specs.HirDefMapRules.Scoping.Start.{crate_root}
use Rattle.hir_collector_rules.specs.HirDefMapRules.State.{CrateData, IsBefore, Local, MacroDataValue, Map, ModuleValue}
use Rattle.hir_collector_rules.specs.HirDefMapRules.State.{Variants, entry_at, entry_of, module_at, new_id}
use Rattle.hir_collector_rules.specs.HirDefMapRules.State.{new_module, numbered, root_of, with_declared, with_enum, with_extern}
use Rattle.hir_collector_rules.specs.HirDefMapRules.State.{with_prelude, with_module, with_scope, at_name}
use Rattle.hir_collector_rules.specs.HirDefMapRules.Overlay.{Maps, Placed, entry_in, overlay, placed_in, module_in, variants_in}
use Rattle.hir_collector_rules.proofs.HirDefMapRules.StaysWellFormed.{Extends-overlay, Extends-grown, Extends-made, Extends-scope}
use Rattle.hir_collector_rules.proofs.HirDefMapRules.StaysWellFormed.{IsClosed-overlay, LocalIsThere-begins}
use Rattle.hir_collector_rules.proofs.HirDefMapRules.StaysWellFormed.{HasNoDanglingReference-prelude, module_there, new_there, Extends-enum}
use Rattle.hir_collector_rules.specs.declared.declaration.Declaration.{Declaration}
use Rattle.hir_collector_rules.specs.declared.source_database.Dependency.{Dependency}
use Rattle.hir_collector_rules.specs.declared.site.Site.{Site}
use Rattle.hir_collector_rules.specs.declared.start.Start.{Start}
use Rattle.hir_collector_rules.specs.declared.start.Start.TheVariants as starts
use Rattle.hir_collector_rules.specs.HirGlobImports.Moves.{brought_vis, shown as shown_along}
use Rattle.hir_collector_rules.specs.HirGlobImports.declared.edge.Bound.{Bound}
use Rattle.hir_collector_rules.specs.HirGlobImports.declared.edge.Edge.{Edge}
use Rattle.hir_collector_rules.specs.HirGlobImports.declared.edge.Key.{Key}
use Rattle.hir_collector_rules.specs.HirGlobImports.declared.edge.Slot.{Slot}
use Rattle.hir_collector_rules.specs.HirGlobImports.declared.edge.Target.{Target}
use Rattle.hir_collector_rules.specs.HirGlobImports.Rules.{Rule as GlobRule, acts as glob_acts, copies_along, follows_along, raises_along, May as MayAlong}
use Rattle.hir_collector_rules.specs.HirGlobImports.declared.edge.Key.TheVariants.{Types, Values, Macros, Unnamed}
use Rattle.hir_collector_rules.specs.HirGlobImports.declared.edge.Target.TheVariants as targets
use Rattle.hir_collector_rules.specs.HirImportRules.declared.directive.ImportDirective.{ImportDirective}
use Rattle.hir_collector_rules.specs.HirImportRules.declared.directive.ImportSource.{ImportSource}
use Rattle.hir_collector_rules.specs.Workspace.{Workspace, dependencies_in, transitive_dependencies_in}
use Rattle.hir_collector_rules.specs.HirTables.Tables.{TablesValue}
use Rattle.hir_collector_rules.specs.Keys.{Environment, environment}
use Rattle.hir_collector_rules.specs.State.{State, Visit, import_state, Task, visits, behind}
use Rattle.hir_collector_rules.specs.ItemIds.{enum_id, extern_crate_id, function_id, macro_rules_id, module_id, use_id, macro_def_id, node_of}
use Rattle.hir_collector_rules.specs.Items.{declaration_of, declared_module, declared_type, file_origin, inline_origin, own_visibility}
use Rattle.hir_collector_rules.specs.HirImportRules.Visibilities.{visibility_in, greater_in}
use Rattle.hir_collector_rules.specs.Enums.{variants_of}
use Rattle.hir_collector_rules.specs.HirImportRules.Directives.{answer_in, answer_to, is_one_name, kept_by_kind}
use Rattle.hir_collector_rules.specs.HirImportRules.Directives.{kept_trait, kind_of, leaf_of, name_of, offered_by}
use Rattle.hir_collector_rules.specs.HirImportRules.Directives.{open_items, visibility_of, edge_to, path_answer, target_among, target_at, target_by}
use Rattle.hir_collector_rules.specs.HirImportRules.Changes.{along, keeps_trait, pushes, kept_vis, Change as ImportChange}
use Rattle.hir_collector_rules.specs.HirImportRules.Names.{ScopesValue, bound_at, bound_by, bound_of, bound_trait, entries_of, is_foreign, items_by, traits_of}
use Rattle.hir_collector_rules.specs.HirImportRules.Names.{variant_items, view_of, is_open, open_vis, scope_table, trait_vis}
use Rattle.hir_collector_rules.specs.HirImportRules.Rules.{Rule as ImportRule, May as MayImport, acts as import_acts, goes_along, takes_glob, takes_import}
use Rattle.hir_collector_rules.specs.HirImportRules.State.{ImportState, scopes_of, glob_state}
use Rattle.hir_collector_rules.specs.Imports.{crate_import, crate_named, dependency_named}
use Rattle.hir_collector_rules.specs.Attributes.{proc_macro_id}
use Rattle.hir_collector_rules.specs.Calls.{error_of}
use Rattle.hir_collector_rules.specs.Ended.{ended}
use Rattle.hir_collector_rules.specs.Changes.{changes_imports, act}
use Rattle.hir_collector_rules.specs.Macros.{macros_beside, macros_brought, with_macros_used}
use Rattle.hir_collector_rules.specs.Moves.{begun}
use Rattle.hir_collector_rules.specs.Preludes.{by_prelude, extern_prelude, joins, module_by, module_named, module_of, prelude_of, prelude_path, with_dependency}
use Rattle.hir_collector_rules.specs.Start.{Beginning, begin_of, holder_of, holders_by, id_of, krate_of, origin_of, own_prelude, read_by, root_map, root_tree}
use Rattle.hir_collector_rules.specs.Start.{start_data, start_local, start_of, root_visibility}
use Rattle.hir_collector_rules.specs.Steps.{Rule, drops_item, awaits_attribute, lists_derives, faults_derive, exports_macro, reaches_call, rests}
use Rattle.hir_collector_rules.specs.Steps.{expands_call, meets_macro}
use Rattle.hir_collector_rules.specs.Steps.{drops_call, drops_reached, derives_builtin, skips_attribute, falls_back, defines_rules, defines_macro}
use Rattle.hir_collector_rules.specs.Steps.{closes_module, declares_item, declares_enum, lists_constant, lists_impl, opens_module, opens_file, drops_file}
use Rattle.hir_collector_rules.specs.Steps.{misses_file, enters_block, reaches_imports, reaches_crate, resolves_imports, May, acts, asking, macro_data_of}
use Rattle.hir_collector_rules.specs.Steps.{visit, Step, Steps, none, more}
use Rattle.hir_collector_rules.specs.Derivation.{CollectedValue, Ends, leftover_reports}
use Rattle.hir_def_collector_laws.specs.Whole.{StandsOnWhole}
use Rattle.hir_collector_rules.proofs.Changes.{AllFine, fine_bringing, fine_expanding, fine_macro, fine_reporting, perform_keeps}
use Rattle.hir_collector_rules.proofs.InRange.{IsInRange, import_at, in_range-Steps, next_home}
use Rattle.hir_collector_rules.proofs.Derived.{start_dependencies}
use Rattle.hir_collector_rules.proofs.Holds.{in_range-start}
use Rattle.hir_collector_rules.proofs.ImportEdits.{copy_at, copy_where, edit_of, follow_at, follow_where, map_after}
use Rattle.hir_def_collector_laws.proofs.SourcedEdits.{shown_stands}
use Rattle.hir_def_collector_laws.proofs.Visible.{greater, imported_fails, lesser_or, on_edge, recorded_fail, some_or, target_reference, visible_there}
use Rattle.hir_def_collector_laws.proofs.WholeEdits.{DefIsThere, EditIsThere, EditsWhatIsThere}
use Rattle.hir_def_collector_laws.proofs.WholeEnums.{enum_there, own_variants}
use Rattle.hir_def_collector_laws.proofs.WholeChanges.{crate_of, root_named, test_import, NamesWhatIsThere, uses_name_none, still_there, seen_still}
use Rattle.hir_def_collector_laws.proofs.WholeChanges.{items_still, root_stands, type_there, value_there, macro_there, declared_item_there, kept_there}
use Rattle.hir_def_collector_laws.proofs.WholeChanges.{open_there, sourced_there, BoundIsThere, BringsWhatIsThere, Extends-beside_of, Extends-reported}
use Rattle.hir_def_collector_laws.proofs.WholeChanges.{NamesOnly-reported, Extends-used, NamesOnly-used, Extends-edited, trait_seen, names-act}
use Rattle.hir_def_collector_laws.proofs.WholeEnded.{Extends-ended, HasNoDanglingReference-ended}

-- ---- rules

module _ (paths : PathsLeadToWhatIsThere) (finished : Maps) (whole : AreWellFormed finished) where
  module _ (s : State) (inside : IsInRange s) (f : NamesWhatIsThere finished s) where
    abbrev here : Map
    here = s.core.map

    abbrev count : ℕ
    count = length here.modules

    abbrev maps_here : Maps
    maps_here = overlay finished here

    closed_here : IsClosed maps_here
    closed_here = IsClosed-overlay finished here f.apart whole f.names

    -- what is written in a module of the map names a module that is there
    seen_at : (at : ℕ) → at < count → (raw : RawVisibility) → VisibilityIsThere maps_here (visibility_in finished s.core.local here (module_id here at) raw)
    seen_at at low raw =
        visible_there paths finished here s.core.local closed_here (LocalIsThere-begins maps_here s.core.local f.begins) (module_id here at)
        (module_there finished here at low) raw

    own_seen_at : (site : Site) (head : Head) → site.home < count → VisibilityIsThere maps_here (own_visibility finished s.core.local here site head)
    own_seen_at site head low = seen_at site.home low head.visibility

    -- an item that is listed
    item_there : (v : Visit) (d : Declaration) → v.site.home < count → declaration_of finished s.core.local here v ≡ Some d
        → AreThere (overlay finished (with_declared here v.site.home d.def)) d.items
    item_there v d low e =
        items_still maps_here (overlay finished (with_declared here v.site.home d.def)) (Extends-scope finished here v.site.home (listed (listings.Def d.def)))
        d.items
        (declared_item_there finished maps_here s.core.local here v d (seen_at v.site.home low) v.item e)

    -- an enum that has got its variants, and is listed
    enumeration_there : (site : Site) (head : Head) (variants : Variants) → site.home < count
        → AreThere (overlay finished (with_declared (with_enum here (enum_id here site head.id) variants) site.home
        (definitions.AdtId (adts.EnumId (enum_id here site head.id)))))
        (declared_type (definitions.AdtId (adts.EnumId (enum_id here site head.id))) (own_visibility finished s.core.local here site head))
    enumeration_there site head variants low =
        let id : EnumId = enum_id here site head.id in
        let vis : Visibility = own_visibility finished s.core.local here site head in
        let one : Map = with_enum here id variants in
        let listing : Listing = listings.Def (definitions.AdtId (adts.EnumId id)) in
        items_still (overlay finished one) (overlay finished (with_scope one site.home (listed listing)))
        (Extends-scope finished one site.home (listed listing))
        (declared_type (definitions.AdtId (adts.EnumId id)) vis)
        (type_there (overlay finished one) (definitions.AdtId (adts.EnumId id)) vis (enum_there finished here id variants (same_id here.id))
        (seen_still maps_here (overlay finished one) (Extends-enum finished here id variants) vis (own_seen_at site head low)))

    -- a module that was made, and is listed
    module_made_there : (site : Site) (head : Head) (name : List ℕ) (origin : ModuleOrigin) → site.home < count
        → AreThere (overlay finished (with_declared
        (begun here site.home name (new_module origin (own_visibility finished s.core.local here site head) (Some (module_id here site.home)))) site.home
        (definitions.ModuleId (new_id here))))
        (declared_module here (own_visibility finished s.core.local here site head))
    module_made_there site head name origin low =
        let vis : Visibility = own_visibility finished s.core.local here site head in
        let one : Map = with_module here site.home name (new_module origin vis (Some (module_id here site.home))) in
        let two : Map = begun here site.home name (new_module origin vis (Some (module_id here site.home))) in
        let listing : Listing = listings.Def (definitions.ModuleId (new_id here)) in
        items_still (overlay finished two) (overlay finished (with_scope two site.home (listed listing)))
        (Extends-scope finished two site.home (listed listing)) (declared_module here vis)
        (items_still (overlay finished one) (overlay finished two) (Extends-scope finished one count _) (declared_module here vis)
        (type_there (overlay finished one) (definitions.ModuleId (new_id here)) vis (new_there finished here site.home low name origin vis)
        (seen_still maps_here (overlay finished one) (Extends-made finished here site.home low name origin vis) vis (own_seen_at site head low))))

    -- a macro that is defined and listed
    macro_made_there : (site : Site) (head : Head) (node : AstId) (makro : MacroId) (what : MacroDataValue) → site.home < count
        → AreThere (overlay finished (with_declared (with_macro_data (with_macro_def here node makro) makro what) site.home (definitions.MacroId makro)))
        (macros_only makro (own_visibility finished s.core.local here site head) None)
    macro_made_there site head node makro what low =
        let vis : Visibility = own_visibility finished s.core.local here site head in
        let one : Map = with_macro_data (with_macro_def here node makro) makro what in
        let listing : Listing = listings.Def (definitions.MacroId makro) in
        items_still (overlay finished one) (overlay finished (with_scope one site.home (listed listing)))
        (Extends-scope finished one site.home (listed listing)) (macros_only makro vis None)
        (macro_there (overlay finished one) makro vis
        (seen_still maps_here (overlay finished one) (Extends-beside_of finished here one) vis (own_seen_at site head low)))

    -- a function that is listed, once what it exports is noted
    exporting_there : (v : Visit) (d : Declaration) (f : FunctionId) (makro : ProcMacroId) (what : MacroDataValue) → v.site.home < count
        → declaration_of finished s.core.local here v ≡ Some d
        → AreThere (overlay finished (with_declared (with_macro_data (with_exported here f makro) (macros.ProcMacroId makro) what) v.site.home d.def)) d.items
    exporting_there v d f makro what low e =
        let one : Map = with_macro_data (with_exported here f makro) (macros.ProcMacroId makro) what in
        items_still (overlay finished one) (overlay finished (with_declared one v.site.home d.def))
        (Extends-scope finished one v.site.home (listed (listings.Def d.def))) d.items
        (items_still maps_here (overlay finished one) (Extends-beside_of finished here one) d.items
        (declared_item_there finished maps_here s.core.local here v d (seen_at v.site.home low) v.item e))

    -- the root of its own crate is there, and of each crate on which it depends
    own_there : is_missing (overlay finished here) (named.Module (crate_root here.id.krate)) ≡ false
    own_there =
        let closed = IsClosed-overlay finished here f.apart whole f.names in
        ap not (closed.roots (crate_map here.id.krate) (closed.crates (root_of here.id) (module_there finished here 0 f.names.root)))

    dependency_there : (ds : List Dependency) → list_any (λ (d : Dependency). test_crate (is_missing finished) d.krate) ds ≡ false → (name : List ℕ)
        → test_of (is_missing (overlay finished here)) (root_named (dependency_named ds name)) ≡ false
    dependency_there [] g name = refl
    dependency_there (d ∷ ds) g name =
        let missing : Dependency → Bool = λ (x : Dependency). test_crate (is_missing finished) x.krate in
        go (bytes_eq d.name name) (not_first (missing d) (list_any missing ds) g) (dependency_there ds (not_second (missing d) (list_any missing ds) g) name)
      where
        go : (b : Bool) → test_crate (is_missing finished) d.krate ≡ false → test_of (is_missing (overlay finished here))
            (root_named (dependency_named ds name)) ≡ false
            → test_of (is_missing (overlay finished here)) (root_named (cond b (Some d.krate) (dependency_named ds name))) ≡ false
        go true direct later =
            none_missing finished (overlay finished here) (Extends-overlay finished here f.apart) (named.Module (crate_root d.krate))
            (root_stands finished whole d.krate direct)
        go false direct later = later

    crate_there : (name : ExternCrateName) → test_of (is_missing (overlay finished here)) (root_named (crate_named here.id.krate s.core.dependencies name))
        ≡ false
    crate_there SelfCrate = own_there
    crate_there (Name name) = dependency_there s.core.dependencies f.dependencies name

    reached_there : (r : ImportDirective) → r.home < count → AreThere (overlay finished here) (answer_in finished s.core.local here (module_id here r.home)
        r.path).resolved_def
    unfolding answer_in
    reached_there r low = paths (overlay finished here) (by_import s.core.local) (module_id here r.home) r.path
        (IsClosed-overlay finished here f.apart whole f.names) (LocalIsThere-begins (overlay finished here) s.core.local f.begins)
        (module_there finished here r.home low)

    offered_there : (r : ImportDirective) → r.home < count → test_import (is_missing (overlay finished here)) r ≡ false
        → AreThere (overlay finished here) (offered_by finished s.core.local here r)
    offered_there r low there =
        let maps = overlay finished here in
        let answer : Resolution = answer_to finished s.core.local here r in
        let open_ : PerNs = open_items answer.prefix_info.differing_crate answer.resolved_def in
        imported_fails (is_missing maps) finished here (visibility_in finished s.core.local here (module_id here r.home) r.visibility) (is_one_name r.path)
        (kept_by_kind (kind_of r.source) open_)
        (seen_at r.home low r.visibility)
        (kept_there maps (kind_of r.source) open_
        (open_there maps answer.prefix_info.differing_crate answer.resolved_def
        (sourced_there maps r.source (answer_in finished s.core.local here (module_id here r.home) r.path) there (reached_there r low))))

    -- ---- what globs bring

    abbrev names_here : ScopesValue
    names_here = scopes_of finished (import_state s)

    -- what stands at a key of names that stand for what is there
    item_bound : {I : Type 0} (in_namespace : ModuleDefId → ItemInNs) → ((def : ModuleDefId) → IsThere maps_here def → DefIsThere maps_here (in_namespace def))
        → (o : Option (Item ModuleDefId I))
        → FailsAtItem (is_missing maps_here) o → BoundIsThere maps_here (bound_by in_namespace o)
    item_bound in_namespace there None g = tt
    item_bound in_namespace there (Some i) g =
        let def = test_of (is_missing maps_here) (reference_to i.def) in
        let seen = test_visibility (is_missing maps_here) i.vis in
        (there i.def (not_first def seen g), not_second def seen g)

    macro_bound : (o : Option (Item MacroId ImportOrExternCrate)) → FailsAtMacro (is_missing maps_here) o → BoundIsThere maps_here (bound_by in_ns.Macros o)
    macro_bound None g = tt
    macro_bound (Some i) g = (tt, g)

    trait_bound : (id : TraitId) (o : Option Visibility) → on_some (test_visibility (is_missing maps_here)) o ≡ false
        → BoundIsThere maps_here (bound_trait id o)
    trait_bound id None g = tt
    trait_bound id (Some vis) g = (refl, g)

    key_there : (entries : List ℕ → PerNs) (traits : TraitId → Option Visibility) → ((name : List ℕ) → AreThere maps_here (entries name))
        → ((id : TraitId) → on_some (test_visibility (is_missing maps_here)) (traits id) ≡ false) → (key : Key)
        → BoundIsThere maps_here (bound_at entries traits key)
    key_there entries traits each seen (Types name) = item_bound in_ns.Types (λ def g. g) (entries name).types (each name).types
    key_there entries traits each seen (Values name) = item_bound in_ns.Values (λ def g. g) (entries name).values (each name).values
    key_there entries traits each seen (Macros name) = macro_bound (entries name).macros (each name).macros
    key_there entries traits each seen (Unnamed id) = trait_bound id (traits id) (seen id)

    -- of a module of the map
    entry_own : (at : ℕ) (name : List ℕ) → entry_in (overlay finished here) (numbered here.id at) name ≡ entry_at here at name
    entry_own at name =
        ap (λ (b : Bool). entry_of (option_and_then (λ (placed : Placed). module_at placed.map at) (cond b (Some (placed_in finished here)) (finished here.id)))
        name) (same_id here.id)

    -- of one among the finished maps
    more_there : (items : PerNs) → AreThere finished items → AreThere maps_here items
    more_there items g = items_still finished maps_here (Extends-overlay finished here f.apart) items g

    -- a variant is that of an enum that is there
    variant_there : (id : EnumId) (name : List ℕ) (o : Option EnumVariant) → variant_in maps_here id name ≡ o → AreThere maps_here (variant_items o)
    variant_there id name None e = Fails-nothing (is_missing maps_here)
    variant_there id name (Some v) e = go (has_constructor v.shape)
      where
        present : (o : Option Variants) → option_and_then (λ (vs : Variants). at_name vs name) o ≡ Some v → is_some o ≡ true
        present None g = absurd cc
        present (Some vs) g = refl

        own : is_missing maps_here (named.Enum v.id.parent) ≡ false
        own = ap (λ (x : EnumId). is_missing maps_here (named.Enum x)) (closed_here.variants id name v e) ∙ ap not (present (variants_in maps_here id) e)

        public : test_item (is_missing maps_here) (item_of {I = ImportOrExternCrate} (definitions.EnumVariantId v.id) visibilities.Public None) ≡ false
        public = neither (is_missing maps_here (named.Enum v.id.parent)) false own refl

        go : (b : Bool) → AreThere maps_here (with_constructor (definitions.EnumVariantId v.id) visibilities.Public (cond b (Some visibilities.Public) None)
            None)
        go true = record { types = public; values = public; macros = tt }
        go false = record { types = public; values = tt; macros = tt }

    entries_there : (of : Target) (name : List ℕ) → AreThere maps_here (entries_of names_here of name)
    entries_there (targets.Own at) name = subst (AreThere maps_here) (entry_own at name) (closed_here.names (numbered here.id at) name)
    entries_there (targets.Module m) name =
        open_there maps_here (is_foreign here.id m) (entry_in finished m name)
        (more_there (entry_in finished m name) ((IsClosed-well_formed finished whole).names m name))
    entries_there (targets.Enum id) name = variant_there id name (variant_in maps_here id name) refl

    open_seen : (crossing : Bool) (o : Option Visibility) → on_some (test_visibility (is_missing maps_here)) o ≡ false
        → on_some (test_visibility (is_missing maps_here)) (open_vis crossing o) ≡ false
    open_seen crossing None g = refl
    open_seen crossing (Some vis) g = go (is_open crossing vis)
      where
        go : (b : Bool) → on_some (test_visibility (is_missing maps_here)) (cond b (Some vis) None) ≡ false
        go true = g
        go false = refl

    -- the traits without names of a finished map
    trait_finished : (m : ModuleId) (id : TraitId) (o : Option Placed) → finished m.map ≡ o
        → on_some (test_visibility (is_missing maps_here)) (trait_vis (option_and_then (λ (placed : Placed). module_at placed.map m.index) o) id) ≡ false
    trait_finished m id None e = refl
    trait_finished m id (Some placed) e =
        trait_seen maps_here placed.map (HasNoDanglingReference-more finished maps_here (Extends-overlay finished here f.apart) placed.map
        (whole m.map placed e).names) m.index id

    traits_there : (of : Target) (id : TraitId) → on_some (test_visibility (is_missing maps_here)) (traits_of names_here of id) ≡ false
    traits_there (targets.Own at) id = trait_seen maps_here here f.names at id
    traits_there (targets.Module m) id = open_seen (is_foreign here.id m) (trait_vis (module_in finished m) id) (trait_finished m id (finished m.map) refl)
    traits_there (targets.Enum e) id = refl

    pub bound_there : (of : Target) (key : Key) → BoundIsThere maps_here (bound_of names_here of key)
    bound_there of key = key_there (entries_of names_here of) (traits_of names_here of) (entries_there of) (traits_there of) key

    bound_is_there : (of : Target) (key : Key) (b : Bound) → bound_of names_here of key ≡ Some b → DefIsThere maps_here b.def
        × VisibilityIsThere maps_here b.vis
    bound_is_there of key b e = subst (BoundIsThere maps_here) e (bound_there of key)

    items_there : (def : ItemInNs) (vis : Visibility) → DefIsThere maps_here def → VisibilityIsThere maps_here vis → AreThere maps_here (items_by def vis)
    items_there (in_ns.Types def) vis g h = type_there maps_here def vis g h
    items_there (in_ns.Values def) vis g h = value_there maps_here def vis g h
    items_there (in_ns.Macros def) vis g h = macro_there maps_here def vis h

    -- what an edge brings is seen by what is there
    brought_seen : (j : ℕ) (e : Edge) (b : Bound) → slice_get s.core.globs.edges j ≡ Some e → VisibilityIsThere maps_here b.vis
        → VisibilityIsThere maps_here (brought_vis (view_of names_here) e b)
    brought_seen j e b at g =
        lesser_or (is_missing maps_here) finished here e.vis b.vis
        (not_second (test_of (is_missing maps_here) (target_reference e.source)) (test_visibility (is_missing maps_here) e.vis)
        (none_at (on_edge (is_missing maps_here)) s.core.globs.edges f.edges j e at)) g

    -- what the source of an edge shows
    shown_there : (e : Edge) (key : Key) (b : Bound) → shown_along (view_of names_here) e key ≡ Some b → DefIsThere maps_here b.def
        × VisibilityIsThere maps_here b.vis
    shown_there e key b g = bound_is_there e.source key b (shown_stands ((view_of names_here).sees e.importer) (bound_of names_here e.source key) b g)

    -- the greater of what stands somewhere and what an edge brings
    wider_seen : (a b vis : Visibility) → VisibilityIsThere maps_here a → VisibilityIsThere maps_here b → (view_of names_here).greater a b ≡ Some vis
        → VisibilityIsThere maps_here vis
    wider_seen a b vis g h e = go ((view_of names_here).greater a b) e (greater (is_missing maps_here) finished here a b g h)
      where
        go : (o : Option Visibility) → o ≡ Some vis → on_some (test_visibility (is_missing maps_here)) o ≡ false → VisibilityIsThere maps_here vis
        go None e k = absurd cc
        go (Some x) e k = let same : x ≡ vis = cc in subst (VisibilityIsThere maps_here) same k

    copied_there : (slot : Slot) (vis : Visibility) (by : GlobId) (o : Option Bound) → BoundIsThere (overlay finished here) o → VisibilityIsThere maps_here vis
        → EditsWhatIsThere (overlay finished here) (copy_where (import_state s) slot vis by o)
    copied_there slot vis by None g seen = tt
    copied_there slot vis by (Some b) g seen = go slot.key
      where
        go : (key : Key) → EditIsThere (overlay finished here) (copy_at (import_state s) key vis by b)
        go (Unnamed id) = seen
        go other = items_there b.def vis g.0 seen

    followed_there : (slot : Slot) (vis : Visibility) (o : Option Bound) → BoundIsThere (overlay finished here) o → VisibilityIsThere maps_here vis
        → EditsWhatIsThere (overlay finished here) (follow_where (import_state s) slot vis o)
    followed_there slot vis None g seen = tt
    followed_there slot vis (Some b) g seen = go slot.key
      where
        go : (key : Key) → EditIsThere (overlay finished here) (follow_at (import_state s) key vis b)
        go (Unnamed id) = seen
        go other = (g.0, seen)

    globs_bring : (rule : GlobRule) → MayAlong scope_table (glob_state finished (import_state s)) rule
        → AllFine (BringsWhatIsThere finished) s (list_map changes_imports (list_map (along finished) (glob_acts (view_of names_here) rule)))
    globs_bring (copies_along j e slot b) may =
        let seen = brought_seen j e b may.shows.recorded (shown_there e slot.key b may.shows.shown).1 in (
          (copied_there slot (brought_vis (view_of names_here) e b) e.id (bound_of names_here e.source slot.key) (bound_there e.source slot.key) seen, tt),
          ((tt, tt), tt),
        )
    globs_bring (follows_along j e slot b) may =
        let seen = brought_seen j e b may.shows.recorded (shown_there e slot.key b may.shows.shown).1 in (
          (followed_there slot (brought_vis (view_of names_here) e b) (bound_of names_here e.source slot.key) (bound_there e.source slot.key) seen, tt),
          ((tt, tt), tt),
        )
    globs_bring (raises_along j e slot vis) may =
        let seen = brought_seen j e may.b may.shows.recorded (shown_there e slot.key may.b may.shows.shown).1 in (
          (
            wider_seen may.c.vis (brought_vis (view_of names_here) e may.b) vis (bound_is_there (targets.Own slot.at) slot.key may.c may.stands).1 seen
                may.greater,
            tt,
          ),
          tt,
        )

    -- ---- what imports bring

    push_there : (home : ℕ) (o : Option (List ℕ)) (items : PerNs) (source : Option ImportSource) → AreThere (overlay finished here) items
        → EditsWhatIsThere (overlay finished here) (edit_of (import_state s) (pushes home o items source))
    push_there home None items source g = tt
    push_there home (Some name) items source g = g

    abbrev once_pushed : ImportDirective → State
    once_pushed r = act s (changes_imports (pushes r.home (name_of r) (offered_by finished s.core.local here r) (Some r.source)))

    -- a trait that is kept without a name
    keep_there : (maps : Maps) (i : ImportState) → HasNoDanglingReference maps i.map → (home : ℕ) (o : Option TraitId) (vis : Visibility) (by : Option ImportId)
        → VisibilityIsThere maps vis
        → EditsWhatIsThere maps (edit_of i (keeps_trait finished home o vis by))
    keep_there maps i names home None vis by g = tt
    keep_there maps i names home (Some id) vis by g = go (trait_vis (module_at i.map home) id) (trait_seen maps i.map names home id)
      where
        go : (o : Option Visibility) → on_some (test_visibility (is_missing maps)) o ≡ false → VisibilityIsThere maps (kept_vis finished i.map vis o)
        go None h = g
        go (Some old) h = some_or (is_missing maps) (greater_in finished i.map old vis) old (greater (is_missing maps) finished i.map old vis h g) h

    -- what a path reaches for a glob
    target_there : (o : Option (Item ModuleDefId ImportOrExternCrate)) → FailsAtItem (is_missing maps_here) o → (target : Target) → target_among here.id o
        ≡ Some target
        → test_of (is_missing maps_here) (target_reference target) ≡ false
    target_there None g target e = absurd cc
    target_there (Some i) g target e =
        by_def i.def (not_first (test_of (is_missing maps_here) (reference_to i.def)) (test_visibility (is_missing maps_here) i.vis) g) e
      where
        is_target : (other : Target) → test_of (is_missing maps_here) (target_reference other) ≡ false → Some other ≡ Some target
            → test_of (is_missing maps_here) (target_reference target) ≡ false
        is_target other h k = let same : other ≡ target = cc in subst (λ (x : Target). test_of (is_missing maps_here) (target_reference x) ≡ false) same h

        at : (m : ModuleId) (b : Bool) → is_missing maps_here (named.Module m) ≡ false → test_of (is_missing maps_here)
            (target_reference (cond b (targets.Own m.index) (targets.Module m))) ≡ false
        at m true h = refl
        at m false h = h

        by_def : (d : ModuleDefId) → test_of (is_missing maps_here) (reference_to d) ≡ false → target_by here.id d ≡ Some target
            → test_of (is_missing maps_here) (target_reference target) ≡ false
        by_def (definitions.ModuleId m) h k = is_target (target_at here.id m) (at m (map_id.ghosts.eq m.map here.id) h) k
        by_def (definitions.AdtId (adts.EnumId id)) h k = is_target (targets.Enum id) h k
        by_def (definitions.AdtId (adts.StructId id)) h k = absurd cc
        by_def (definitions.AdtId (adts.UnionId id)) h k = absurd cc
        by_def (definitions.FunctionId x) h k = absurd cc
        by_def (definitions.EnumVariantId x) h k = absurd cc
        by_def (definitions.ConstId x) h k = absurd cc
        by_def (definitions.StaticId x) h k = absurd cc
        by_def (definitions.TraitId x) h k = absurd cc
        by_def (definitions.TypeAliasId x) h k = absurd cc
        by_def (definitions.BuiltinType x) h k = absurd cc
        by_def (definitions.MacroId x) h k = absurd cc

    imports_bring : (rule : ImportRule) → MayImport finished (import_state s) rule → AllFine (BringsWhatIsThere finished) s
        (list_map changes_imports (import_acts finished (import_state s) rule))
    imports_bring (takes_import i r t) may =
        let there = none_at (test_import (is_missing (overlay finished here))) s.core.reached f.crates i r may.import in
        let low : r.home < count = import_at count s.core.reached i r inside.imports may.import in
        let c : ImportChange = pushes r.home (name_of r) (offered_by finished s.core.local here r) (Some r.source) in
        let pushed_there = push_there r.home (name_of r) (offered_by finished s.core.local here r) (Some r.source) (offered_there r low there) in
        let then : NamesWhatIsThere finished (once_pushed r) = names-act finished s (changes_imports c) f (pushed_there, tt) in
        let grown : Extends maps_here (overlay finished (once_pushed r).core.map) =
        subst (λ (x : Map). Extends maps_here (overlay finished x)) (sym (map_after (import_state s) c))
        (Extends-edited finished here (edit_of (import_state s) c)) in
        let seen = seen_still maps_here (overlay finished (once_pushed r).core.map) grown (visibility_of finished s.core.local here r)
        (seen_at r.home low r.visibility) in (
          (pushed_there, tt),
          (
            (
              keep_there (overlay finished (once_pushed r).core.map) (import_state (once_pushed r)) then.names r.home (kept_trait finished s.core.local here r)
                  (visibility_of finished s.core.local here r) (leaf_of r.source) seen,
              tt,
            ),
            ((tt, tt), tt),
          ),
        )
    imports_bring (takes_glob i r t by target edges) may =
        let low : r.home < count = import_at count s.core.reached i r inside.imports may.import in
        let edge : Edge = edge_to finished s.core.local here r by target in
        let from = target_there (path_answer finished s.core.local here r).resolved_def.types (reached_there r low).types target may.reaches in
        let clear : on_edge (is_missing maps_here) edge ≡ false =
        neither (test_of (is_missing maps_here) (target_reference target)) (test_visibility (is_missing maps_here) edge.vis) from
        (seen_at r.home low r.visibility) in (
          (tt, tt),
          (
            (
              tt,
              recorded_fail (is_missing maps_here) (view_of names_here) s.core.globs.edges edges edge (greater (is_missing maps_here) finished here)
                  f.edges clear may.recorded,
            ),
            tt,
          ),
        )
    imports_bring (goes_along rule) may = globs_bring rule may

    -- the next item is of a module of the map
    low_next : (v : Visit) (rest : List Task) → s.agenda ≡ visits v ∷ rest → v.site.home < count
    low_next v rest e = next_home s inside v rest e

    public_macro : (maps : Maps) (makro : MacroId) → AreThere maps (macros_only makro visibilities.Public None)
    public_macro maps makro = macro_there maps makro visibilities.Public refl

    brings_what_is_there : (r : Rule) → May finished s r → AllFine (BringsWhatIsThere finished) (asking s r) (acts finished s r)
    brings_what_is_there (declares_item v d rest) may =
        (tt, (tt, ((item_there v d (low_next (behind v may.here.done) rest may.here.next) may.declares, tt), tt)))
    brings_what_is_there (declares_enum site head name found rest) may = (
      tt,
      (
        own_variants (enum_id here site head.id) found,
        (tt, ((enumeration_there site head (variants_of (enum_id here site head.id) found) (low_next _ rest may.next), tt), tt)),
      ),
    )
    brings_what_is_there (opens_module site head name items rest) may =
        let low : site.home < count = next_home s inside _ rest may.next
        in ((low, own_seen_at site head low), (tt, (tt, (tt, ((module_made_there site head name (inline_origin site.tree head.id) low, tt), tt)))))
    brings_what_is_there (opens_file site head name search file rest) may =
        let low : site.home < count = next_home s inside _ rest may.looks.here.next in (
          (low, own_seen_at site head low),
          (
            tt,
            (
              tt,
              (tt, ((module_made_there site head name (file_origin site.tree head.id here.crate_data.edition file) low, tt), tt)),
            ),
          ),
        )
    brings_what_is_there (misses_file site head name search report rest) may =
        let low : site.home < count = next_home s inside _ rest may.looks.here.next
        in ((low, own_seen_at site head low), (tt, (tt, (tt, ((module_made_there site head name (inline_origin site.tree head.id) low, tt), (tt, tt))))))
    brings_what_is_there (reaches_imports site head tree rest) may =
        (tt, (uses_name_none (is_missing (overlay finished here)) site.home (use_id here site head.id) head.visibility (imports_of tree), (tt, tt)))
    brings_what_is_there (reaches_crate site head name alias rest) may =
        let r : ImportDirective = crate_import here s.core.dependencies site head name alias in
        let there : test_import (is_missing (overlay finished here)) r ≡ false = crate_there name in
        let macros : List (List ℕ × MacroId) = macros_brought finished here s.core.dependencies head name in
        let by : Option ExternCrateId = Some (extern_crate_id here site head.id) in
        let stays : test_import (is_missing (overlay finished (with_macros_used here macros by))) r ≡ false =
        still_there (overlay finished here) (overlay finished (with_macros_used here macros by)) (Extends-used finished here macros by)
        (root_named (crate_of r.source)) there in
        (tt, (there, (tt, (neither (test_import (is_missing (overlay finished (with_macros_used here macros by))) r) false stays refl, (tt, tt)))))
    brings_what_is_there (defines_rules site head name expander helpers rest) may = (
      tt,
      (
        tt,
        (
          tt,
          (
            tt,
            fine_macro (BringsWhatIsThere finished) _ _ expander (λ t. tt) head name (macro_rules_id here site head.id expander)
                (λ t. (public_macro _ _, tt)) _,
          ),
        ),
      ),
    )
    brings_what_is_there (defines_macro site head name expander helpers rest) may =
        let node : AstId = node_of site.tree nodes.MacroDef head.id in
        let there = macro_made_there site head node (macro_def_id here site head.id expander) (macro_data_of name helpers) (low_next _ rest may.next) in
        (tt, (tt, (tt, (tt, ((there, tt), fine_reporting (BringsWhatIsThere finished) _ _ expander (λ t. tt) _)))))
    brings_what_is_there (lists_derives v at a adt paths call rest) may = (tt, (tt, (tt, tt)))
    brings_what_is_there (exports_macro site head name d e rest) may =
        let there = exporting_there (visit site (leaf head (function name))) d (function_id here site head.id) (proc_macro_id here site head.id e.style) e.what
        (low_next _ rest may.here.next) may.declares in
        (tt, (tt, (tt, (tt, ((there, tt), (tt, ((public_macro _ _, tt), tt)))))))
    brings_what_is_there (meets_macro i d makro x) may = (tt, tt)
    brings_what_is_there rests may = (tt, tt)
    brings_what_is_there (expands_call i d makro x) may =
        (tt, (tt, (tt, fine_expanding (BringsWhatIsThere finished) _ (λ t helper. tt) _ (module_id here d.site.home) d (error_of x.there) (λ t text. tt) _)))
    brings_what_is_there (drops_call i d) may = (tt, tt)
    brings_what_is_there (drops_reached i d makro) may = (tt, fine_bringing (BringsWhatIsThere finished) _ (λ t helper. tt) _ _)
    brings_what_is_there (derives_builtin i d makro imp) may = (tt, (tt, (tt, fine_bringing (BringsWhatIsThere finished) _ (λ t helper. tt) _ _)))
    brings_what_is_there (falls_back i d k item) may = (tt, (tt, (tt, tt)))
    brings_what_is_there (resolves_imports rule) may = imports_bring rule may
    brings_what_is_there other may = (tt, (tt, tt))

  names-Step : (env : Environment) (old new : State) → IsInRange old → NamesWhatIsThere finished old → Step env finished old new → NamesWhatIsThere finished new
  names-Step env old new inside f step =
      let first : NamesWhatIsThere finished (asking old step.rule) = record {
        apart = f.apart;
        names = f.names;
        begins = f.begins;
        crates = f.crates;
        dependencies = f.dependencies;
        edges = f.edges;
      } in
      let done = perform_keeps (NamesWhatIsThere finished) (BringsWhatIsThere finished) (names-act finished) (acts finished old step.rule)
      (asking old step.rule) first (brings_what_is_there old inside f step.rule step.may) in
      subst (NamesWhatIsThere finished) (sym step.is) (record {
        apart = done.apart;
        names = done.names;
        begins = done.begins;
        crates = done.crates;
        dependencies = done.dependencies;
        edges = done.edges;
      })

  -- steps lead from a state that names only what is there to such states
  pub steps_keep : (env : Environment) (from to : State) → IsInRange from → NamesWhatIsThere finished from → Steps env finished from to
      → NamesWhatIsThere finished to
  steps_keep env from to inside f none = f
  steps_keep env from to inside f (more old new before last) =
      names-Step env old new (in_range-Steps before inside) (steps_keep env from old inside f before) last

-- ---- where a run begins

-- what holds a block is there
held_named : (maps : Maps) (id : MapId) (o : Option ModuleId) → is_holder_for maps id o ≡ true → test_of (is_missing maps) (option_map named.Module o) ≡ false
held_named maps id None e = refl
held_named maps id (Some h) e = ap not (second_so (same_crate h.map.krate id.krate) (is_some (module_in maps h)) e)

-- so is the map of its crate among more maps
own_crate_more : (one other : Maps) → Extends one other → (id : MapId) → any_own_crate (is_missing one) id ≡ false → any_own_crate (is_missing other) id ≡ false
own_crate_more one other grown id e = go (is_some id.block) e
  where
    go : (b : Bool) → (b && test_crate (is_missing one) id.krate) ≡ false → (b && test_crate (is_missing other) id.krate) ≡ false
    go true f = none_missing one other grown (named.Map (crate_map id.krate)) f
    go false f = refl

-- a root module refers to what holds the block
root_refers : (test : Reference → Bool) (start : Start) → test_of test (option_map named.Module (holder_of start)) ≡ false
    → list_any (any_reference_in test) (new_module (origin_of start) (root_visibility start) None ∷ []) ≡ false
root_refers test (starts.Crate krate root) e = refl
root_refers test (starts.Block krate block holder at) e = ap (λ (b : Bool). (b || false) || false) e

-- the root module alone
module _ (finished : Maps) (crate_data : CrateData) (start : Start) where
  abbrev root : Map
  root = root_map crate_data start

  root_names : finished root.id ≡ None → list_any (test_crate (is_missing finished)) crate_data.dependencies ≡ false
      → any_own_crate (is_missing finished) (id_of start) ≡ false → is_holder_for finished (id_of start) (holder_of start) ≡ true
      → HasNoDanglingReference (overlay finished root) root
  root_names apart below own held = record {
    own_crate = own_crate_more finished (overlay finished root) grown root.id own;
    held = there;
    outside = held_outside finished root.id root.holder apart held;
    root = omega arith;
    in_order = λ at m e. first at m e;
    variants = refl;
    modules = root_refers (is_missing (overlay finished root)) start (held_named (overlay finished root) root.id root.holder there);
    prelude = refl;
    dependencies = none_of_less (test_crate (is_missing finished)) (test_crate (is_missing (overlay finished root)))
        (λ c f. none_missing finished (overlay finished root) grown (named.Map (crate_map c)) f) crate_data.dependencies below;
  }
    where
      grown : Extends finished (overlay finished root)
      grown = Extends-overlay finished root apart

      there : is_holder_for (overlay finished root) root.id root.holder ≡ true
      there = held_there finished (overlay finished root) grown root.id root.holder held

      first : (at : ℕ) (m : ModuleValue) → slice_get root.modules at ≡ Some m → IsBefore root.id at m.parent
      first zero m e =
          let same : new_module (origin_of start) (root_visibility start) None ≡ m = cc in subst (λ (x : ModuleValue). IsBefore root.id 0 x.parent) same tt
      first (suc at) m e = absurd cc

  -- dependencies whose maps are there
  begins_there : (whole : AreWellFormed finished) → (local : Local) → HasNoDanglingExtern finished local → (ds : List Dependency)
      → list_any (λ (d : Dependency). test_crate (is_missing finished) d.krate) ds ≡ false → HasNoDanglingExtern finished (extern_prelude crate_data local ds)
  begins_there whole local f [] g = f
  begins_there whole local f (d ∷ ds) g =
      begins_there whole (with_dependency crate_data local d) (joined (joins crate_data local d)) ds (not_second (test_crate (is_missing finished) d.krate) _ g)
    where
      root_missing : is_missing finished (named.Module (crate_root d.krate)) ≡ false
      root_missing = root_stands finished whole d.krate (not_first (test_crate (is_missing finished) d.krate) _ g)

      joined : (b : Bool) → HasNoDanglingExtern finished (cond b (with_extern local d.name (crate_root d.krate, None)) local)
      joined true =
          none_inserted_last (λ (x : ModuleId × Option ExternCrateId). is_missing finished (named.Module x.0)) (pointwise nat_eq) local d.name
          (crate_root d.krate, None) f root_missing
      joined false = f

module _ (paths : PathsLeadToWhatIsThere) (finished : Maps) (whole : AreWellFormed finished) where
  module _ (map : Map) (local : Local) (apart : finished map.id ≡ None) (names : HasNoDanglingReference (overlay finished map) map) (begins : HasNoDanglingExtern (overlay finished map) local) where
    abbrev answer : Resolution
    answer = resolution_of (overlay finished map) (by_prelude local) (root_of map.id) (prelude_path map.crate_data.edition local)

    reached : AreThere (overlay finished map) answer.resolved_def
    reached = paths (overlay finished map) (by_prelude local) (root_of map.id) (prelude_path map.crate_data.edition local)
        (IsClosed-overlay finished map apart whole names) (LocalIsThere-begins (overlay finished map) local begins) (module_there finished map 0 names.root)

    by_def : (by : Option ImportOrExternCrate) (d : ModuleDefId) → IsThere (overlay finished map) d → test_of (is_missing (overlay finished map))
        (prelude_reference (module_by by d)) ≡ false
    by_def by (definitions.ModuleId m) g = g
    by_def by other g = refl

    by_type : (t : Option (Item ModuleDefId ImportOrExternCrate)) → FailsAtItem (is_missing (overlay finished map)) t
        → test_of (is_missing (overlay finished map)) (prelude_reference (module_of t)) ≡ false
    by_type None g = refl
    by_type (Some i) g =
        by_def i.import i.def (not_first (test_of (is_missing (overlay finished map)) (reference_to i.def))
        (test_visibility (is_missing (overlay finished map)) i.vis) g)

    by_core : (b : Bool) → test_of (is_missing (overlay finished map)) (prelude_reference (cond b None (module_of answer.resolved_def.types))) ≡ false
    by_core true = refl
    by_core false = by_type answer.resolved_def.types reached.types

    prelude_there : test_of (is_missing (overlay finished map)) (prelude_reference (prelude_of finished map local)) ≡ false
    unfolding module_named
    prelude_there = by_core map.crate_data.no_core

  -- so is a prelude of its own, and none is needed
  own_prelude_there : (map : Map) (local : Local) → finished map.id ≡ None → HasNoDanglingReference (overlay finished map) map
      → HasNoDanglingExtern (overlay finished map) local → (start : Start)
      → test_of (is_missing (overlay finished map)) (prelude_reference (own_prelude finished map local start)) ≡ false
  own_prelude_there map local apart names begins (starts.Crate krate _) = prelude_there map local apart names begins
  own_prelude_there map local apart names begins (starts.Block krate block holder at) = refl

  -- and so are the crates that paths of a finished map may begin with
  beside_there : (id : MapId) (o : Option Placed) → finished id ≡ o → HasNoDanglingExtern finished (local_of (option_map (λ (p : Placed). p.local) o))
  beside_there id None e = refl
  beside_there id (Some placed) e = (whole id placed e).begins

  local_there : (crate_data : CrateData) (ds : List Dependency) → list_any (λ (d : Dependency). test_crate (is_missing finished) d.krate) ds ≡ false
      → (start : Start)
      → HasNoDanglingExtern finished (start_local finished crate_data ds start)
  local_there crate_data ds f (starts.Crate krate root) = begins_there finished crate_data (starts.Crate krate root) whole [] refl ds f
  local_there crate_data ds f (starts.Block krate block holder at) = beside_there (crate_map krate) (finished (crate_map krate)) refl

  -- a run begins with what is there
  pub begins : (tables : TablesValue) (w : Workspace) (holders : List ModuleId) (from : Beginning) → StandsOnWhole w finished from.start
      → NamesWhatIsThere finished (start_of tables w finished holders from)
  begins tables w holders from stands =
      let start : Start = from.start in
      let krate : Crate = krate_of start in
      let behind : List Crate = transitive_dependencies_in w krate in
      let crate_data : CrateData = start_data finished (root_tree tables w from) behind start in
      let one : Map = root_map crate_data start in
      let local : Local = start_local finished crate_data (dependencies_in w krate) start in
      let below : list_any (test_crate (is_missing finished)) crate_data.dependencies ≡ false =
      subst (λ (crates : List Crate). list_any (test_crate (is_missing finished)) crates ≡ false)
      (sym (start_dependencies finished (root_tree tables w from) behind start)) stands.behind in
      let names : HasNoDanglingReference (overlay finished one) one = root_names finished crate_data start stands.apart below stands.own_crate stands.held in
      let one_there : HasNoDanglingExtern (overlay finished one) local =
      HasNoDanglingExtern-more finished (overlay finished one) (Extends-overlay finished one stands.apart) local
      (local_there crate_data (dependencies_in w krate) stands.direct start) in
      let prelude = own_prelude finished one local start in
      let two : Map = with_prelude one prelude in
      let macros : List (List ℕ × MacroId) = macros_beside finished one.id.krate prelude in
      let two_there : HasNoDanglingExtern (overlay finished two) local =
      HasNoDanglingExtern-more (overlay finished one) (overlay finished two) (Extends-grown finished one two refl (λ k e. e) (λ e t. t)) local one_there in
      record {
        apart = stands.apart;
        names =
            NamesOnly-used finished two macros None (HasNoDanglingReference-prelude finished one prelude
            (own_prelude_there one local stands.apart names one_there start) names);
        begins =
            HasNoDanglingExtern-more (overlay finished two) (overlay finished (with_macros_used two macros None)) (Extends-used finished two macros None) local
            two_there;
        crates = refl;
        dependencies = stands.direct;
        edges = refl;
      }

  -- it ends with a map that is complete beside what it read
  pub ends_whole : (tables : TablesValue) (w : Workspace) (all : Maps) (from : Beginning) (answer : CollectedValue)
      → read_by w all from.start ≡ finished → StandsOnWhole w finished from.start → Ends tables w all from answer
      → HasNoDanglingReference (overlay finished answer.map) answer.map × HasNoDanglingExtern (overlay finished answer.map) answer.local
  ends_whole tables w all from answer same stands e =
      let env : Environment = environment tables w in
      let first : NamesWhatIsThere finished (begin_of tables w all from) = subst
      (λ (x : Maps). NamesWhatIsThere finished (start_of tables w x (holders_by all from.start) from)) (sym same)
      (begins tables w (holders_by all from.start) from stands) in
      let derived : Steps env finished (begin_of tables w all from) e.last = subst (λ (x : Maps). Steps env x (begin_of tables w all from) e.last) same
      e.derived in
      let end : NamesWhatIsThere finished e.last = steps_keep paths finished whole env (begin_of tables w all from) e.last
      (in_range-start tables w (read_by w all from.start) (holders_by all from.start) from) first derived in
      let m : Map = ended e.last.core in
      let reports : List DefDiagnostic = m.diagnostics ++ leftover_reports (read_by w all from.start) e.last.core in
      let reported : Map = record m { diagnostics = reports } in
      let begins_ended : HasNoDanglingExtern (overlay finished m) e.last.core.local =
      HasNoDanglingExtern-more (overlay finished e.last.core.map) (overlay finished m) (Extends-ended finished e.last.core) e.last.core.local end.begins in
      let begins_there : HasNoDanglingExtern (overlay finished reported) e.last.core.local =
      HasNoDanglingExtern-more (overlay finished m) (overlay finished reported) (Extends-reported finished m reports) e.last.core.local begins_ended in (
        subst (λ (x : Map). HasNoDanglingReference (overlay finished x) x) (sym e.map_is)
            (NamesOnly-reported finished m reports (HasNoDanglingReference-ended finished e.last.core end.names)),
        subst (λ (l : Local). HasNoDanglingExtern (overlay finished answer.map) l) (sym e.local_is)
            (subst (λ (x : Map). HasNoDanglingExtern (overlay finished x) e.last.core.local) (sym e.map_is) begins_there),
      )
