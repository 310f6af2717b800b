-- A run binds only what its root file writes, and what the finished maps bind.
use Rattle.std.specs.Prelude.{◌≡◌, ◌==◌, ◌&&◌, ◌||◌, ℕ, ◌<◌, List, [], ◌∷◌, ◌++◌, length, Bool, true, false, is_some, Option, None, Some, cond, not, is_none}
use Rattle.std.specs.Prelude.{map as list_map, slice_get, unwrap_or, if◌then◌else◌}
use Rattle.std.specs.List.{list_any}
use Rattle.std.specs.Cmp.Lexicographic.{pointwise}
use Rattle.std.specs.Prelude.{nat_eq}
use Rattle.std.proofs.Common.{◌+◌, Contains, suc, refl, subst, sym, arith}
use Rattle.std.proofs.lemmas.List.Elements.{Contains-append_left, Contains-append_right}
use mathlib.Core.Bool.{true≢false}
use Rattle.hir_collector_rules.specs.HirBase.ModPath.{Path}
use Rattle.hir_collector_rules.specs.HirIds.declared.ids.AdtId.{AdtId}
use Rattle.hir_collector_rules.specs.HirIds.declared.ast_id.AstId.{AstId}
use Rattle.hir_collector_rules.specs.HirIds.declared.ast_id.AttrId.{AttrId}
use Rattle.hir_collector_rules.specs.HirIds.declared.ids.Crate.{Crate}
use Rattle.hir_collector_rules.specs.HirIds.declared.ids.EnumId.{EnumId}
use Rattle.hir_collector_rules.specs.HirIds.declared.ids.FunctionId.{FunctionId}
use Rattle.hir_collector_rules.specs.HirIds.declared.macro_kind.MacroId.{MacroId}
use Rattle.hir_collector_rules.specs.HirIds.declared.ids.ModuleDefId.{ModuleDefId}
use Rattle.hir_collector_rules.specs.HirIds.declared.ids.ModuleId.{ModuleId}
use Rattle.hir_collector_rules.specs.HirIds.declared.macro_kind.ProcMacroId.{ProcMacroId}
use Rattle.hir_collector_rules.specs.HirIds.declared.ids.TraitId.{TraitId}
use Rattle.hir_collector_rules.specs.HirIds.declared.ast_id.HirFileId.TheVariants.{Macro}
use Rattle.hir_collector_rules.specs.HirIds.declared.ids.AdtId.TheVariants as adts
use Rattle.hir_collector_rules.specs.HirIds.declared.ids.ModuleDefId.TheVariants as definitions
use Rattle.hir_collector_rules.specs.HirIds.declared.macro_kind.MacroId.TheVariants as macros
use Rattle.hir_collector_rules.specs.HirItemTree.Imports.{imports_of}
use Rattle.hir_collector_rules.specs.HirItemTree.KeptForest.{Head, Leaf, KeptItem, KeptForest, leaf, holder, import}
use Rattle.hir_collector_rules.specs.HirItemTree.KeptForest.{extern_crate, function, structure, union_structure}
use Rattle.hir_collector_rules.specs.HirItemTree.KeptForest.{enumeration, constant, static_item, trait_item, implementation}
use Rattle.hir_collector_rules.specs.HirItemTree.KeptForest.{type_alias, outline_module, macro_call, macro_rules}
use Rattle.hir_collector_rules.specs.HirItemTree.KeptForest.{macro_def}
use Rattle.hir_collector_rules.specs.HirRawVisibility.declared.raw_visibility.RawVisibility.{RawVisibility}
use Rattle.hir_collector_rules.specs.HirBase.declared.tree_id.TreeId.{TreeId}
use Rattle.hir_collector_rules.specs.HirBase.declared.tree_id.TreeKey.{TreeKey}
use Rattle.hir_collector_rules.specs.HirRawVisibility.declared.raw_visibility.RawVisibility.TheVariants as raws
use Rattle.hir_collector_rules.specs.HirUseTree.declared.imports.ImportKind.TheVariants as import_kinds
use Rattle.hir_collector_rules.specs.HirModDir.Directory.{Directory}
use Rattle.hir_collector_rules.specs.HirModDir.ModuleFiles.{inline_directory}
use Rattle.hir_collector_rules.specs.HirMapParts.declared.diagnostics.DefDiagnostic.{DefDiagnostic}
use Rattle.hir_collector_rules.specs.HirMapParts.declared.derive_helpers.DeriveHelper.{DeriveHelper}
use Rattle.hir_collector_rules.specs.HirMapParts.declared.origin.ModuleOrigin.{ModuleOrigin}
use Rattle.hir_collector_rules.specs.HirPerNs.ModuleTree.{same_map}
use Rattle.hir_collector_rules.specs.HirTextualScope.Macros.{with_macro}
use Rattle.hir_collector_rules.specs.HirPerNs.PerNs.{macros_only, Item}
use Rattle.hir_collector_rules.specs.HirPerNs.declared.imports.GlobId.{GlobId}
use Rattle.hir_collector_rules.specs.HirPerNs.declared.imports.ImportId.{ImportId}
use Rattle.hir_collector_rules.specs.HirPerNs.declared.imports.ImportOrExternCrate.{ImportOrExternCrate}
use Rattle.hir_collector_rules.specs.HirPerNs.declared.per_ns.PerNs.{PerNs}
use Rattle.hir_collector_rules.specs.HirPerNs.declared.visibility.Visibility.{Visibility}
use Rattle.hir_collector_rules.specs.HirPerNs.declared.imports.ImportOrExternCrate.TheVariants as ways
use Rattle.hir_collector_rules.specs.HirPerNs.declared.visibility.Visibility.TheVariants as visibilities
use Rattle.hir_collector_rules.specs.HirDefMapRules.Macros.{with_derive_helper, with_exported, with_macro_data, with_macro_def}
use Rattle.hir_collector_rules.specs.HirDefMapRules.References.{is_missing, reference_to, test_of, test_visibility, FailsAtItem}
use Rattle.hir_collector_rules.specs.HirDefMapRules.Closed.{AreThere, IsClosed, IsThere, PathsLeadToWhatIsThere}
use Rattle.hir_collector_rules.specs.HirDefMapRules.WellFormed.{AreWellFormed}
use Rattle.hir_collector_rules.proofs.HirDefMapRules.NoneOf.{neither, none_at, none_inserted_last, not_first, not_second}
use Rattle.hir_collector_rules.specs.HirDefMapRules.Reaches.{by_import}
use Rattle.hir_collector_rules.specs.HirDefMapRules.Scoping.{Resolution, resolution_of}
use Rattle.hir_collector_rules.specs.HirDefMapRules.Sources.{HoldsNowhere, HoldsNowhereIn, HoldsOfNone, HoldsOfNoExtern}
use Rattle.hir_collector_rules.specs.HirDefMapRules.Sources.{PathsAnswerFromSources, SourceTest, on_def, on_extern}
use Rattle.hir_collector_rules.specs.HirDefMapRules.Sources.{on_extern_entry, on_import, on_macro, on_origin, on_some, on_values, on_variant, on_visibility}
use Rattle.hir_collector_rules.specs.HirDefMapRules.State.{CrateData, Local, MacroDataValue, Map, crate_root, new_id, root_of, with_extern, with_prelude}
use Rattle.hir_collector_rules.specs.HirDefMapRules.Overlay.{Maps, entry_in, overlay, module_in}
use Rattle.hir_collector_rules.proofs.HirDefMapRules.StaysWellFormed.{IsClosed-overlay, LocalIsThere-begins, module_there}
use Rattle.hir_collector_rules.proofs.HirDefMapRules.StaysSourced.{HoldsNowhere-overlay, HoldsNowhereIn-enum, HoldsNowhereIn-listed}
use Rattle.hir_collector_rules.proofs.HirDefMapRules.StaysSourced.{HoldsNowhereIn-made, HoldsNowhereIn-prelude}
use Rattle.hir_collector_rules.specs.HirDefMapRules.Visibilities.{by_visibility, module_seen, path_seen, type_seen}
use Rattle.hir_collector_rules.specs.declared.declaration.Declaration.{Declaration}
use Rattle.hir_collector_rules.specs.declared.source_database.Dependency.{Dependency}
use Rattle.hir_collector_rules.specs.declared.source_database.Key.{Key}
use Rattle.hir_collector_rules.specs.declared.macro_directive.MacroDirective.{MacroDirective}
use Rattle.hir_collector_rules.specs.declared.site.Site.{Site}
use Rattle.hir_collector_rules.specs.declared.start.Start.{Start}
use Rattle.hir_collector_rules.specs.declared.start.Start.TheVariants as starts
use Rattle.hir_collector_rules.specs.HirGlobImports.Moves.{brought_vis, shown as shown_along}
use Rattle.hir_collector_rules.specs.HirGlobImports.Rules.{Rule as GlobRule, May as MayAlong, acts as glob_acts, brings}
use Rattle.hir_collector_rules.specs.HirGlobImports.Rules.{copies, copies_along, follows, follows_along, raises}
use Rattle.hir_collector_rules.specs.HirGlobImports.Rules.{raises_along}
use Rattle.hir_collector_rules.specs.HirGlobImports.View.{View}
use Rattle.hir_collector_rules.specs.HirGlobImports.declared.edge.Bound.{Bound}
use Rattle.hir_collector_rules.specs.HirGlobImports.declared.edge.Edge.{Edge}
use Rattle.hir_collector_rules.specs.HirGlobImports.declared.edge.Slot.{Slot}
use Rattle.hir_collector_rules.specs.HirGlobImports.declared.edge.Target.{Target}
use Rattle.hir_collector_rules.specs.HirGlobImports.declared.edge.Key.{Key as GlobKey}
use Rattle.hir_collector_rules.specs.HirGlobImports.declared.edge.Key.TheVariants.{Types, Values, Macros, Unnamed}
use Rattle.hir_collector_rules.specs.HirGlobImports.declared.edge.Target.TheVariants as targets
use Rattle.hir_collector_rules.specs.HirUseTree.UseTree.{count_of}
use Rattle.hir_collector_rules.specs.HirImportRules.Changes.{Change as ImportChange, act as act_on_imports, along, keeps_trait, pushes, pushing, records, takes}
use Rattle.hir_collector_rules.specs.HirImportRules.Names.{ScopesValue, bound_of, entries_of, is_foreign, scope_table, traits_of, view_of}
use Rattle.hir_collector_rules.specs.HirImportRules.Rules.{Rule as ImportRule, May as MayImport, acts as import_acts, goes_along, takes_glob, takes_import}
use Rattle.hir_collector_rules.specs.HirImportRules.State.{ImportState, glob_state, scopes_of}
use Rattle.hir_collector_rules.specs.HirImportRules.declared.directive.ImportDirective.{ImportDirective}
use Rattle.hir_collector_rules.specs.HirImportRules.declared.directive.ImportSource.{ImportSource}
use Rattle.hir_collector_rules.specs.HirImportRules.declared.directive.ImportSource.TheVariants as sources
use Rattle.hir_collector_rules.specs.Derivation.{CollectedValue, Ends, leftover_reports}
use Rattle.hir_collector_rules.specs.HirImportRules.Directives.{answer_in, answer_to, edge_to, glob_of, is_one_name}
use Rattle.hir_collector_rules.specs.HirImportRules.Directives.{kept_by_kind, kept_trait, kind_of, leaf_of, name_of}
use Rattle.hir_collector_rules.specs.HirImportRules.Directives.{offered_by, open_items, visibility_of, way_of}
use Rattle.hir_collector_rules.specs.Imports.{extern_by}
use Rattle.hir_collector_rules.specs.HirImportRules.Visibilities.{visibility_in}
use Rattle.hir_collector_rules.specs.ItemIds.{enum_id, macro_def_id, macro_rules_id, module_id}
use Rattle.hir_collector_rules.specs.Items.{constructor_of, declaration_of, declared_by, declared_by_leaf, declared_type, file_origin, inline_origin}
use Rattle.hir_collector_rules.specs.Items.{own_visibility}
use Rattle.hir_collector_rules.specs.Preludes.{extern_prelude, joins, with_dependency}
use Rattle.hir_collector_rules.specs.Macros.{is_macro_use, macros_beside, textual_at}
use Rattle.hir_collector_rules.specs.Attributes.{attr_id, item_node, proc_macro_id}
use Rattle.hir_collector_rules.specs.Ended.{ended}
use Rattle.hir_collector_rules.specs.Calls.{Expanding, call_key, call_site, error_of, expansion_readings, text_readings}
use Rattle.hir_def_collector_laws.specs.Sources.{BeginsClear, IsClearOf}
use Rattle.hir_collector_rules.specs.Start.{Beginning, begin_of, holders_by, is_declared, krate_of, origin_of, own_prelude, read_by, root_key, root_map}
use Rattle.hir_collector_rules.specs.Start.{root_site, root_tree, start_data, start_local, start_of, tree_key}
use Rattle.hir_collector_rules.specs.State.{State, Task, Visit, visits, import_state, visits_over, behind}
use Rattle.hir_collector_rules.specs.Changes.{Change, lists, makes, gives_variants, begins_paths, reaches, awaits, ends, settles, meets_eager}
use Rattle.hir_collector_rules.specs.Changes.{changes_imports, adds_textual}
use Rattle.hir_collector_rules.specs.Changes.{takes_textual, defines, describes, helps, lists_derive, notes, exports, uses_macros, tells, goes_on, act, on_map}
use Rattle.hir_collector_rules.specs.Steps.{Rule, drops_item, awaits_attribute, lists_derives, faults_derive, exports_macro, reaches_call, rests}
use Rattle.hir_collector_rules.specs.Steps.{expands_call, meets_macro}
use Rattle.hir_collector_rules.specs.Steps.{drops_call, drops_reached, derives_builtin, skips_attribute, falls_back, defines_rules, defines_macro}
use Rattle.hir_collector_rules.specs.Steps.{closes_module, visits_in_file, declares_item, declares_enum, lists_constant, lists_impl, opens_module, opens_file}
use Rattle.hir_collector_rules.specs.Steps.{drops_file, misses_file, enters_block, reaches_imports, reaches_crate, resolves_imports, May, behind, derives_from}
use Rattle.hir_collector_rules.specs.Steps.{visit, acts, asking, keys_read, making, path_of, reads, visits_inside, Step, Steps, none, more, inside_block}
use Rattle.hir_collector_rules.specs.Steps.{inside_file, inside_module}
use Rattle.hir_def_collector_laws.specs.Whole.{StandsOnWhole}
use Rattle.hir_collector_rules.specs.Workspace.{Workspace, dependencies_in, transitive_dependencies_in}
use Rattle.hir_collector_rules.specs.HirTables.Tables.{TablesValue}
use Rattle.hir_collector_rules.specs.Keys.{Environment, environment, keys_behind}
use Rattle.hir_collector_rules.specs.ModuleFiles.{file_key}
use Rattle.hir_collector_rules.specs.declared.source_database.Key.TheVariants as keys
use Rattle.hir_collector_rules.proofs.Asks.{still_asked, still_asked-Step}
use Rattle.hir_collector_rules.proofs.Grows.{Grows, Grows-Step, Grows-same}
use Rattle.hir_collector_rules.proofs.ModuleFiles.{found_read}
use Rattle.hir_collector_rules.proofs.Lists.{none_joined}
use Rattle.hir_collector_rules.proofs.Changes.{AllFine, asked-Step, fine_bringing, fine_expanding, fine_macro, fine_reporting, id-Step, perform_keeps}
use Rattle.hir_collector_rules.proofs.InRange.{IsInRange, import_at, in_range-Steps, next_home}
use Rattle.hir_collector_rules.proofs.Holds.{in_range-start}
use Rattle.hir_collector_rules.proofs.ImportEdits.{copy_at, copy_where, edit_of, follow_at, follow_where, imports_after, local_after, map_after}
use Rattle.hir_def_collector_laws.proofs.SourcedItems.{site_visits, next_visits, closed_visits, use_imports, bare, type_of, value_of, struct_of, open_of}
use Rattle.hir_def_collector_laws.proofs.SourcedItems.{kept_of_kind, answer_of_source, of_variants, shaped, lesser_or, import_of}
use Rattle.hir_def_collector_laws.proofs.SourcedEdits.{EditIsClear, EditsAreClear, IsBoundClear, IsSeenClear, entry_clear, greater_clear, items_clear}
use Rattle.hir_def_collector_laws.proofs.SourcedEdits.{key_clear, on_edge, own_clear, recorded_clear, shown_stands, sourced-edited, variants_clear}
use Rattle.hir_def_collector_laws.proofs.SourcedMacros.{beside_clear, brought_macros_clear, textual_changed, textual_clear, textual_more, used_clear}
use Rattle.hir_def_collector_laws.proofs.Found.{expansion_read}
use Rattle.hir_def_collector_laws.proofs.Whole.{begins, steps_keep}
use Rattle.hir_def_collector_laws.proofs.WholeChanges.{NamesWhatIsThere}
use Rattle.hir_def_collector_laws.proofs.SourcedEnded.{HoldsNowhereIn-derived, HoldsNowhereIn-ended, HoldsNowhereIn-noted, stays_ended}
use Rattle.hir_def_collector_laws.proofs.SourcedState.{on_call, on_site, on_reached, IsSourced, AreClear, ShowsThere, stays_there}

module _ (t : SourceTest) where
  -- ---- changes

  -- nor of the globs that are recorded
  abbrev EdgesAreClear : ImportChange → Type 0
  EdgesAreClear (records edges) = list_any (on_edge t) edges ≡ false
  EdgesAreClear other = Unit {0}

  -- the test holds of nothing that a change brings
  abbrev BringsNone : State → Change → Type 0
  BringsNone s (makes home name origin visibility) = on_origin t origin ≡ false
  BringsNone s (gives_variants id variants) = on_values (on_variant t) variants ≡ false
  BringsNone s (begins_paths r) = on_reached t r ≡ false
  BringsNone s (reaches rs) = list_any (on_reached t) rs ≡ false
  BringsNone s (awaits calls) = list_any (on_call t) calls ≡ false
  BringsNone s (changes_imports c) = EditsAreClear t (edit_of (import_state s) c) × EdgesAreClear c
  BringsNone s (adds_textual home name makro) = on_macro t makro ≡ false
  BringsNone s (uses_macros macros by) = (on_values (on_macro t) macros ≡ false) × (on_extern t by ≡ false)
  BringsNone s (goes_on vs) = list_any (on_site t) vs ≡ false
  BringsNone s other = Unit {0}

  HoldsNowhereIn-reported : (m : Map) (ds : List DefDiagnostic) → HoldsNowhereIn t m → HoldsNowhereIn t (record m { diagnostics = ds })
  HoldsNowhereIn-reported m ds f =
      record { origins = f.origins; types = f.types; values = f.values; macros = f.macros; legacy = f.legacy; enums = f.enums; macro_use = f.macro_use }

  HoldsNowhereIn-defined : (m : Map) (node : AstId) (makro : MacroId) → HoldsNowhereIn t m → HoldsNowhereIn t (with_macro_def m node makro)
  HoldsNowhereIn-defined m node makro f =
      record { origins = f.origins; types = f.types; values = f.values; macros = f.macros; legacy = f.legacy; enums = f.enums; macro_use = f.macro_use }

  -- nor is anything bound by what is kept of macros, of helpers and of what functions export
  HoldsNowhereIn-described : (m : Map) (makro : MacroId) (what : MacroDataValue) → HoldsNowhereIn t m → HoldsNowhereIn t (with_macro_data m makro what)
  HoldsNowhereIn-described m makro what f =
      record { origins = f.origins; types = f.types; values = f.values; macros = f.macros; legacy = f.legacy; enums = f.enums; macro_use = f.macro_use }

  HoldsNowhereIn-helped : (m : Map) (node : AstId) (helper : DeriveHelper) → HoldsNowhereIn t m → HoldsNowhereIn t (with_derive_helper m node helper)
  HoldsNowhereIn-helped m node helper f =
      record { origins = f.origins; types = f.types; values = f.values; macros = f.macros; legacy = f.legacy; enums = f.enums; macro_use = f.macro_use }

  HoldsNowhereIn-exported : (m : Map) (x : FunctionId) (makro : ProcMacroId) → HoldsNowhereIn t m → HoldsNowhereIn t (with_exported m x makro)
  HoldsNowhereIn-exported m x makro f =
      record { origins = f.origins; types = f.types; values = f.values; macros = f.macros; legacy = f.legacy; enums = f.enums; macro_use = f.macro_use }

  on_new_map : (s : State) (m : Map) → HoldsNowhereIn t m → IsSourced t s → IsSourced t (on_map s m)
  on_new_map s m g f = record { map = g; local = f.local; visits = f.visits; reached = f.reached; calls = f.calls; edges = f.edges }

  extern_of : (local : Local) (source : ImportSource) (name : Option (List ℕ)) → HoldsOfNoExtern t local → on_import t (way_of source) ≡ false
      → HoldsOfNoExtern t (extern_by local source name)
  extern_of local (sources.Use id kind) name f g = f
  extern_of local (sources.ExternCrate id None) name f g = f
  extern_of local (sources.ExternCrate id (Some c)) None f g = f
  extern_of local (sources.ExternCrate id (Some c)) (Some name) f g =
      none_inserted_last (on_extern_entry t) (pointwise nat_eq) local name (crate_root c, Some id) f g

  extern_or : (b : Bool) (local other : Local) → HoldsOfNoExtern t local → HoldsOfNoExtern t other → HoldsOfNoExtern t (cond b local other)
  extern_or true local other f g = f
  extern_or false local other f g = g

  edges_clear : (i : ImportState) (c : ImportChange) → list_any (on_edge t) i.edges ≡ false → EdgesAreClear c → list_any (on_edge t) (act_on_imports i c).edges
      ≡ false
  edges_clear i (pushes home None items source) f fine = f
  edges_clear i (pushes home (Some name) items source) f fine = f
  edges_clear i (keeps_trait maps home None vis by) f fine = f
  edges_clear i (keeps_trait maps home (Some id) vis by) f fine = f
  edges_clear i (takes n taken) f fine = f
  edges_clear i (records edges) f fine = fine
  edges_clear i (along maps (copies slot of vis by)) f fine = f
  edges_clear i (along maps (brings slot by)) f fine = f
  edges_clear i (along maps (follows slot of vis)) f fine = f
  edges_clear i (along maps (raises slot vis)) f fine = f

  -- a glob is written where the `use` is of which it is a leaf
  glob_clear : (source : ImportSource) (by : GlobId) → glob_of source ≡ Some by → on_import t (way_of source) ≡ false → on_import t (ways.Glob by) ≡ false
  glob_clear (sources.Use id import_kinds.Plain) by e f = absurd cc
  glob_clear (sources.Use id import_kinds.TypeOnly) by e f = absurd cc
  glob_clear (sources.Use id import_kinds.Glob) by e f =
      let same : record { use_ = id.use_; idx = id.idx } ≡ by = cc in subst (λ (x : GlobId). on_import t (ways.Glob x) ≡ false) same f
  glob_clear (sources.ExternCrate id krate) by e f = absurd cc

  sourced-act : (s : State) (c : Change) → IsSourced t s → BringsNone s c → IsSourced t (act s c)
  sourced-act s (lists home d) f fine = on_new_map s _ (HoldsNowhereIn-listed t s.core.map home d f.map) f
  sourced-act s (makes home name origin visibility) f fine =
      on_new_map s _ (HoldsNowhereIn-made t s.core.map home name origin visibility (Some (module_id s.core.map home)) fine f.map) f
  sourced-act s (gives_variants id variants) f fine = on_new_map s _ (HoldsNowhereIn-enum t s.core.map id variants fine f.map) f
  sourced-act s (begins_paths r) f fine = record {
    map = f.map;
    local =
        extern_or ((r.home == 0) && is_none s.core.map.id.block) (extern_by s.core.local r.source (name_of r)) s.core.local
        (extern_of s.core.local r.source (name_of r) f.local fine) f.local;
    visits = f.visits;
    reached = f.reached;
    calls = f.calls;
    edges = f.edges;
  }
  sourced-act s (reaches rs) f fine =
      record {
        map = f.map;
        local = f.local;
        visits = f.visits;
        reached = none_joined (on_reached t) s.core.reached rs f.reached fine;
        calls = f.calls;
        edges = f.edges;
      }
  sourced-act s (awaits calls) f fine =
      record {
        map = f.map;
        local = f.local;
        visits = f.visits;
        reached = f.reached;
        calls = none_joined (on_call t) s.core.calls calls f.calls fine;
        edges = f.edges;
      }
  sourced-act s (ends i fate) f fine = record { map = f.map; local = f.local; visits = f.visits; reached = f.reached; calls = f.calls; edges = f.edges }
  sourced-act s (meets_eager i seen) f fine =
      record { map = f.map; local = f.local; visits = f.visits; reached = f.reached; calls = f.calls; edges = f.edges }
  sourced-act s settles f fine = record { map = f.map; local = f.local; visits = f.visits; reached = f.reached; calls = f.calls; edges = f.edges }
  sourced-act s (changes_imports c) f fine =
      let i : ImportState = import_state s in
      record {
        map = subst (HoldsNowhereIn t) (sym (map_after i c)) (sourced-edited t s.core.map (edit_of i c) fine.0 f.map);
        local = subst (HoldsOfNoExtern t) (sym (local_after i c)) f.local;
        visits = f.visits;
        reached = subst (λ (rs : List ImportDirective). list_any (on_reached t) rs ≡ false) (sym (imports_after i c)) f.reached;
        calls = f.calls;
        edges = edges_clear i c f.edges fine.1;
      }
  sourced-act s (adds_textual home name makro) f fine =
      on_new_map s _ (textual_changed t s.core.map home (λ ms. with_macro ms name makro) (λ ms g. textual_more t ms name makro g fine) f.map) f
  sourced-act s (takes_textual home from) f fine =
      on_new_map s _ (textual_changed t s.core.map home (λ _. textual_at s.core.map from) (λ ms g. textual_clear t s.core.map from f.map) f.map) f
  sourced-act s (defines node makro) f fine = on_new_map s _ (HoldsNowhereIn-defined s.core.map node makro f.map) f
  sourced-act s (describes makro what) f fine = on_new_map s _ (HoldsNowhereIn-described s.core.map makro what f.map) f
  sourced-act s (helps node helper) f fine = on_new_map s _ (HoldsNowhereIn-helped s.core.map node helper f.map) f
  sourced-act s (lists_derive home imp) f fine = on_new_map s _ (HoldsNowhereIn-derived t s.core.map home imp f.map) f
  sourced-act s (notes home invocation) f fine = on_new_map s _ (HoldsNowhereIn-noted t s.core.map home invocation f.map) f
  sourced-act s (exports x makro) f fine =
      let noted : IsSourced t (on_map s (with_exported s.core.map x.id makro)) = on_new_map s _ (HoldsNowhereIn-exported s.core.map x.id makro f.map) f in
      record { map = noted.map; local = noted.local; visits = noted.visits; reached = noted.reached; calls = noted.calls; edges = noted.edges }
  sourced-act s (uses_macros macros by) f fine = on_new_map s _ (used_clear t s.core.map macros by fine.0 fine.1 f.map) f
  sourced-act s (tells d) f fine = on_new_map s _ (HoldsNowhereIn-reported s.core.map (s.core.map.diagnostics ++ d ∷ []) f.map) f
  sourced-act s (goes_on vs) f fine = record { map = f.map; local = f.local; visits = fine; reached = f.reached; calls = f.calls; edges = f.edges }

  -- ---- rules

  module _ (answers : PathsAnswerFromSources) (paths : PathsLeadToWhatIsThere) (finished : Maps) (whole : AreWellFormed finished) (nowhere : HoldsNowhere t finished) where
    module _ (s : State) (inside : IsInRange s) (names : NamesWhatIsThere finished s) (shown : ShowsThere t finished s.core.map) (f : IsSourced t s) where
      abbrev maps : Maps
      maps = overlay finished s.core.map

      closed : IsClosed maps
      closed = IsClosed-overlay finished s.core.map names.apart whole names.names

      -- a visibility that is written in a module of the map
      written : (at : ℕ) → at < length s.core.map.modules → (raw : RawVisibility)
          → on_visibility t (visibility_in finished s.core.local s.core.map (module_id s.core.map at) raw) ≡ false
      unfolding visibility_in
      written at low (raws.PubSelf e) = shown (module_id s.core.map at) (module_there finished s.core.map at low)
      written at low raws.PubCrate = refl
      written at low raws.Public = refl
      written at low (raws.Module path e) = by_stop answer.segment_index
        where
          answer : Resolution
          answer = resolution_of maps (by_visibility s.core.local) (module_id s.core.map at) path

          there : AreThere maps answer.resolved_def
          there =
              paths maps (by_visibility s.core.local) (module_id s.core.map at) path closed (LocalIsThere-begins maps s.core.local names.begins)
              (module_there finished s.core.map at low)

          within : (b : Bool) (m : ModuleId) → t.shown m ≡ false → t.shown (cond b m (root_of s.core.map.id)) ≡ false
          within true m g = g
          within false m g = shown (root_of s.core.map.id) (module_there finished s.core.map 0 names.names.root)

          present : (b : Bool) → not b ≡ false → b ≡ true
          present true g = refl
          present false g = absurd (true≢false g)

          by_def : (d : ModuleDefId) → IsThere maps d → on_visibility t (unwrap_or (module_seen false s.core.map.id e d) visibilities.Public) ≡ false
          by_def (definitions.ModuleId m) g = within (same_map m.map s.core.map.id) m (shown m (present (is_some (module_in maps m)) g))
          by_def (definitions.FunctionId x) g = refl
          by_def (definitions.AdtId x) g = refl
          by_def (definitions.EnumVariantId x) g = refl
          by_def (definitions.ConstId x) g = refl
          by_def (definitions.StaticId x) g = refl
          by_def (definitions.TraitId x) g = refl
          by_def (definitions.TypeAliasId x) g = refl
          by_def (definitions.BuiltinType x) g = refl
          by_def (definitions.MacroId x) g = refl

          by_type : (o : Option (Item ModuleDefId ImportOrExternCrate)) → FailsAtItem (is_missing maps) o
              → on_visibility t (unwrap_or (type_seen false s.core.map.id e o) visibilities.Public) ≡ false
          by_type None g = refl
          by_type (Some i) g = by_def i.def (not_first (test_of (is_missing maps) (reference_to i.def)) (test_visibility (is_missing maps) i.vis) g)

          by_stop : (o : Option ℕ) → on_visibility t (unwrap_or (path_seen false s.core.map.id e o answer.resolved_def) visibilities.Public) ≡ false
          by_stop None = by_type answer.resolved_def.types there.types
          by_stop (Some i) = refl

      all_written : (at : ℕ) → at < length s.core.map.modules → (rest : List RawVisibility)
          → list_any (on_visibility t) (list_map (visibility_in finished s.core.local s.core.map (module_id s.core.map at)) rest) ≡ false
      all_written at low [] = refl
      all_written at low (raw ∷ rest) =
          neither (on_visibility t (visibility_in finished s.core.local s.core.map (module_id s.core.map at) raw))
          (list_any (on_visibility t) (list_map (visibility_in finished s.core.local s.core.map (module_id s.core.map at)) rest))
          (written at low raw) (all_written at low rest)

      -- the next item is of a module of the map, in a file of which the test doesn't hold
      low : (v : Visit) (rest : List Task) → s.agenda ≡ visits v ∷ rest → v.site.home < length s.core.map.modules
      low v rest e = next_home s inside v rest e

      file : (v : Visit) (rest : List Task) → s.agenda ≡ visits v ∷ rest → t.holder v.site.tree.file v.site.tree.block ≡ false
      file v rest e = (next_visits t s.agenda v rest f.visits e).0

      left : (v : Visit) (rest : List Task) → s.agenda ≡ visits v ∷ rest → list_any (on_site t) rest ≡ false
      left v rest e = (next_visits t s.agenda v rest f.visits e).1

      declares : (v : Visit) (d : Declaration) → v.site.home < length s.core.map.modules → t.holder v.site.tree.file v.site.tree.block ≡ false
          → declaration_of finished s.core.local s.core.map v ≡ Some d → HoldsOfNone t d.items
      declares v d below own e = go v.item e
        where
          is_d : (a : Declaration) → HoldsOfNone t a.items → Some a ≡ Some d → HoldsOfNone t d.items
          is_d a g h = let same : a ≡ d = cc in subst (λ (x : Declaration). HoldsOfNone t x.items) same g

          vis : (h : Head) → on_visibility t (own_visibility finished s.core.local s.core.map v.site h) ≡ false
          vis h = written v.site.home below h.visibility

          by_leaf : (h : Head) (l : Leaf) → declared_by_leaf finished s.core.local s.core.map v.site h l ≡ Some d → HoldsOfNone t d.items
          by_leaf h (import tree) g = absurd cc
          by_leaf h (extern_crate name alias) g = absurd cc
          by_leaf h (function name) g = is_d _ (value_of t _ (own_visibility finished s.core.local s.core.map v.site h) own (vis h)) g
          by_leaf h (structure name shape fields) g =
              let seen_by = list_map (visibility_in finished s.core.local s.core.map (module_id s.core.map v.site.home)) fields in
              let own_vis : Visibility = own_visibility finished s.core.local s.core.map v.site h in
              is_d _ (struct_of t _ own_vis (constructor_of finished s.core.map own_vis shape seen_by) own own (vis h)
              (shaped t finished s.core.map own_vis shape seen_by (vis h) (all_written v.site.home below fields))) g
          by_leaf h (union_structure name fields) g = is_d _ (type_of t _ (own_visibility finished s.core.local s.core.map v.site h) own (vis h)) g
          by_leaf h (enumeration name) g = absurd cc
          by_leaf h (constant None) g = absurd cc
          by_leaf h (constant (Some name)) g = is_d _ (value_of t _ (own_visibility finished s.core.local s.core.map v.site h) own (vis h)) g
          by_leaf h (static_item name) g = is_d _ (value_of t _ (own_visibility finished s.core.local s.core.map v.site h) own (vis h)) g
          by_leaf h (trait_item name) g = is_d _ (type_of t _ (own_visibility finished s.core.local s.core.map v.site h) own (vis h)) g
          by_leaf h (implementation of_trait) g = absurd cc
          by_leaf h (type_alias name) g = is_d _ (type_of t _ (own_visibility finished s.core.local s.core.map v.site h) own (vis h)) g
          by_leaf h (outline_module name) g = absurd cc
          by_leaf h (macro_call path) g = absurd cc
          by_leaf h (macro_rules name expander helpers) g = absurd cc
          by_leaf h (macro_def name expander helpers) g = absurd cc

          go : (i : KeptItem) → declared_by finished s.core.local s.core.map v.site i ≡ Some d → HoldsOfNone t d.items
          go (leaf h l) g = by_leaf h l g
          go (holder h k items) g = absurd cc

      -- what an import offers
      answers_none : (r : ImportDirective) → HoldsOfNone t (answer_in finished s.core.local s.core.map (module_id s.core.map r.home) r.path).resolved_def
      unfolding answer_in
      answers_none r =
          answers t maps (by_import s.core.local) (module_id s.core.map r.home) r.path (HoldsNowhere-overlay t finished s.core.map nowhere f.map) f.local

      offers : (r : ImportDirective) → r.home < length s.core.map.modules → HoldsOfNone t (offered_by finished s.core.local s.core.map r)
      offers r below =
          let answer : Resolution = answer_to finished s.core.local s.core.map r in
          let own : Visibility = visibility_in finished s.core.local s.core.map (module_id s.core.map r.home) r.visibility in
          let open_ : PerNs = open_items answer.prefix_info.differing_crate answer.resolved_def in
          import_of t finished s.core.map own (is_one_name r.path) (kept_by_kind (kind_of r.source) open_) (written r.home below r.visibility)
          (kept_of_kind t (kind_of r.source) open_
          (open_of t answer.prefix_info.differing_crate answer.resolved_def
          (answer_of_source t r.source (answer_in finished s.core.local s.core.map (module_id s.core.map r.home) r.path) (answers_none r))))

      -- ---- what globs bring

      abbrev names_here : ScopesValue
      names_here = scopes_of finished (import_state s)

      abbrev view_here : View
      view_here = view_of names_here

      entries_clear : (of : Target) (name : List ℕ) → HoldsOfNone t (entries_of names_here of name)
      entries_clear (targets.Own at) name = own_clear t s.core.map f.map at name
      entries_clear (targets.Module m) name = open_of t (is_foreign s.core.map.id m) (entry_in finished m name) (entry_clear t finished nowhere m name)
      entries_clear (targets.Enum id) name = variants_clear t maps (HoldsNowhere-overlay t finished s.core.map nowhere f.map) id name

      bound_clear : (of : Target) (key : GlobKey) (b : Bound) → bound_of names_here of key ≡ Some b → IsBoundClear t key b
      bound_clear of key b e = key_clear t (entries_of names_here of) (traits_of names_here of) (entries_clear of) key b e

      edge_at : (j : ℕ) (e : Edge) → slice_get s.core.globs.edges j ≡ Some e → (on_import t (ways.Glob e.id) ≡ false) × (on_visibility t e.vis ≡ false)
      edge_at j e at =
          let here : on_edge t e ≡ false = none_at (on_edge t) s.core.globs.edges f.edges j e at in
          (not_first (on_import t (ways.Glob e.id)) (on_visibility t e.vis) here, not_second (on_import t (ways.Glob e.id)) (on_visibility t e.vis) here)

      -- what an edge brings
      wider : (a b vis : Visibility) → on_visibility t a ≡ false → on_visibility t b ≡ false → view_here.greater a b ≡ Some vis → on_visibility t vis ≡ false
      wider a b vis g h e = go (view_here.greater a b) e (greater_clear t finished s.core.map a b g h)
        where
          go : (o : Option Visibility) → o ≡ Some vis → on_some (on_visibility t) o ≡ false → on_visibility t vis ≡ false
          go None e k = absurd cc
          go (Some x) e k = let same : x ≡ vis = cc in subst (λ (v : Visibility). on_visibility t v ≡ false) same k

      brought_clear : (j : ℕ) (e : Edge) (key : GlobKey) (b : Bound) → slice_get s.core.globs.edges j ≡ Some e → IsBoundClear t key b
          → IsSeenClear t key (brought_vis view_here e b)
      brought_clear j e (Unnamed id) b at clear = tt
      brought_clear j e other b at clear = lesser_or t finished s.core.map e.vis b.vis (edge_at j e at).1 clear.1

      copied_clear : (slot : Slot) (vis : Visibility) (by : GlobId) (o : Option Bound) → ((b : Bound) → o ≡ Some b → IsBoundClear t slot.key b)
          → IsSeenClear t slot.key vis
          → on_import t (ways.Glob by) ≡ false → EditsAreClear t (copy_where (import_state s) slot vis by o)
      copied_clear slot vis by None clear seen_by own = tt
      copied_clear slot vis by (Some b) clear seen_by own = go slot.key (clear b refl) seen_by
        where
          go : (key : GlobKey) → IsBoundClear t key b → IsSeenClear t key vis → EditIsClear t (copy_at (import_state s) key vis by b)
          go (Unnamed id) g h = tt
          go other g h = (items_clear t b.def vis g.0 h, own)

      followed_clear : (slot : Slot) (vis : Visibility) (o : Option Bound) → ((b : Bound) → o ≡ Some b → IsBoundClear t slot.key b) → IsSeenClear t slot.key vis
          → EditsAreClear t (follow_where (import_state s) slot vis o)
      followed_clear slot vis None clear seen_by = tt
      followed_clear slot vis (Some b) clear seen_by = go slot.key (clear b refl) seen_by
        where
          go : (key : GlobKey) → IsBoundClear t key b → IsSeenClear t key vis → EditIsClear t (follow_at (import_state s) key vis b)
          go (Unnamed id) g h = tt
          go other g h = (g.0, h)

      -- what the source of an edge shows
      shown_clear : (e : Edge) (key : GlobKey) (b : Bound) → shown_along view_here e key ≡ Some b → IsBoundClear t key b
      shown_clear e key b shows = bound_clear e.source key b (shown_stands (view_here.sees e.importer) (bound_of names_here e.source key) b shows)

      -- the greater of what stands somewhere and what an edge brings
      raised_clear : (key : GlobKey) (c b : Bound) (j : ℕ) (e : Edge) (vis : Visibility) → IsBoundClear t key c → IsSeenClear t key (brought_vis view_here e b)
          → view_here.greater c.vis (brought_vis view_here e b) ≡ Some vis → IsSeenClear t key vis
      raised_clear (Unnamed id) c b j e vis clear seen_by is = tt
      raised_clear other c b j e vis clear seen_by is = wider c.vis (brought_vis view_here e b) vis clear.1 seen_by is

      globs_bring : (rule : GlobRule) → MayAlong scope_table (glob_state finished (import_state s)) rule
          → AllFine BringsNone s (list_map changes_imports (list_map (along finished) (glob_acts view_here rule)))
      globs_bring (copies_along j e slot b) may =
          let seen_by : IsSeenClear t slot.key (brought_vis view_here e b) = brought_clear j e slot.key b may.shows.recorded
          (shown_clear e slot.key b may.shows.shown) in (
            (
              copied_clear slot (brought_vis view_here e b) e.id (bound_of names_here e.source slot.key) (bound_clear e.source slot.key) seen_by
                  (edge_at j e may.shows.recorded).0,
              tt,
            ),
            ((tt, tt), tt),
          )
      globs_bring (follows_along j e slot b) may =
          let seen_by : IsSeenClear t slot.key (brought_vis view_here e b) = brought_clear j e slot.key b may.shows.recorded
          (shown_clear e slot.key b may.shows.shown) in (
            (followed_clear slot (brought_vis view_here e b) (bound_of names_here e.source slot.key) (bound_clear e.source slot.key) seen_by, tt),
            ((tt, tt), tt),
          )
      globs_bring (raises_along j e slot vis) may =
          let seen_by : IsSeenClear t slot.key (brought_vis view_here e may.b) = brought_clear j e slot.key may.b may.shows.recorded
          (shown_clear e slot.key may.b may.shows.shown) in
          ((raised_clear slot.key may.c may.b j e vis (bound_clear (targets.Own slot.at) slot.key may.c may.stands) seen_by may.greater, tt), tt)

      -- ---- what imports bring

      push_clear : (home : ℕ) (o : Option (List ℕ)) (items : PerNs) (source : Option ImportSource) → HoldsOfNone t items
          → on_some (on_import t) (pushing source) ≡ false
          → EditsAreClear t (edit_of (import_state s) (pushes home o items source))
      push_clear home None items source g h = tt
      push_clear home (Some name) items source g h = (g, h)

      keep_clear : (i : ImportState) (home : ℕ) (o : Option TraitId) (vis : Visibility) (by : Option ImportId)
          → EditsAreClear t (edit_of i (keeps_trait finished home o vis by))
      keep_clear i home None vis by = tt
      keep_clear i home (Some id) vis by = tt

      abbrev once_pushed : ImportDirective → State
      once_pushed r = act s (changes_imports (pushes r.home (name_of r) (offered_by finished s.core.local s.core.map r) (Some r.source)))

      imports_bring : (rule : ImportRule) → MayImport finished (import_state s) rule
          → AllFine BringsNone s (list_map changes_imports (import_acts finished (import_state s) rule))
      imports_bring (takes_import i r taken) may =
          let offered = offers r (import_at (length s.core.map.modules) s.core.reached i r inside.imports may.import) in
          let own : on_import t (way_of r.source) ≡ false = none_at (on_reached t) s.core.reached f.reached i r may.import in (
            (push_clear r.home (name_of r) (offered_by finished s.core.local s.core.map r) (Some r.source) offered own, tt),
            (
              (
                keep_clear (import_state (once_pushed r)) r.home (kept_trait finished s.core.local s.core.map r)
                    (visibility_of finished s.core.local s.core.map r) (leaf_of r.source),
                tt,
              ),
              ((tt, tt), tt),
            ),
          )
      imports_bring (takes_glob i r taken by target edges) may =
          let own : on_import t (way_of r.source) ≡ false = none_at (on_reached t) s.core.reached f.reached i r may.import in
          let below : r.home < length s.core.map.modules = import_at (length s.core.map.modules) s.core.reached i r inside.imports may.import in
          let edge : Edge = edge_to finished s.core.local s.core.map r by target in
          let clear : on_edge t edge ≡ false = neither (on_import t (ways.Glob by)) (on_visibility t edge.vis) (glob_clear r.source by may.is_glob own)
          (written r.home below r.visibility) in
          ((tt, tt), ((tt, recorded_clear t view_here s.core.globs.edges edges edge (greater_clear t finished s.core.map) f.edges clear may.recorded), tt))
      imports_bring (goes_along rule) may = globs_bring rule may

      -- what is declared alone
      bare_type : (def : ModuleDefId) (vis : Visibility) → on_def t def ≡ false → on_visibility t vis ≡ false
          → (HoldsOfNone t (declared_type def vis) × (on_some (on_import t) (pushing None) ≡ false)) × Unit {0}
      bare_type def vis g h = ((type_of t def vis g h, refl), tt)

      -- where a module is made, the item that declares it and what comes next are clear of the test
      making_none : (site : Site) (head : Head) (name : List ℕ) (origin : ModuleOrigin) (next : List Task) → site.home < length s.core.map.modules
          → on_origin t origin ≡ false
          → list_any (on_site t) next ≡ false → AllFine BringsNone s (making finished s site head name origin next)
      making_none site head name origin next below own clear = (
        own,
        (
          tt,
          (
            clear,
            (
              tt,
              (
                bare_type (definitions.ModuleId (new_id s.core.map)) (own_visibility finished s.core.local s.core.map site head) refl
                    (written site.home below head.visibility),
                tt,
              ),
            ),
          ),
        ),
      )

      inside_none : (site : Site) (head : Head) (dir : Option Directory) (items : KeptForest) (rest : List Task) → t.holder site.tree.file site.tree.block
          ≡ false → list_any (on_site t) rest ≡ false
          → list_any (on_site t) (visits_inside s.core.map site head dir items ++ rest) ≡ false
      inside_none site head None items rest own clear = clear
      inside_none site head (Some dir) items rest own clear =
          closed_visits t (inside_module s.core.map site dir) own items (is_macro_use head.attributes) site.home (length s.core.map.modules) rest clear

      -- a macro that is declared alone
      bare_macro : (makro : MacroId) (vis : Visibility) → on_macro t makro ≡ false → on_visibility t vis ≡ false
          → (HoldsOfNone t (macros_only makro vis None) × (on_some (on_import t) (pushing None) ≡ false)) × Unit {0}
      bare_macro makro vis g h = ((record { types = refl; values = refl; macros = bare t (on_macro t makro) (on_visibility t vis) g h }, refl), tt)

      -- the next item again, where more of its attributes are done with
      again : (v : Visit) (done : ℕ) (rest : List Task) → s.agenda ≡ visits v ∷ rest → list_any (on_site t) (visits (behind v done) ∷ rest) ≡ false
      again v done rest next = neither (t.holder v.site.tree.file v.site.tree.block) (list_any (on_site t) rest) (file v rest next) (left v rest next)

      -- the paths of a derive are written where it is
      derives_none : (site : Site) (node : AstId) (attr : AttrId) (adt : AdtId) → t.holder site.tree.file site.tree.block ≡ false
          → (index : ℕ) (paths : List Path)
          → list_any (on_call t) (derives_from site node attr adt index paths) ≡ false
      derives_none site node attr adt own index [] = refl
      derives_none site node attr adt own index (path ∷ paths) =
          neither (t.holder site.tree.file site.tree.block) (list_any (on_call t) (derives_from site node attr adt (count_of (index + 1)) paths)) own
          (derives_none site node attr adt own (count_of (index + 1)) paths)

      -- the sources that a rule reads are clear of it too
      brings_none : (r : Rule) → May finished s r → ((key : TreeKey) → Contains (keys_read (reads s r)) (keys.Tree key) → t.holder key.id.file key.id.block
          ≡ false)
          → AllFine BringsNone (asking s r) (acts finished s r)
      brings_none (drops_item v report rest) may read = (left v rest may.next, (tt, tt))
      brings_none (declares_item v d rest) may read = (
        left (behind v may.here.done) rest may.here.next,
        (
          tt,
          (
            ((declares v d (low (behind v may.here.done) rest may.here.next) (file (behind v may.here.done) rest may.here.next) may.declares, refl), tt),
            tt,
          ),
        ),
      )
      brings_none (declares_enum site head name found rest) may read =
          let id : EnumId = enum_id s.core.map site head.id in
          let bare = bare_type (definitions.AdtId (adts.EnumId id)) (own_visibility finished s.core.local s.core.map site head) (file _ rest may.next)
          (written site.home (low _ rest may.next) head.visibility) in
          (left _ rest may.next, (of_variants t id (file _ rest may.next) found, (tt, (bare, tt))))
      brings_none (lists_constant site head rest) may read = (left _ rest may.next, (tt, tt))
      brings_none (lists_impl site head of_trait rest) may read = (left _ rest may.next, (tt, tt))
      brings_none (opens_module site head name items rest) may read =
          making_none site head name (inline_origin site.tree head.id) (visits_inside s.core.map site head (inline_directory site.dir name (path_of head)) items
          ++ rest) (low _ rest may.next) (file _ rest may.next)
          (inside_none site head (inline_directory site.dir name (path_of head)) items rest (file _ rest may.next) (left _ rest may.next))
      brings_none (opens_file site head name search f rest) may read =
          let within : Site = inside_file s.core.map f in
          let m : Map = s.core.map in
          let own : t.holder within.tree.file within.tree.block ≡ false =
          read (file_key m.id.krate m.crate_data.edition f.id) (found_read m.id.krate m.crate_data.edition search.absent search.found f may.found) in
          making_none site head name (file_origin site.tree head.id m.crate_data.edition f) (visits_in_file m site head f ++ rest)
          (low _ rest may.looks.here.next) (file _ rest may.looks.here.next)
          (closed_visits t within own f.tree.items (is_macro_use head.attributes || is_macro_use f.tree.attributes) site.home (length m.modules) rest
          (left _ rest may.looks.here.next))
      brings_none (drops_file site head name search report rest) may read = (left _ rest may.looks.here.next, (tt, tt))
      brings_none (misses_file site head name search report rest) may read = (
        file _ rest may.looks.here.next,
        (
          tt,
          (
            left _ rest may.looks.here.next,
            (
              tt,
              (
                bare_type (definitions.ModuleId (new_id s.core.map)) (own_visibility finished s.core.local s.core.map site head) refl
                    (written site.home (low _ rest may.looks.here.next) head.visibility),
                (tt, tt),
              ),
            ),
          ),
        ),
      )
      brings_none (enters_block site head items rest) may read =
          let within : Site = inside_block s.core.map site head in
          (none_joined (on_site t) (visits_over within items) rest (site_visits t within (file _ rest may.next) items) (left _ rest may.next), (tt, tt))
      brings_none (reaches_imports site head tree rest) may read =
          (left _ rest may.next, (use_imports t s.core.map site head (file _ rest may.next) (imports_of tree), (tt, tt)))
      brings_none (reaches_crate site head name alias rest) may read =
          let own : t.holder site.tree.file site.tree.block ≡ false = file _ rest may.next in (
            left _ rest may.next,
            (
              own,
              (
                (brought_macros_clear t finished nowhere s.core.map s.core.dependencies head name, own),
                (neither (t.holder site.tree.file site.tree.block) false own refl, (tt, tt)),
              ),
            ),
          )
      brings_none (defines_rules site head name expander helpers rest) may read =
          let own : t.holder site.tree.file site.tree.block ≡ false = file _ rest may.next in
          let makro : MacroId = macro_rules_id s.core.map site head.id expander in (
            left _ rest may.next,
            (
              tt,
              (
                tt,
                (
                  own,
                  fine_macro BringsNone _ _ expander (λ at. tt) head name makro
                      (λ at. bare_macro makro visibilities.Public own refl) _,
                ),
              ),
            ),
          )
      brings_none (defines_macro site head name expander helpers rest) may read =
          let own : t.holder site.tree.file site.tree.block ≡ false = file _ rest may.next in
          let makro : MacroId = macro_def_id s.core.map site head.id expander in (
            left _ rest may.next,
            (
              tt,
              (
                tt,
                (
                  tt,
                  (
                    bare_macro makro (own_visibility finished s.core.local s.core.map site head) own
                        (written site.home (low _ rest may.next) head.visibility),
                    fine_reporting BringsNone _ _ expander (λ at. tt) _,
                  ),
                ),
              ),
            ),
          )
      brings_none (closes_module parent child rest) may read =
          (subst (λ (ts : List Task). list_any (on_site t) ts ≡ false) may f.visits, (tt, tt))
      brings_none (awaits_attribute v a k rest) may read =
          let next = may.has.on.next in (left v rest next, (neither (t.holder v.site.tree.file v.site.tree.block) false (file v rest next) refl, tt))
      brings_none (lists_derives v at a adt paths call rest) may read =
          let next = may.has.on.next in
          (again v (suc at) rest next, (derives_none v.site (item_node v.site v.item) (attr_id a) adt (file v rest next) 0 paths, (tt, tt)))
      brings_none (faults_derive v at report rest) may read = (again v (suc at) rest may.has.on.next, (tt, tt))
      brings_none (exports_macro site head name d e rest) may read =
          let next = may.here.next in
          let own : t.holder site.tree.file site.tree.block ≡ false = file _ rest next in
          let bare_two = bare_macro (macros.ProcMacroId (proc_macro_id s.core.map site head.id e.style)) visibilities.Public own refl in (
            left _ rest next,
            (
              tt,
              (
                tt,
                (
                  tt,
                  (
                    ((declares (visit site (leaf head (function name))) d (low _ rest next) own may.declares, refl), tt),
                    (tt, (bare_two, tt)),
                  ),
                ),
              ),
            ),
          )
      brings_none (reaches_call site head path rest) may read =
          (left _ rest may.next, (neither (t.holder site.tree.file site.tree.block) false (file _ rest may.next) refl, tt))
      brings_none (meets_macro i d makro x) may read = (tt, tt)
      brings_none rests may read = (tt, tt)
      brings_none (expands_call i d makro x) may read =
          let own : t.holder (Macro x.id) None ≡ false = read (call_key s.core.map.id.krate x.id) (expansion_read s.core.map.id.krate d makro x) in (
            tt,
            (
              site_visits t (call_site d x.id) own x.tree.tree.items,
              (tt, fine_expanding BringsNone _ (λ at helper. tt) _ (module_id s.core.map d.site.home) d (error_of x.there) (λ at text. tt) _),
            ),
          )
      brings_none (drops_call i d) may read = (tt, tt)
      brings_none (drops_reached i d makro) may read = (tt, fine_bringing BringsNone _ (λ at helper. tt) _ _)
      brings_none (derives_builtin i d makro imp) may read = (tt, (tt, (tt, fine_bringing BringsNone _ (λ at helper. tt) _ _)))
      brings_none (skips_attribute i d k item) may read =
          (tt, (neither (t.holder d.site.tree.file d.site.tree.block) false (none_at (on_call t) s.core.calls f.calls i d may.due.waiting.call) refl, tt))
      brings_none (falls_back i d k item) may read =
          (tt, (tt, (neither (t.holder d.site.tree.file d.site.tree.block) false (none_at (on_call t) s.core.calls f.calls i d may.waiting.call) refl, tt)))
      brings_none (resolves_imports rule) may read = imports_bring rule may

      -- a step brings nothing of which the test holds, where it holds of no source that was asked for
      pub sourced-Step : (env : Environment) (new : State) → Step env finished s new → AreClear t new → IsSourced t new
      sourced-Step env new step clear =
          let read : (key : TreeKey) → Contains (keys_read (reads s step.rule)) (keys.Tree key) → t.holder key.id.file key.id.block ≡ false =
          λ key h. clear key (subst (λ (ks : List Key). Contains ks (keys.Tree key)) (sym (asked-Step step))
          (Contains-append_right s.core.asked (keys_read (reads s step.rule)) (keys.Tree key) h)) in
          let first : IsSourced t (asking s step.rule) = record {
            map = f.map;
            local = f.local;
            visits = f.visits;
            reached = f.reached;
            calls = f.calls;
            edges = f.edges;
          } in
          let done = perform_keeps (IsSourced t) BringsNone sourced-act (acts finished s step.rule) (asking s step.rule) first
          (brings_none step.rule step.may read) in
          subst (IsSourced t) (sym step.is) (record {
            map = done.map;
            local = done.local;
            visits = done.visits;
            reached = done.reached;
            calls = done.calls;
            edges = done.edges;
          })

    -- so are all states to which steps lead, as far as the test holds of no module there, and of no source that was asked for
    pub all_sourced : (env : Environment) (from to : State) → IsInRange from → NamesWhatIsThere finished from → IsSourced t from → Steps env finished from to
        → ShowsThere t finished to.core.map
        → AreClear t to → IsSourced t to
    all_sourced env from to inside names first none shown clear = first
    all_sourced env from to inside names first (more old new before last) shown clear =
        let earlier : ShowsThere t finished old.core.map = λ m e. shown m (stays_there finished old.core.map new.core.map (id-Step last) (Grows-Step last) m e)
        in
        let asked : AreClear t old = λ key h. clear key (still_asked-Step last (keys.Tree key) h) in
        sourced-Step old (in_range-Steps before inside) (steps_keep paths finished whole env from old inside names before) earlier
        (all_sourced env from old inside names first before earlier asked) env new last clear

  -- ---- where a run begins

  local_begins : (crate_data : CrateData) (local : Local) (ds : List Dependency) → HoldsOfNoExtern t local
      → HoldsOfNoExtern t (extern_prelude crate_data local ds)
  local_begins crate_data local [] f = f
  local_begins crate_data local (d ∷ ds) f = local_begins crate_data (with_dependency crate_data local d) ds (go (joins crate_data local d))
    where
      go : (b : Bool) → HoldsOfNoExtern t (cond b (with_extern local d.name (crate_root d.krate, None)) local)
      go true = none_inserted_last (on_extern_entry t) (pointwise nat_eq) local d.name (crate_root d.krate, None) f refl
      go false = f

  -- a root module is written nowhere, or is the block whose tree was asked for
  root_nowhere : (finished : Maps) (start : Start) (tree : TreeId) → BeginsClear t finished start tree → t.holder tree.file tree.block ≡ false
      → on_origin t (origin_of start) ≡ false
  root_nowhere finished (starts.Crate krate root) tree clear asked = refl
  root_nowhere finished (starts.Block krate block by at) tree clear asked = subst (λ (x : TreeId). t.holder x.file x.block ≡ false) clear.0 asked

  start_begins : (finished : Maps) (crate_data : CrateData) (ds : List Dependency) (start : Start) (tree : TreeId) → BeginsClear t finished start tree
      → HoldsOfNoExtern t (start_local finished crate_data ds start)
  start_begins finished crate_data ds (starts.Crate krate root) tree clear = local_begins crate_data [] ds refl
  start_begins finished crate_data ds (starts.Block krate block by at) tree clear = clear.1

  pub first_sourced : (finished : Maps) → HoldsNowhere t finished → (tables : TablesValue) (w : Workspace) (holders : List ModuleId) (from : Beginning)
      → BeginsClear t finished from.start from.tree
      → t.holder from.tree.file from.tree.block ≡ false → IsSourced t (start_of tables w finished holders from)
  first_sourced finished nowhere tables w holders from clear written =
      let tree = root_tree tables w from in
      let krate : Crate = krate_of from.start in
      let crate_data : CrateData = start_data finished tree (transitive_dependencies_in w krate) from.start in
      let one : Map = root_map crate_data from.start in
      let local : Local = start_local finished crate_data (dependencies_in w krate) from.start in
      let prelude = own_prelude finished one local from.start in
      let origins = neither (on_origin t (origin_of from.start)) false (root_nowhere finished from.start from.tree clear written) refl in
      record {
        map =
            used_clear t (with_prelude one prelude) (macros_beside finished one.id.krate prelude) None (beside_clear t finished nowhere one.id.krate prelude)
            refl
            (HoldsNowhereIn-prelude t one prelude (record {
              origins = origins;
              types = refl;
              values = refl;
              macros = refl;
              legacy = refl;
              enums = refl;
              macro_use = refl;
            }));
        local = start_begins finished crate_data (dependencies_in w krate) from.start from.tree clear;
        visits = go (is_declared from.tree tree) tree.items;
        reached = refl;
        calls = refl;
        edges = refl;
      }
    where
      go : (b : Bool) (is : KeptForest) → list_any (on_site t) (if b then visits_over (root_site from.tree) is else []) ≡ false
      go true is = site_visits t (root_site from.tree) written is
      go false is = refl

  -- it ends with a map in which the test holds nowhere
  pub ends_sourced : PathsAnswerFromSources → PathsLeadToWhatIsThere → (finished : Maps) → AreWellFormed finished → (tables : TablesValue) (w : Workspace)
      (all : Maps) (from : Beginning) (answer : CollectedValue)
      → read_by w all from.start ≡ finished → StandsOnWhole w finished from.start → BeginsClear t finished from.start from.tree → Ends tables w all from answer
      → IsClearOf t finished answer.asked answer.map
      → HoldsNowhereIn t answer.map × HoldsOfNoExtern t answer.local
  ends_sourced answers paths finished whole tables w all from answer same stands begun_clear e clear =
      let env : Environment = environment tables w in
      let begun : State = begin_of tables w all from in
      let holders : List ModuleId = holders_by all from.start in
      let names : NamesWhatIsThere finished begun = subst (λ (x : Maps). NamesWhatIsThere finished (start_of tables w x holders from)) (sym same)
      (begins paths finished whole tables w holders from stands) in
      let derived : Steps env finished begun e.last = subst (λ (x : Maps). Steps env x begun e.last) same e.derived in
      let asked : AreClear t e.last =
      λ key h. clear.written key (subst (λ (ks : List Key). Contains ks (keys.Tree key)) (sym e.asked_is)
      (Contains-append_left e.last.core.asked (keys_behind (krate_of from.start) (transitive_dependencies_in w (krate_of from.start))) (keys.Tree key) h)) in
      let root : t.holder from.tree.file from.tree.block ≡ false =
      asked (tree_key from.start from.tree) (still_asked derived (root_key from.start from.tree) (0, omega arith, refl)) in
      let first : IsSourced t begun = first_sourced (read_by w all from.start) (subst (HoldsNowhere t) (sym same) clear.read) tables w holders from
      (subst (λ (x : Maps). BeginsClear t x from.start from.tree) (sym same) begun_clear) root in
      let m : Map = ended e.last.core in
      let reports : List DefDiagnostic = m.diagnostics ++ leftover_reports (read_by w all from.start) e.last.core in
      let reported : Map = record m { diagnostics = reports } in
      let above : ShowsThere t finished reported = subst (λ (x : Map). ShowsThere t finished x) e.map_is clear.shown in
      let grows : Grows m reported = let same_map : Grows m m = Grows-same m
      in record { longer = same_map.longer; kept = same_map.kept; listed = same_map.listed } in
      let seen : ShowsThere t finished m = λ at there. above at (stays_there finished m reported refl grows at there) in
      let shown : ShowsThere t finished e.last.core.map = λ at there. seen at (stays_ended finished e.last.core at there) in
      let end : IsSourced t e.last = all_sourced answers paths finished whole clear.read env begun e.last
      (in_range-start tables w (read_by w all from.start) holders from) names first derived shown asked in (
        subst (HoldsNowhereIn t) (sym e.map_is) (HoldsNowhereIn-reported m reports (HoldsNowhereIn-ended t e.last.core end.map)),
        subst (HoldsOfNoExtern t) (sym e.local_is) end.local,
      )
