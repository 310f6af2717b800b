-- What one change leaves of a map that names only what is there.
use Rattle.std.specs.Prelude.{◌≡◌, ◌==◌, ◌&&◌, ℕ, ◌<◌, List, [], ◌∷◌, ◌++◌, length, Bool, true, false, not, is_none, is_some, Option, None, Some, cond}
use Rattle.std.specs.Prelude.{map as list_map, option_map}
use Rattle.std.specs.List.{list_any}
use mathlib.Core.Bool.{true≢false}
use Rattle.std.proofs.Common.{ap, refl, subst, sym, ◌∙◌}
use Rattle.std.specs.Prelude.{nat_eq}
use Rattle.std.specs.Cmp.Lexicographic.{pointwise}
use Rattle.hir_collector_rules.specs.HirIds.declared.ast_id.AstId.{AstId}
use Rattle.hir_collector_rules.specs.HirIds.declared.ids.Crate.{Crate}
use Rattle.hir_collector_rules.specs.HirIds.declared.ids.ExternCrateId.{ExternCrateId}
use Rattle.hir_collector_rules.specs.HirIds.declared.macro_kind.MacroId.{MacroId}
use Rattle.hir_collector_rules.specs.HirIds.declared.ids.ModuleDefId.{ModuleDefId}
use Rattle.hir_collector_rules.specs.HirIds.declared.ids.ModuleId.{ModuleId}
use Rattle.hir_collector_rules.specs.HirIds.declared.ids.TraitId.{TraitId}
use Rattle.hir_collector_rules.specs.HirIds.declared.ids.UseId.{UseId}
use Rattle.hir_collector_rules.specs.HirIds.declared.ids.ModuleDefId.TheVariants as definitions
use Rattle.hir_collector_rules.specs.HirItemTree.KeptForest.{Head, Leaf, KeptItem, leaf, holder, import, extern_crate}
use Rattle.hir_collector_rules.specs.HirItemTree.KeptForest.{function, structure, union_structure, enumeration}
use Rattle.hir_collector_rules.specs.HirItemTree.KeptForest.{constant, static_item, trait_item, implementation, type_alias}
use Rattle.hir_collector_rules.specs.HirItemTree.KeptForest.{outline_module, macro_call, macro_rules, macro_def}
use Rattle.hir_collector_rules.specs.HirUseTree.declared.imports.Import.{Import}
use Rattle.hir_collector_rules.specs.HirUseTree.declared.imports.ImportKind.{ImportKind}
use Rattle.hir_collector_rules.specs.HirUseTree.declared.imports.ImportKind.TheVariants as import_kinds
use Rattle.hir_collector_rules.specs.HirRawVisibility.declared.raw_visibility.RawVisibility.{RawVisibility}
use Rattle.hir_collector_rules.specs.HirPerNs.declared.imports.ImportId.{ImportId}
use Rattle.hir_collector_rules.specs.HirPerNs.declared.per_ns.PerNs.{PerNs}
use Rattle.hir_collector_rules.specs.HirPerNs.declared.visibility.Visibility.{Visibility}
use Rattle.hir_collector_rules.specs.HirTextualScope.Macros.{with_macro}
use Rattle.hir_collector_rules.specs.HirTextualScope.declared.textual_scope.TextualMacro.{TextualMacro}
use Rattle.hir_collector_rules.specs.HirScope.Scope.{ScopeValue}
use Rattle.hir_collector_rules.specs.HirPerNs.PerNs.{Item, macros_only}
use Rattle.hir_collector_rules.specs.HirMapParts.declared.diagnostics.DefDiagnostic.{DefDiagnostic}
use Rattle.hir_collector_rules.specs.HirDefMapRules.declared.reference.Reference.{Reference}
use Rattle.hir_collector_rules.specs.HirDefMapRules.declared.reference.Reference.TheVariants as named
use Rattle.std.specs.Map.{lookup}
use Rattle.hir_collector_rules.specs.HirIds.contracts.ids.TraitIdPartialEq.TheImpl as trait_id
use Rattle.hir_collector_rules.specs.HirDefMapRules.Sources.{on_some}
use Rattle.hir_collector_rules.proofs.HirDefMapRules.Fails.{Fails-keep, Fails-nothing, Fails-public, Fails-weaker}
use Rattle.hir_collector_rules.proofs.HirDefMapRules.Referred.{module_parts, scope_parts}
use Rattle.hir_collector_rules.proofs.HirDefMapRules.NoneOf.{neither, none_at, none_inserted_last, none_of_less, not_first, not_second, none_found}
use Rattle.hir_collector_rules.specs.HirDefMapRules.Closed.{AreThere, VisibilityIsThere}
use Rattle.hir_collector_rules.specs.HirDefMapRules.WellFormed.{AreWellFormed, HasNoDanglingExtern, Extends, HasNoDanglingReference}
use Rattle.hir_collector_rules.proofs.HirDefMapRules.WellFormed.{HasNoDanglingExtern-more, IsClosed-well_formed, HasNoDanglingReference-more, none_missing}
use Rattle.hir_collector_rules.specs.HirDefMapRules.Declaration.{listed}
use Rattle.hir_collector_rules.specs.HirDefMapRules.Macros.{with_derive_helper, with_exported, with_macro_data, with_macro_def}
use Rattle.hir_collector_rules.specs.HirDefMapRules.References.{crate_map, is_missing, reference_to, test_crate, test_of}
use Rattle.hir_collector_rules.specs.HirDefMapRules.References.{any_reference_in, are_variants_of, test_visibility}
use Rattle.hir_collector_rules.specs.HirDefMapRules.References.{visibility_reference}
use Rattle.hir_collector_rules.specs.HirDefMapRules.Scoping.{Resolution}
use Rattle.hir_collector_rules.specs.HirDefMapRules.Scoping.Start.{crate_root}
use Rattle.hir_collector_rules.specs.HirDefMapRules.State.{Local, Map, ModuleValue, module_at, numbered, with_scope}
use Rattle.hir_collector_rules.specs.HirDefMapRules.Overlay.{Maps, overlay}
use Rattle.hir_collector_rules.proofs.HirDefMapRules.StaysWellFormed.{Extends-grown, Extends-made, Extends-scope, HasNoDanglingReference-listed}
use Rattle.hir_collector_rules.proofs.HirDefMapRules.StaysWellFormed.{HasNoDanglingReference-made}
use Rattle.hir_collector_rules.proofs.HirDefMapRules.StaysWellFormed.{Extends-enum, HasNoDanglingReference-enum, HasNoDanglingReference-scope}
use Rattle.hir_collector_rules.specs.declared.declaration.Declaration.{Declaration}
use Rattle.hir_collector_rules.specs.declared.source_database.Dependency.{Dependency}
use Rattle.hir_collector_rules.specs.HirGlobImports.declared.edge.Bound.{Bound}
use Rattle.hir_collector_rules.specs.HirGlobImports.declared.edge.Edge.{Edge}
use Rattle.hir_collector_rules.specs.HirGlobImports.Rules.{brings, copies, follows, raises}
use Rattle.hir_collector_rules.specs.HirImportRules.declared.directive.ImportDirective.{ImportDirective}
use Rattle.hir_collector_rules.specs.HirImportRules.declared.directive.ImportSource.{ImportSource}
use Rattle.hir_collector_rules.specs.HirImportRules.declared.directive.ImportSource.TheVariants as sources
use Rattle.hir_collector_rules.specs.State.{State, Visit, import_state}
use Rattle.hir_collector_rules.specs.ItemIds.{module_id}
use Rattle.hir_collector_rules.specs.Items.{constructor_of, declared_by, declared_by_leaf, declared_struct, declared_type, own_visibility, declared_value}
use Rattle.hir_collector_rules.specs.HirImportRules.Visibilities.{visibility_in, is_public}
use Rattle.hir_collector_rules.specs.HirImportRules.Directives.{answer_by_kind, answer_by_source, kept_by_kind, name_of, open_items}
use Rattle.hir_collector_rules.specs.HirImportRules.Changes.{act as act_on_imports, along, keeps_trait, pushes, Change as ImportChange, records, takes}
use Rattle.hir_collector_rules.specs.HirImportRules.Names.{trait_vis}
use Rattle.hir_collector_rules.specs.HirImportRules.State.{ImportState}
use Rattle.hir_collector_rules.specs.Imports.{extern_by, reached_import}
use Rattle.hir_collector_rules.specs.Changes.{Change, lists, makes, gives_variants, begins_paths, reaches, awaits, ends, settles, changes_imports, adds_textual}
use Rattle.hir_collector_rules.specs.Changes.{takes_textual, defines, describes, helps, lists_derive, notes, exports, uses_macros, tells, goes_on, act, on_map}
use Rattle.hir_collector_rules.specs.Changes.{with_builtin_derive}
use Rattle.hir_collector_rules.specs.Invocations.{with_invocation}
use Rattle.hir_collector_rules.specs.Macros.{textual_at, with_macros_used, with_used}
use Rattle.hir_collector_rules.proofs.Lists.{none_joined}
use Rattle.hir_collector_rules.proofs.ImportEdits.{Edit, edit, edit_of, edited, imports_after, local_after, map_after}
use Rattle.hir_def_collector_laws.proofs.Visible.{constructor_fails, on_edge, target_reference}
use Rattle.hir_def_collector_laws.proofs.WholeEdits.{DefIsThere, EditsWhatIsThere, names-edit}

-- ---- where it stands

-- the crate that an import names, if it is an `extern crate`
abbrev pub crate_of : ImportSource → Option Crate
crate_of (sources.Use id kind) = None
crate_of (sources.ExternCrate id krate) = krate

-- its root
abbrev pub root_named : Option Crate → Option Reference
root_named krate = option_map (λ (c : Crate). named.Module (crate_root c)) krate

-- whether a test holds of the root of the crate that an import names
abbrev pub test_import : (Reference → Bool) → ImportDirective → Bool
test_import test r = test_of test (root_named (crate_of r.source))

-- the map names only what is there, and so does what paths may begin with
pub record NamesWhatIsThere (finished : Maps) (s : State) : Type 0 where
  -- no finished map has its id
  pub apart : finished s.core.map.id ≡ None
  pub names : HasNoDanglingReference (overlay finished s.core.map) s.core.map
  pub begins : HasNoDanglingExtern (overlay finished s.core.map) s.core.local
  pub crates : list_any (test_import (is_missing (overlay finished s.core.map))) s.core.reached ≡ false
  -- so are the maps of the crates on which the crate depends
  pub dependencies : list_any (λ (d : Dependency). test_crate (is_missing finished) d.krate) s.core.dependencies ≡ false
  -- so is what globs lead out of, and the modules that may see what they bring
  pub edges : list_any (on_edge (is_missing (overlay finished s.core.map))) s.core.globs.edges ≡ false

-- ---- crates

-- the imports of a `use` item name no crate
pub uses_name_none : (test : Reference → Bool) (home : ℕ) (by : UseId) (vis : RawVisibility) (is : List Import)
    → list_any (test_import test) (list_map (reached_import home by vis) is) ≡ false
uses_name_none test home by vis [] = refl
uses_name_none test home by vis (i ∷ is) = uses_name_none test home by vis is

-- what is there of fewer maps is there of more
pub still_there : (one other : Maps) → Extends one other → (o : Option Reference) → test_of (is_missing one) o ≡ false → test_of (is_missing other) o ≡ false
still_there one other grown None g = refl
still_there one other grown (Some n) g = none_missing one other grown n g

pub seen_still : (one other : Maps) → Extends one other → (vis : Visibility) → VisibilityIsThere one vis → VisibilityIsThere other vis
seen_still one other grown vis g = still_there one other grown (visibility_reference vis) g

pub items_still : (one other : Maps) → Extends one other → (items : PerNs) → AreThere one items → AreThere other items
items_still one other grown items g = Fails-weaker (is_missing one) (is_missing other) (none_missing one other grown) items g

edges_more : (one other : Maps) → Extends one other → (es : List Edge) → list_any (on_edge (is_missing one)) es ≡ false → list_any (on_edge (is_missing other))
    es ≡ false
edges_more one other grown es g = none_of_less (on_edge (is_missing one)) (on_edge (is_missing other)) each es g
  where
    each : (e : Edge) → on_edge (is_missing one) e ≡ false → on_edge (is_missing other) e ≡ false
    each e h =
        let from = test_of (is_missing one) (target_reference e.source) in
        let seen = test_visibility (is_missing one) e.vis in
        neither (test_of (is_missing other) (target_reference e.source)) (test_visibility (is_missing other) e.vis)
        (still_there one other grown (target_reference e.source) (not_first from seen h)) (seen_still one other grown e.vis (not_second from seen h))

-- a crate whose map is there has its root there
pub root_stands : (finished : Maps) → AreWellFormed finished → (c : Crate) → test_crate (is_missing finished) c ≡ false
    → is_missing finished (named.Module (crate_root c)) ≡ false
root_stands finished whole c g = ap not ((IsClosed-well_formed finished whole).roots (crate_map c) (shown (is_some (finished (crate_map c))) g))
  where
    shown : (b : Bool) → not b ≡ false → b ≡ true
    shown true h = refl
    shown false h = absurd (true≢false h)

-- ---- what items bind

-- a type, a value or a macro that is declared alone
pub type_there : (maps : Maps) (def : ModuleDefId) (vis : Visibility) → test_of (is_missing maps) (reference_to def) ≡ false → VisibilityIsThere maps vis
    → AreThere maps (declared_type def vis)
type_there maps def vis f g =
    record { types = neither (test_of (is_missing maps) (reference_to def)) (test_visibility (is_missing maps) vis) f g; values = tt; macros = tt }

pub value_there : (maps : Maps) (def : ModuleDefId) (vis : Visibility) → test_of (is_missing maps) (reference_to def) ≡ false → VisibilityIsThere maps vis
    → AreThere maps (declared_value def vis)
value_there maps def vis f g =
    record { types = tt; values = neither (test_of (is_missing maps) (reference_to def)) (test_visibility (is_missing maps) vis) f g; macros = tt }

pub macro_there : (maps : Maps) (def : MacroId) (vis : Visibility) → VisibilityIsThere maps vis → AreThere maps (macros_only def vis None)
macro_there maps def vis g = record { types = tt; values = tt; macros = g }

-- what an item declares names no module and no enum, which are declared apart, and is seen by what is there
module _ (finished maps : Maps) (local : Local) (m : Map) (v : Visit) (d : Declaration) (seen : (raw : RawVisibility) → VisibilityIsThere maps (visibility_in finished local m (module_id m v.site.home) raw)) where
  shown : (a : Declaration) → AreThere maps a.items → Some a ≡ Some d → AreThere maps d.items
  shown a there f = let same : a ≡ d = cc in subst (λ (x : Declaration). AreThere maps x.items) same there

  own_seen : (h : Head) → VisibilityIsThere maps (own_visibility finished local m v.site h)
  own_seen h = seen h.visibility

  all_seen : (raws : List RawVisibility) → list_any (test_visibility (is_missing maps)) (list_map (visibility_in finished local m (module_id m v.site.home))
      raws) ≡ false
  all_seen [] = refl
  all_seen (raw ∷ raws) =
      neither (test_visibility (is_missing maps) (visibility_in finished local m (module_id m v.site.home) raw))
      (list_any (test_visibility (is_missing maps)) (list_map (visibility_in finished local m (module_id m v.site.home)) raws)) (seen raw) (all_seen raws)

  struct_there : (def : ModuleDefId) → test_of (is_missing maps) (reference_to def) ≡ false → (vis : Visibility) → VisibilityIsThere maps vis
      → (c : Option Visibility)
      → on_some (test_visibility (is_missing maps)) c ≡ false → AreThere maps (declared_struct def vis c)
  struct_there def f vis g None h = type_there maps def vis f g
  struct_there def f vis g (Some c) h = record {
    types = neither (test_of (is_missing maps) (reference_to def)) (test_visibility (is_missing maps) vis) f g;
    values = neither (test_of (is_missing maps) (reference_to def)) (test_visibility (is_missing maps) c) f h;
    macros = tt;
  }

  declared_leaf_there : (h : Head) (l : Leaf) → declared_by_leaf finished local m v.site h l ≡ Some d → AreThere maps d.items
  declared_leaf_there h (import tree) f = absurd cc
  declared_leaf_there h (extern_crate name alias) f = absurd cc
  declared_leaf_there h (function name) f = shown _ (value_there maps _ (own_visibility finished local m v.site h) refl (own_seen h)) f
  declared_leaf_there h (structure name shape fields) f =
      let own : Visibility = own_visibility finished local m v.site h in
      let seen_by = list_map (visibility_in finished local m (module_id m v.site.home)) fields in
      shown _ (struct_there _ refl own (own_seen h) (constructor_of finished m own shape seen_by)
      (constructor_fails (is_missing maps) finished m own shape seen_by (own_seen h) (all_seen fields))) f
  declared_leaf_there h (union_structure name fields) f = shown _ (type_there maps _ (own_visibility finished local m v.site h) refl (own_seen h)) f
  declared_leaf_there h (enumeration name) f = absurd cc
  declared_leaf_there h (constant None) f = absurd cc
  declared_leaf_there h (constant (Some name)) f = shown _ (value_there maps _ (own_visibility finished local m v.site h) refl (own_seen h)) f
  declared_leaf_there h (static_item name) f = shown _ (value_there maps _ (own_visibility finished local m v.site h) refl (own_seen h)) f
  declared_leaf_there h (trait_item name) f = shown _ (type_there maps _ (own_visibility finished local m v.site h) refl (own_seen h)) f
  declared_leaf_there h (implementation of_trait) f = absurd cc
  declared_leaf_there h (type_alias name) f = shown _ (type_there maps _ (own_visibility finished local m v.site h) refl (own_seen h)) f
  declared_leaf_there h (outline_module name) f = absurd cc
  declared_leaf_there h (macro_call path) f = absurd cc
  declared_leaf_there h (macro_rules name expander helpers) f = absurd cc
  declared_leaf_there h (macro_def name expander helpers) f = absurd cc

  pub declared_item_there : (i : KeptItem) → declared_by finished local m v.site i ≡ Some d → AreThere maps d.items
  declared_item_there (leaf h l) f = declared_leaf_there h l f
  declared_item_there (holder h k items) f = absurd cc

-- what is offered of items that are there is there
module _ (maps : Maps) where
  pub kept_there : (kind : ImportKind) (items : PerNs) → AreThere maps items → AreThere maps (kept_by_kind kind items)
  kept_there import_kinds.Plain items f = f
  kept_there import_kinds.TypeOnly items f = record { types = f.types; values = tt; macros = tt }
  kept_there import_kinds.Glob items f = f

  pub open_there : (crossing : Bool) (items : PerNs) → AreThere maps items → AreThere maps (open_items crossing items)
  open_there true items f = Fails-keep (is_missing maps) is_public items f
  open_there false items f = f

  answered_there : (kind : ImportKind) (answer : Resolution) → AreThere maps answer.resolved_def → AreThere maps (answer_by_kind kind answer).resolved_def
  answered_there import_kinds.Plain answer f = f
  answered_there import_kinds.TypeOnly answer f = f
  answered_there import_kinds.Glob answer f = Fails-nothing (is_missing maps)

  pub sourced_there : (source : ImportSource) (answer : Resolution) → test_of (is_missing maps) (root_named (crate_of source)) ≡ false
      → AreThere maps answer.resolved_def
      → AreThere maps (answer_by_source source answer).resolved_def
  sourced_there (sources.Use id kind) answer g f = answered_there kind answer f
  sourced_there (sources.ExternCrate id None) answer g f = Fails-nothing (is_missing maps)
  sourced_there (sources.ExternCrate id (Some c)) answer g f = Fails-public (is_missing maps) (definitions.ModuleId (crate_root c)) None g

-- a definition that stands somewhere is there, and so is the module that may see it
abbrev pub BoundIsThere : Maps → Option Bound → Type 0
BoundIsThere maps None = Unit {0}
BoundIsThere maps (Some b) = DefIsThere maps b.def × VisibilityIsThere maps b.vis

-- so it is of globs that are recorded
abbrev EdgesAreThere : Maps → ImportChange → Type 0
EdgesAreThere maps (records edges) = list_any (on_edge (is_missing maps)) edges ≡ false
EdgesAreThere maps other = Unit {0}

-- ---- changes

-- what a change brings is there
abbrev pub BringsWhatIsThere : Maps → State → Change → Type 0
BringsWhatIsThere finished s (makes home name origin visibility) =
    (home < length s.core.map.modules) × VisibilityIsThere (overlay finished s.core.map) visibility
BringsWhatIsThere finished s (gives_variants id variants) = are_variants_of id variants ≡ true
BringsWhatIsThere finished s (begins_paths r) = test_import (is_missing (overlay finished s.core.map)) r ≡ false
BringsWhatIsThere finished s (reaches rs) = list_any (test_import (is_missing (overlay finished s.core.map))) rs ≡ false
BringsWhatIsThere finished s (changes_imports c) =
    EditsWhatIsThere (overlay finished s.core.map) (edit_of (import_state s) c) × EdgesAreThere (overlay finished s.core.map) c
BringsWhatIsThere finished s other = Unit {0}

-- another map, in which what was there stays there
with_larger : (finished : Maps) (s : State) (m : Map) → m.id ≡ s.core.map.id → Extends (overlay finished s.core.map) (overlay finished m)
    → HasNoDanglingReference (overlay finished m) m
    → NamesWhatIsThere finished s → NamesWhatIsThere finished (on_map s m)
with_larger finished s m same grown names f = record {
  apart = ap finished same ∙ f.apart;
  names = names;
  begins = HasNoDanglingExtern-more (overlay finished s.core.map) (overlay finished m) grown s.core.local f.begins;
  crates =
      none_of_less (test_import (is_missing (overlay finished s.core.map))) (test_import (is_missing (overlay finished m)))
      (λ r g. still_there (overlay finished s.core.map) (overlay finished m) grown (root_named (crate_of r.source)) g) s.core.reached f.crates;
  dependencies = f.dependencies;
  edges = edges_more (overlay finished s.core.map) (overlay finished m) grown s.core.globs.edges f.edges;
}

-- diagnostics name nothing, nor do macros
abbrev pub beside : Map → List (AstId × MacroId) → List (List ℕ × (MacroId × Option ExternCrateId)) → List DefDiagnostic → Map
beside m ids used ds = record m { macro_ids = ids; macro_use_prelude = used; diagnostics = ds }

pub Extends-beside : (finished : Maps) (m : Map) (ids : List (AstId × MacroId)) (used : List (List ℕ × (MacroId × Option ExternCrateId)))
    (ds : List DefDiagnostic) → Extends (overlay finished m) (overlay finished (beside m ids used ds))
Extends-beside finished m ids used ds = Extends-grown finished m (beside m ids used ds) refl (λ k e. e) (λ e t. t)

NamesOnly-beside : (finished : Maps) (m : Map) (ids : List (AstId × MacroId)) (used : List (List ℕ × (MacroId × Option ExternCrateId)))
    (ds : List DefDiagnostic)
    → HasNoDanglingReference (overlay finished m) m → HasNoDanglingReference (overlay finished (beside m ids used ds)) (beside m ids used ds)
NamesOnly-beside finished m ids used ds f =
    let new : Map = beside m ids used ds in
    HasNoDanglingReference-more (overlay finished m) (overlay finished new) (Extends-beside finished m ids used ds) new (record {
      own_crate = f.own_crate;
      held = f.held;
      outside = f.outside;
      root = f.root;
      in_order = f.in_order;
      variants = f.variants;
      modules = f.modules;
      prelude = f.prelude;
      dependencies = f.dependencies;
    })

-- nor does what is kept of macros, of helpers and of what functions export
abbrev pub beside_of : Map → Map → Map
beside_of m o = record m { macro_ids = o.macro_ids; macro_data = o.macro_data; derive_helpers = o.derive_helpers; proc_macros = o.proc_macros }

pub Extends-beside_of : (finished : Maps) (m o : Map) → Extends (overlay finished m) (overlay finished (beside_of m o))
Extends-beside_of finished m o = Extends-grown finished m (beside_of m o) refl (λ k e. e) (λ e t. t)

pub NamesOnly-beside_of : (finished : Maps) (m o : Map) → HasNoDanglingReference (overlay finished m) m
    → HasNoDanglingReference (overlay finished (beside_of m o)) (beside_of m o)
NamesOnly-beside_of finished m o f =
    let new : Map = beside_of m o in
    HasNoDanglingReference-more (overlay finished m) (overlay finished new) (Extends-beside_of finished m o) new (record {
      own_crate = f.own_crate;
      held = f.held;
      outside = f.outside;
      root = f.root;
      in_order = f.in_order;
      variants = f.variants;
      modules = f.modules;
      prelude = f.prelude;
      dependencies = f.dependencies;
    })

pub Extends-reported : (finished : Maps) (m : Map) (ds : List DefDiagnostic) → Extends (overlay finished m) (overlay finished (record m { diagnostics = ds }))
Extends-reported finished m ds = Extends-beside finished m m.macro_ids m.macro_use_prelude ds

pub NamesOnly-reported : (finished : Maps) (m : Map) (ds : List DefDiagnostic) → HasNoDanglingReference (overlay finished m) m
    → HasNoDanglingReference (overlay finished (record m { diagnostics = ds })) (record m { diagnostics = ds })
NamesOnly-reported finished m ds = NamesOnly-beside finished m m.macro_ids m.macro_use_prelude ds

pub Extends-used : (finished : Maps) (m : Map) (macros : List (List ℕ × MacroId)) (by : Option ExternCrateId) → Extends (overlay finished m)
    (overlay finished (with_macros_used m macros by))
Extends-used finished m macros by = Extends-beside finished m m.macro_ids (with_used m.macro_use_prelude macros by) m.diagnostics

pub NamesOnly-used : (finished : Maps) (m : Map) (macros : List (List ℕ × MacroId)) (by : Option ExternCrateId) → HasNoDanglingReference (overlay finished m) m
    → HasNoDanglingReference (overlay finished (with_macros_used m macros by)) (with_macros_used m macros by)
NamesOnly-used finished m macros by f = NamesOnly-beside finished m m.macro_ids (with_used m.macro_use_prelude macros by) m.diagnostics f

-- paths may begin with a crate that is there
extern_there : (finished : Maps) (m : Map) (local : Local) (source : ImportSource) (name : Option (List ℕ)) → HasNoDanglingExtern (overlay finished m) local
    → test_of (is_missing (overlay finished m)) (root_named (crate_of source)) ≡ false → HasNoDanglingExtern (overlay finished m) (extern_by local source name)
extern_there finished m local (sources.Use id kind) name f g = f
extern_there finished m local (sources.ExternCrate id None) name f g = f
extern_there finished m local (sources.ExternCrate id (Some c)) None f g = f
extern_there finished m local (sources.ExternCrate id (Some c)) (Some name) f g =
    none_inserted_last (λ (x : ModuleId × Option ExternCrateId). is_missing (overlay finished m) (named.Module x.0)) (pointwise nat_eq) local name
    (crate_root c, Some id) f g

begins_after : (finished : Maps) (m : Map) (b : Bool) (local other : Local) → HasNoDanglingExtern (overlay finished m) local
    → HasNoDanglingExtern (overlay finished m) other → HasNoDanglingExtern (overlay finished m) (cond b local other)
begins_after finished m true local other f g = f
begins_after finished m false local other f g = g

-- what was there stays there where a scope changes
pub Extends-edited : (finished : Maps) (m : Map) (o : Option (ℕ × Edit)) → Extends (overlay finished m) (overlay finished (edited m o))
Extends-edited finished m None = λ n there. there
Extends-edited finished m (Some e) = Extends-scope finished m e.0 (edit (numbered m.id e.0) e.1)

-- the globs that are recorded after a change
edges_after : (maps : Maps) (i : ImportState) (c : ImportChange) → list_any (on_edge (is_missing maps)) i.edges ≡ false → EdgesAreThere maps c
    → list_any (on_edge (is_missing maps)) (act_on_imports i c).edges ≡ false
edges_after maps i (pushes home None items source) f fine = f
edges_after maps i (pushes home (Some name) items source) f fine = f
edges_after maps i (keeps_trait finished home None vis by) f fine = f
edges_after maps i (keeps_trait finished home (Some id) vis by) f fine = f
edges_after maps i (takes n taken) f fine = f
edges_after maps i (records edges) f fine = fine
edges_after maps i (along finished (copies slot of vis by)) f fine = f
edges_after maps i (along finished (brings slot by)) f fine = f
edges_after maps i (along finished (follows slot of vis)) f fine = f
edges_after maps i (along finished (raises slot vis)) f fine = f

-- who may see a trait without a name
pub trait_seen : (maps : Maps) (m : Map) → HasNoDanglingReference maps m → (at : ℕ) (id : TraitId) → on_some (test_visibility (is_missing maps))
    (trait_vis (module_at m at) id) ≡ false
trait_seen maps m f at id = go (module_at m at) refl
  where
    found : (v : ModuleValue) → any_reference_in (is_missing maps) v ≡ false → (o : Option (Item (Unit {0}) ImportId)) → lookup (trait_id.ghosts.eq id)
        v.scope.unnamed_traits ≡ o
        → on_some (test_visibility (is_missing maps)) (option_map (λ (i : Item (Unit {0}) ImportId). i.vis) o) ≡ false
    found v g None e = refl
    found v g (Some i) e =
        none_found (λ (x : Item (Unit {0}) ImportId). test_visibility (is_missing maps) x.vis) (trait_id.ghosts.eq id) v.scope.unnamed_traits i
        (scope_parts (is_missing maps) v.scope (module_parts (is_missing maps) v g).scope).traits e

    go : (o : Option ModuleValue) → module_at m at ≡ o → on_some (test_visibility (is_missing maps)) (trait_vis o id) ≡ false
    go None e = refl
    go (Some v) e =
        found v (none_at (any_reference_in (is_missing maps)) m.modules f.modules at v e) (lookup (trait_id.ghosts.eq id) v.scope.unnamed_traits) refl

-- a scope that names what is there
names-edited : (finished : Maps) (s : State) (o : Option (ℕ × Edit)) → EditsWhatIsThere (overlay finished s.core.map) o → NamesWhatIsThere finished s
    → NamesWhatIsThere finished (on_map s (edited s.core.map o))
names-edited finished s None fine f =
    record { apart = f.apart; names = f.names; begins = f.begins; crates = f.crates; dependencies = f.dependencies; edges = f.edges }
names-edited finished s (Some e) fine f =
    with_larger finished s _ refl (Extends-scope finished s.core.map e.0 (edit (numbered s.core.map.id e.0) e.1))
    (names-edit finished s.core.map e.0 e.1 fine f.names) f

-- what is in textual scope is neither a module nor an enum
names-textual : (finished : Maps) (s : State) (home : ℕ) (change : List TextualMacro → List TextualMacro) → NamesWhatIsThere finished s
    → NamesWhatIsThere finished (on_map s (with_scope s.core.map home (λ (x : ScopeValue). record x { legacy_macros = change x.legacy_macros })))
names-textual finished s home change f =
    let edit_ : ScopeValue → ScopeValue = λ x. record x { legacy_macros = change x.legacy_macros } in
    with_larger finished s _ refl (Extends-scope finished s.core.map home edit_) (HasNoDanglingReference-scope finished s.core.map home edit_ (λ x g. g)
    f.names) f

pub names-act : (finished : Maps) (s : State) (c : Change) → NamesWhatIsThere finished s → BringsWhatIsThere finished s c → NamesWhatIsThere finished (act s c)
names-act finished s (lists home d) f fine =
    with_larger finished s _ refl (Extends-scope finished s.core.map home (listed d)) (HasNoDanglingReference-listed finished s.core.map home d f.names) f
names-act finished s (makes home name origin visibility) f fine =
    with_larger finished s _ refl (Extends-made finished s.core.map home fine.0 name origin visibility)
    (HasNoDanglingReference-made finished s.core.map home fine.0 name origin visibility fine.1 f.names) f
names-act finished s (gives_variants id variants) f fine =
    with_larger finished s _ refl (Extends-enum finished s.core.map id variants) (HasNoDanglingReference-enum finished s.core.map id variants fine f.names) f
names-act finished s (begins_paths r) f fine = record {
  apart = f.apart;
  names = f.names;
  begins = begins_after finished s.core.map ((r.home == 0) && is_none s.core.map.id.block) (extern_by s.core.local r.source (name_of r)) s.core.local
      (extern_there finished s.core.map s.core.local r.source (name_of r) f.begins fine) f.begins;
  crates = f.crates;
  dependencies = f.dependencies;
  edges = f.edges;
}
names-act finished s (reaches rs) f fine = record {
  apart = f.apart;
  names = f.names;
  begins = f.begins;
  crates = none_joined (test_import (is_missing (overlay finished s.core.map))) s.core.reached rs f.crates fine;
  dependencies = f.dependencies;
  edges = f.edges;
}
names-act finished s (changes_imports c) f fine =
    let i : ImportState = import_state s in
    let m : Map = edited s.core.map (edit_of i c) in
    let more : NamesWhatIsThere finished (on_map s m) = names-edited finished s (edit_of i c) fine.0 f in
    let grown : Extends (overlay finished s.core.map) (overlay finished m) = Extends-edited finished s.core.map (edit_of i c) in
    record {
      apart = ap (λ (x : Map). finished x.id) (map_after i c) ∙ more.apart;
      names = subst (λ (x : Map). HasNoDanglingReference (overlay finished x) x) (sym (map_after i c)) more.names;
      begins =
          subst (λ (l : Local). HasNoDanglingExtern (overlay finished (act_on_imports i c).map) l) (sym (local_after i c))
          (subst (λ (x : Map). HasNoDanglingExtern (overlay finished x) s.core.local) (sym (map_after i c)) more.begins);
      crates =
          subst (λ (rs : List ImportDirective). list_any (test_import (is_missing (overlay finished (act_on_imports i c).map))) rs ≡ false)
          (sym (imports_after i c))
          (subst (λ (x : Map). list_any (test_import (is_missing (overlay finished x))) s.core.reached ≡ false) (sym (map_after i c)) more.crates);
      dependencies = more.dependencies;
      edges =
          subst (λ (x : Map). list_any (on_edge (is_missing (overlay finished x))) (act_on_imports i c).edges ≡ false) (sym (map_after i c))
          (edges_more (overlay finished s.core.map) (overlay finished m) grown (act_on_imports i c).edges
          (edges_after (overlay finished s.core.map) i c f.edges fine.1));
    }
names-act finished s (adds_textual home name makro) f fine = names-textual finished s home (λ ms. with_macro ms name makro) f
names-act finished s (takes_textual home from) f fine = names-textual finished s home (λ _. textual_at s.core.map from) f
names-act finished s (defines node makro) f fine =
    with_larger finished s _ refl (Extends-beside finished s.core.map (with_macro_def s.core.map node makro).macro_ids s.core.map.macro_use_prelude
    s.core.map.diagnostics)
    (NamesOnly-beside finished s.core.map (with_macro_def s.core.map node makro).macro_ids s.core.map.macro_use_prelude s.core.map.diagnostics f.names) f
names-act finished s (describes makro what) f fine =
    let new : Map = with_macro_data s.core.map makro what in
    with_larger finished s new refl (Extends-beside_of finished s.core.map new) (NamesOnly-beside_of finished s.core.map new f.names) f
names-act finished s (helps node helper) f fine =
    let new : Map = with_derive_helper s.core.map node helper in
    with_larger finished s new refl (Extends-beside_of finished s.core.map new) (NamesOnly-beside_of finished s.core.map new f.names) f
names-act finished s (lists_derive home imp) f fine =
    with_larger finished s _ refl (Extends-scope finished s.core.map home (with_builtin_derive imp))
    (HasNoDanglingReference-scope finished s.core.map home (with_builtin_derive imp) (λ x g. g) f.names) f
names-act finished s (notes home invocation) f fine =
    with_larger finished s _ refl (Extends-scope finished s.core.map home (with_invocation invocation))
    (HasNoDanglingReference-scope finished s.core.map home (with_invocation invocation) (λ x g. g) f.names) f
names-act finished s (exports x makro) f fine =
    let new : Map = with_exported s.core.map x.id makro in
    let noted : NamesWhatIsThere finished (on_map s new) = with_larger finished s new refl (Extends-beside_of finished s.core.map new)
    (NamesOnly-beside_of finished s.core.map new f.names) f in
    record { apart = noted.apart; names = noted.names; begins = noted.begins; crates = noted.crates; dependencies = noted.dependencies; edges = noted.edges }
names-act finished s (uses_macros macros by) f fine =
    with_larger finished s _ refl (Extends-used finished s.core.map macros by) (NamesOnly-used finished s.core.map macros by f.names) f
names-act finished s (tells d) f fine =
    with_larger finished s _ refl (Extends-reported finished s.core.map (s.core.map.diagnostics ++ d ∷ []))
    (NamesOnly-reported finished s.core.map (s.core.map.diagnostics ++ d ∷ []) f.names) f
names-act finished s other f fine =
    record { apart = f.apart; names = f.names; begins = f.begins; crates = f.crates; dependencies = f.dependencies; edges = f.edges }
