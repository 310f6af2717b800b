-- Where are a run's imports written?
use Rattle.std.specs.Prelude.{◌≡◌, ℕ, true, List, Option, None, Some, IsSome, Contains}
use Rattle.hir_collector_rules.specs.HirIds.declared.ids.Crate.{Crate}
use Rattle.hir_collector_rules.specs.HirIds.declared.ids.ExternCrateId.{ExternCrateId}
use Rattle.hir_collector_rules.specs.HirIds.declared.macro_kind.MacroId.{MacroId}
use Rattle.hir_collector_rules.specs.HirIds.declared.ids.ModuleDefId.{ModuleDefId}
use Rattle.hir_collector_rules.specs.HirIds.declared.ids.TraitId.{TraitId}
use Rattle.hir_collector_rules.specs.HirIds.declared.ids.UseId.{UseId}
use Rattle.hir_collector_rules.specs.HirItemTree.Collected.{is_enabled}
use Rattle.hir_collector_rules.specs.HirItemTree.Imports.{imports_of}
use Rattle.hir_collector_rules.specs.HirItemTree.KeptForest.{Head, leaf, import, extern_crate}
use Rattle.hir_collector_rules.specs.HirItemTree.UseTree.{UseTree}
use Rattle.hir_collector_rules.specs.HirBase.declared.shape.ExternCrateName.{ExternCrateName}
use Rattle.hir_collector_rules.specs.HirBase.declared.tree_id.TreeKey.{TreeKey}
use Rattle.hir_collector_rules.specs.HirUseTree.declared.imports.Import.{Import}
use Rattle.hir_collector_rules.specs.HirUseTree.declared.imports.ImportKind.{ImportKind}
use Rattle.hir_collector_rules.specs.HirUseTree.declared.imports.ImportAlias.TheVariants.{Underscore}
use Rattle.hir_collector_rules.specs.HirPerNs.declared.imports.ImportId.{ImportId}
use Rattle.hir_collector_rules.specs.HirPerNs.declared.imports.ImportOrExternCrate.{ImportOrExternCrate}
use Rattle.hir_collector_rules.specs.HirPerNs.declared.imports.ImportOrGlob.{ImportOrGlob}
use Rattle.hir_collector_rules.specs.HirPerNs.declared.per_ns.PerNs.{PerNs}
use Rattle.hir_collector_rules.specs.HirPerNs.declared.imports.ImportOrExternCrate.TheVariants as ways
use Rattle.hir_collector_rules.specs.HirPerNs.declared.imports.ImportOrGlob.TheVariants as value_ways
use Rattle.hir_collector_rules.specs.HirPerNs.PerNs.{Item}
use Rattle.hir_collector_rules.specs.HirDefMapRules.Overlay.{Maps}
use Rattle.hir_collector_rules.specs.HirDefMapRules.State.{ModuleValue, entry_at, module_at, numbered}
use Rattle.hir_collector_rules.specs.HirGlobImports.declared.edge.Edge.{Edge}
use Rattle.hir_collector_rules.specs.HirImportRules.declared.directive.ImportDirective.{ImportDirective}
use Rattle.hir_collector_rules.specs.HirImportRules.declared.directive.ImportSource.{ImportSource}
use Rattle.hir_collector_rules.specs.HirImportRules.declared.directive.ImportSource.TheVariants as sources
use Rattle.hir_collector_rules.specs.HirImportRules.Directives.{glob_of, way_of}
use Rattle.hir_collector_rules.specs.HirTables.Tables.{TablesValue}
use Rattle.hir_collector_rules.specs.Derivation.{CollectedValue, Ends, told_of}
use Rattle.hir_collector_rules.specs.Imports.{crate_named, path_of_crate}
use Rattle.hir_collector_rules.specs.Start.{Beginning, krate_of}
use Rattle.hir_collector_rules.specs.Workspace.{Workspace, dependencies_in}
use Rattle.hir_def_collector_laws.specs.Written.{IsWritten}

-- the tree that writes a `use` item, under the crate of its module
abbrev pub use_key : UseId → TreeKey
use_key id = record { krate = id.loc.container.map.krate; id = record { file = id.loc.file_id; block = id.loc.block } }

-- the tree that writes an `extern crate` item, under the crate of its module
abbrev pub extern_crate_key : ExternCrateId → TreeKey
extern_crate_key id = record { krate = id.loc.container.map.krate; id = record { file = id.loc.file_id; block = id.loc.block } }

-- an import is the leaf at this place of a `use` item, in preorder
pub record IsLeaf (tables : TablesValue) (w : Workspace) (answer : CollectedValue) (r : ImportDirective) (id : ImportId) (kind : ImportKind) : Type 0 where
  -- the item is enabled, and stands in the import's module
  pub head : Head
  pub tree : UseTree
  pub written : IsWritten tables w answer.asked (use_key id.use_) (leaf head (import tree))
  pub enabled : is_enabled head.attributes ≡ true
  pub node : head.id ≡ id.use_.loc.id
  pub module_is : id.use_.loc.container ≡ numbered answer.map.id r.home
  -- the import is what the leaf writes
  pub written_import : Import
  pub is_leaf : Contains (imports_of tree) written_import
  pub place : written_import.place ≡ id.idx
  pub kind_is : written_import.kind ≡ kind
  pub path : written_import.path ≡ r.path
  pub alias : written_import.alias ≡ r.alias
  pub visibility : head.visibility ≡ r.visibility

-- an import is an `extern crate` item
pub record IsExternCrate (tables : TablesValue) (w : Workspace) (from : Beginning) (answer : CollectedValue) (r : ImportDirective) (id : ExternCrateId)
    (krate : Option Crate) : Type 0 where
  -- the item is enabled, and stands in the import's module
  pub head : Head
  pub name : ExternCrateName
  pub written : IsWritten tables w answer.asked (extern_crate_key id) (leaf head (extern_crate name r.alias))
  pub enabled : is_enabled head.attributes ≡ true
  pub node : head.id ≡ id.loc.id
  pub module_is : id.loc.container ≡ numbered answer.map.id r.home
  -- the import names the crate that the item names
  pub path : path_of_crate name ≡ r.path
  pub visibility : head.visibility ≡ r.visibility
  pub names : crate_named (krate_of from.start) (dependencies_in w (krate_of from.start)) name ≡ krate

abbrev pub IsOfSource : TablesValue → Workspace → Beginning → CollectedValue → ImportDirective → ImportSource → Type 0
IsOfSource tables w from answer r (sources.Use id kind) = IsLeaf tables w answer r id kind
IsOfSource tables w from answer r (sources.ExternCrate id krate) = IsExternCrate tables w from answer r id krate

-- an import is written so
pub record IsImport (tables : TablesValue) (w : Workspace) (from : Beginning) (answer : CollectedValue) (r : ImportDirective) : Type 0 where
  pub of_source : IsOfSource tables w from answer r r.source

-- each import that a run came upon is a leaf of a `use` item at its own place, or an `extern crate` item
abbrev pub ImportsAreWritten : Type 0
ImportsAreWritten = (tables : TablesValue) (w : Workspace) (finished : Maps) (from : Beginning) (answer : CollectedValue)
    → (ends : Ends tables w finished from answer) → (r : ImportDirective) → Contains ends.last.core.reached r → IsImport tables w from answer r

-- an import of a run that is written, of which something holds
pub record HasImport (tables : TablesValue) (w : Workspace) (from : Beginning) (answer : CollectedValue) (P : ImportDirective → Type 0) : Type 0 where
  pub directive : ImportDirective
  pub is_import : IsImport tables w from answer directive
  pub is_such : P directive

-- so is each that is left over
abbrev pub LeftoversAreWritten : Type 0
LeftoversAreWritten = (tables : TablesValue) (w : Workspace) (finished : Maps) (from : Beginning) (answer : CollectedValue) → Ends tables w finished from answer
    → (way : ImportOrExternCrate) → Contains answer.leftover way → HasImport tables w from answer (λ r. told_of r.source ≡ way)

-- and each glob that was recorded
abbrev pub GlobsAreWritten : Type 0
GlobsAreWritten =
    (tables : TablesValue) (w : Workspace) (finished : Maps) (from : Beginning) (answer : CollectedValue) → (ends : Ends tables w finished from answer)
    → (edge : Edge) → Contains ends.last.core.globs.edges edge → HasImport tables w from answer (λ r. (glob_of r.source ≡ Some edge.id)
    × (r.home ≡ edge.importer))

-- ---- bindings

-- an import is what brought a binding; a glob brings what its target shows
abbrev pub Brings : ImportDirective → ImportOrExternCrate → Type 0
Brings r (ways.Import id) = way_of r.source ≡ ways.Import id
Brings r (ways.Glob id) = glob_of r.source ≡ Some id
Brings r (ways.ExternCrate id) = way_of r.source ≡ ways.ExternCrate id

-- the same of values
abbrev pub BringsValue : ImportDirective → ImportOrGlob → Type 0
BringsValue r (value_ways.Import id) = way_of r.source ≡ ways.Import id
BringsValue r (value_ways.Glob id) = glob_of r.source ≡ Some id

-- what a name of a module stands for was declared, or was brought by an import that is written in the module
pub record AreBrought (tables : TablesValue) (w : Workspace) (from : Beginning) (answer : CollectedValue) (number : ℕ) (items : PerNs) : Type 0 where
  pub types : (i : Item ModuleDefId ImportOrExternCrate) (way : ImportOrExternCrate) → items.types ≡ Some i → i.import ≡ Some way
      → HasImport tables w from answer (λ r. Brings r way × (r.home ≡ number))
  pub values : (i : Item ModuleDefId ImportOrGlob) (way : ImportOrGlob) → items.values ≡ Some i → i.import ≡ Some way
      → HasImport tables w from answer (λ r. BringsValue r way × (r.home ≡ number))
  pub macros : (i : Item MacroId ImportOrExternCrate) (way : ImportOrExternCrate) → items.macros ≡ Some i → i.import ≡ Some way
      → HasImport tables w from answer (λ r. Brings r way × (r.home ≡ number))

-- so is each binding of a run's map
abbrev pub BindingsAreWritten : Type 0
BindingsAreWritten = (tables : TablesValue) (w : Workspace) (finished : Maps) (from : Beginning) (answer : CollectedValue) → Ends tables w finished from answer
    → (number : ℕ) (name : List ℕ) → AreBrought tables w from answer number (entry_at answer.map number name)

-- an import is a `use .. as _`
pub record IsUnderscoreImport (r : ImportDirective) (id : ImportId) : Type 0 where
  pub way : way_of r.source ≡ ways.Import id
  pub alias : r.alias ≡ Some Underscore

-- a trait that a module has without a name is one that a `use .. as _` which is written in the module keeps, or a glob which is
-- written there brought it
pub record IsTraitBrought (tables : TablesValue) (w : Workspace) (from : Beginning) (answer : CollectedValue) (number : ℕ)
    (item : Item (Unit {0}) ImportId) : Type 0 where
  pub by_import : (id : ImportId) → item.import ≡ Some id → HasImport tables w from answer (λ r. IsUnderscoreImport r id × (r.home ≡ number))
  pub by_glob : item.import ≡ None → HasImport tables w from answer (λ r. IsSome (glob_of r.source) × (r.home ≡ number))

-- so is each such trait of a run's map
abbrev pub UnnamedTraitsAreWritten : Type 0
UnnamedTraitsAreWritten =
    (tables : TablesValue) (w : Workspace) (finished : Maps) (from : Beginning) (answer : CollectedValue) → Ends tables w finished from answer
    → (number : ℕ) (m : ModuleValue) → module_at answer.map number ≡ Some m → (id : TraitId) (item : Item (Unit {0}) ImportId) → Contains m.scope.unnamed_traits
    (id, item)
    → IsTraitBrought tables w from answer number item
