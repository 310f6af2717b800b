-- Which glob brought a name, and what does its source show now?
use Rattle.std.specs.Prelude.{◌≡◌, ◌≢◌, ℕ, Bool, true, false, List, Option, None, Some, option_and_then, slice_get}
use Rattle.hir_collector_rules.specs.HirIds.declared.ids.Crate.{Crate}
use Rattle.hir_collector_rules.specs.HirPerNs.Imports.{as_item_import, glob_of}
use Rattle.hir_collector_rules.specs.HirPerNs.ModuleTree.{same_crate}
use Rattle.hir_collector_rules.specs.HirPerNs.PerNs.{Item}
use Rattle.hir_collector_rules.specs.HirPerNs.declared.imports.GlobId.{GlobId}
use Rattle.hir_collector_rules.specs.HirPerNs.declared.imports.ImportOrGlob.{ImportOrGlob}
use Rattle.hir_collector_rules.specs.HirPerNs.declared.per_ns.PerNs.{PerNs}
use Rattle.hir_collector_rules.specs.HirPerNs.declared.visibility.Visibility.{Visibility}
use Rattle.hir_collector_rules.specs.HirPerNs.declared.visibility.Visibility.TheVariants.{Module, PubCrate, Public}
use Rattle.hir_collector_rules.specs.HirDefMapRules.Overlay.{Maps}
use Rattle.hir_collector_rules.specs.HirDefMapRules.State.{entry_at}
use Rattle.hir_collector_rules.specs.HirGlobImports.Keys.{slot_at}
use Rattle.hir_collector_rules.specs.HirGlobImports.Moves.{brought_vis, shown}
use Rattle.hir_collector_rules.specs.HirGlobImports.View.{View, bound_in}
use Rattle.hir_collector_rules.specs.HirGlobImports.declared.edge.Bound.{Bound}
use Rattle.hir_collector_rules.specs.HirGlobImports.declared.edge.Brought.{Brought}
use Rattle.hir_collector_rules.specs.HirGlobImports.declared.edge.Edge.{Edge}
use Rattle.hir_collector_rules.specs.HirGlobImports.declared.edge.Key.{Key}
use Rattle.hir_collector_rules.specs.HirGlobImports.declared.edge.Key.TheVariants.{Types, Values, Macros, Unnamed}
use Rattle.hir_collector_rules.specs.HirImportRules.Names.{view_of}
use Rattle.hir_collector_rules.specs.HirImportRules.State.{scopes_of}
use Rattle.hir_collector_rules.specs.HirTables.Tables.{TablesValue}
use Rattle.hir_collector_rules.specs.Derivation.{CollectedValue, Ends}
use Rattle.hir_collector_rules.specs.Start.{Beginning, read_by}
use Rattle.hir_collector_rules.specs.State.{State, import_state}
use Rattle.hir_collector_rules.specs.Workspace.{Workspace}

-- the glob that brought an item, if one did
abbrev pub glob_by : {D I : Type 0} → (I → Option GlobId) → Option (Item D I) → Option GlobId
glob_by glob None = None
glob_by glob (Some item) = option_and_then glob item.import

-- the glob that brought a value
abbrev pub glob_of_value : ImportOrGlob → Option GlobId
glob_of_value way = glob_of (as_item_import way)

-- the glob that brought what stands at a key, where names stand for this; a trait without a name doesn't say what brought it
abbrev pub glob_at : (List ℕ → PerNs) → Key → Option GlobId
glob_at entries (Types name) = glob_by glob_of (entries name).types
glob_at entries (Values name) = glob_by glob_of_value (entries name).values
glob_at entries (Macros name) = glob_by glob_of (entries name).macros
glob_at entries (Unnamed id) = None

-- a glob brought what stands at a key of a module
pub record IsBrought (s : State) (number : ℕ) (key : Key) (id : GlobId) : Type 0 where
  -- it was recorded as an edge into the module
  pub place : ℕ
  pub edge : Edge
  pub recorded : slice_get s.core.globs.edges place ≡ Some edge
  pub is_glob : edge.id ≡ id
  pub into : edge.importer ≡ number
  -- and that edge brought it, as it saw it last
  pub last : Brought
  pub brought : s.core.globs.brought (slot_at number key) ≡ Some last
  pub along : last.edge ≡ place

-- ---- what its source shows now

-- what globs see of a map where a run stands
abbrev pub view_in : Maps → State → View
view_in finished s = view_of (scopes_of finished (import_state s))

-- whether all may see, or all of a crate
abbrev pub is_open_in : Option Crate → Visibility → Bool
is_open_in within Public = true
is_open_in None (PubCrate c) = false
is_open_in (Some krate) (PubCrate c) = same_crate c krate
is_open_in within (Module m explicitness) = false

-- an edge saw this, and had the visibility that it has
pub record WasSeen (last : Brought) (edge : Edge) (b : Bound) : Type 0 where
  pub seen : last.seen ≡ b
  pub under : last.edge_vis ≡ edge.vis

-- another edge into the module shows the same definition
pub record AlsoShows (v : View) (s : State) (number : ℕ) (key : Key) (along : ℕ) (bound : Bound) (other : Edge) (b : Bound) : Type 0 where
  pub place : ℕ
  pub recorded : slice_get s.core.globs.edges place ≡ Some other
  pub apart : along ≢ place
  pub into : other.importer ≡ number
  pub shows : shown v other key ≡ Some b
  pub same : bound.def ≡ b.def

-- what a glob brought to a key of a module is what the glob's source shows
pub record IsAsShown (v : View) (s : State) (number : ℕ) (key : Key) (id : GlobId) : Type 0 where
  pub by : IsBrought s number key id
  -- it stands there, with the definition that the edge saw last
  pub bound : Bound
  pub stands : bound_in v (slot_at number key) ≡ Some bound
  pub def : bound.def ≡ by.last.seen.def
  -- if the source shows the module anything now, the edge saw just this, and then had the visibility that it has now
  pub now : (b : Bound) → shown v by.edge key ≡ Some b → WasSeen by.last by.edge b
  -- where all may see that, or all of a crate, and the edge lets them, they may see this
  pub kept_open : (b : Bound) → shown v by.edge key ≡ Some b → (within : Option Crate) → is_open_in within b.vis ≡ true → is_open_in within by.edge.vis ≡ true
      → is_open_in within bound.vis ≡ true
  -- no other edge that shows the same definition would give it a greater visibility
  pub widest : (other : Edge) (b : Bound) → AlsoShows v s number key by.place bound other b
      → (wide : Visibility) → v.greater bound.vis (brought_vis v other b) ≡ Some wide → wide ≡ bound.vis

-- each name that a glob brought in a run is what the glob's source shows now
abbrev pub GlobsBringWhatIsShown : Type 0
GlobsBringWhatIsShown =
    (tables : TablesValue) (w : Workspace) (finished : Maps) (from : Beginning) (answer : CollectedValue) → (ends : Ends tables w finished from answer)
    → (number : ℕ) (key : Key) (id : GlobId) → glob_at (entry_at answer.map number) key ≡ Some id
    → IsAsShown (view_in (read_by w finished from.start) ends.last) ends.last number key id
