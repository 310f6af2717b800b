-- Where a run begins.
use Rattle.std.specs.Prelude.{Bool, false, ◌||◌, is_some, List, [], ◌∷◌, ◌++◌, map, Option, None, Some, option_map, if◌then◌else◌}
use Rattle.hir_nameres.specs.HirIds.declared.ast_id.BlockId.{BlockId}
use Rattle.hir_nameres.specs.HirBase.declared.cfg.CfgAtom.{CfgAtom}
use Rattle.hir_nameres.specs.HirIds.declared.ids.Crate.{Crate}
use Rattle.hir_nameres.specs.HirIds.declared.ids.MapId.{MapId}
use Rattle.hir_nameres.specs.HirIds.declared.ids.ModuleId.{ModuleId}
use Rattle.hir_nameres.specs.HirIds.declared.ids.UseId.{UseId}
use Rattle.hir_nameres.specs.HirIds.declared.edition.Edition.TheVariants.{Edition2024}
use Rattle.hir_item_tree.specs.Collected.{is_enabled}
use Rattle.hir_item_tree.specs.ItemTree.{Tree}
use Rattle.hir_nameres.specs.HirIds.declared.explicitness.VisibilityExplicitness.TheVariants.{Implicit}
use Rattle.hir_nameres.specs.HirBase.declared.tree_id.TreeId.{TreeId}
use Rattle.hir_nameres.specs.HirBase.declared.tree_id.TreeKey.{TreeKey}
use Rattle.hir_mod_dir.specs.ModuleFiles.{root as root_directory}
use Rattle.hir_nameres.specs.HirPerNs.declared.visibility.Visibility.{Visibility}
use Rattle.hir_nameres.specs.HirPerNs.declared.visibility.Visibility.TheVariants as visibilities
use Rattle.hir_tables.specs.Tables.{TablesValue}
use Rattle.hir_nameres.specs.WorldParts.{among}
use Rattle.hir_nameres.specs.HirDefMapRules.References.{crate_map}
use Rattle.hir_nameres.specs.HirDefMapRules.State.{CrateData, Local, Map, empty_map, map_id_of, new_module, with_prelude}
use Rattle.hir_nameres.specs.HirDefMapRules.Overlay.{Maps, Placed, holders_of, map_in}
use Rattle.hir_nameres.specs.HirDefMapRules.Scoping.Asking.{local_of}
use Rattle.hir_nameres.specs.HirMapParts.declared.block_info.BlockInfo.{BlockInfo}
use Rattle.hir_nameres.specs.HirMapParts.declared.origin.ModuleOrigin.{ModuleOrigin}
use Rattle.hir_nameres.specs.HirMapParts.declared.origin.ModuleOrigin.TheVariants as origins
use Rattle.hir_collector_rules.specs.declared.start.Start.{Start}
use Rattle.hir_collector_rules.specs.declared.start.Start.TheVariants as starts
use Rattle.hir_collector_rules.specs.declared.site.Site.{Site}
use Rattle.hir_collector_rules.specs.declared.source_database.Key.{Key}
use Rattle.hir_collector_rules.specs.declared.source_database.Key.TheVariants as keys
use Rattle.hir_collector_rules.specs.declared.source_database.CrateRoot.{CrateRoot}
use Rattle.hir_collector_rules.specs.declared.source_database.Dependency.{Dependency}
use Rattle.hir_collector_rules.specs.Workspace.{ConfigValue, Workspace, crate_in, dependencies_of, options_of, transitive_dependencies_in}
use Rattle.hir_collector_rules.specs.Keys.{map_key, tree_at}
use Rattle.hir_collector_rules.specs.CrateTop.{crate_data_of}
use Rattle.hir_collector_rules.specs.Preludes.{extern_prelude, prelude_of, with_prelude_macros}
use Rattle.hir_collector_rules.specs.ModuleFiles.{file_of_tree}
use Rattle.hir_collector_rules.specs.State.{Core, State, Task, joined, no_recorded_globs, visits_over}

-- what a run begins with: where, the tree that it walks, and of a block the crates that paths of its crate may begin with
pub record Beginning : Type 0 where
  pub start : Start
  pub tree : TreeId
  pub local : Option Local

abbrev pub beginning : Start → TreeId → Option Local → Beginning
beginning start tree local = record { start = start; tree = tree; local = local }

-- ---- what the start says

-- the crate
abbrev pub krate_of : Start → Crate
krate_of (starts.Crate krate root) = krate
krate_of (starts.Block krate block holder at) = krate

-- the block and the module that holds it, if it is one
abbrev pub block_of : Start → Option BlockInfo
block_of (starts.Crate krate root) = None
block_of (starts.Block krate block holder at) = Some (record { block = block; parent = holder })

-- the module that holds it
abbrev pub holder_of : Start → Option ModuleId
holder_of start = option_map (λ (b : BlockInfo). b.parent) (block_of start)

-- what the root module is of
abbrev pub origin_of : Start → ModuleOrigin
origin_of (starts.Crate krate root) = origins.CrateRoot root
origin_of (starts.Block krate block holder at) = origins.BlockExpr block at

-- who sees the root module: of a block what sees into the module that holds it
abbrev pub root_visibility : Start → Visibility
root_visibility (starts.Crate krate root) = visibilities.Public
root_visibility (starts.Block krate block holder at) = visibilities.Module holder Implicit

-- the map that is made
abbrev pub id_of : Start → MapId
id_of start = map_id_of (krate_of start) (block_of start)

-- ---- the tree

-- where the items of the tree are written
abbrev pub root_site : TreeId → Site
root_site tree = record { home = 0; tree = tree; file = file_of_tree tree; extern_block = None; dir = root_directory; level = 0 }

-- its key
abbrev pub tree_key : Start → TreeId → TreeKey
tree_key start tree = record { krate = krate_of start; id = tree }

abbrev pub root_key : Start → TreeId → Key
root_key start tree = keys.Tree (tree_key start tree)

-- what is kept of it
abbrev pub root_tree : TablesValue → Workspace → Beginning → Tree
root_tree tables w from = (tree_at tables w (tree_key from.start from.tree)).tree

-- ---- what holds a block

-- the modules that hold a block, the innermost first; none holds a crate
abbrev pub held_by : Maps → Option BlockInfo → List ModuleId
held_by finished None = []
held_by finished (Some b) = b.parent ∷ holders_of (finished b.parent.map)

abbrev pub holders_by : Maps → Start → List ModuleId
holders_by finished start = held_by finished (block_of start)

-- the keys of the maps in which modules lie
abbrev pub holder_keys : List ModuleId → List Key
holder_keys holders = map (λ (h : ModuleId). keys.Map h.map) holders

-- the keys that a block asks for besides its tree: the map of its crate, and those in which the modules lie that hold it
abbrev pub held_keys : Start → List ModuleId → List Key
held_keys (starts.Crate krate root) holders = []
held_keys (starts.Block krate block holder at) holders = map_key krate ∷ holder_keys holders

-- ---- the first state

-- what the map of a crate says of it, with these transitive dependencies; where it isn't there, what a crate says without attributes
abbrev pub data_beside : Option Map → List Crate → CrateData
data_beside None transitive = crate_data_of Edition2024 [] transitive
data_beside (Some m) transitive = record m.crate_data { dependencies = transitive }

-- what the crate's top says, and the crates on which it depends; a block has what its crate's map has
abbrev pub start_data : Maps → Tree → List Crate → Start → CrateData
start_data finished tree transitive (starts.Crate krate root) = crate_data_of root.edition tree.attributes.attributes transitive
start_data finished tree transitive (starts.Block krate block holder at) = data_beside (map_in finished (crate_map krate)) transitive

-- the crates that paths may begin with; in a block those of its crate's map
abbrev pub start_local : Maps → CrateData → List Dependency → Start → Local
start_local finished crate_data dependencies (starts.Crate krate root) = extern_prelude crate_data [] dependencies
start_local finished crate_data dependencies (starts.Block krate block holder at) = local_of (option_map (λ (p : Placed). p.local) (finished (crate_map krate)))

-- the map with its root module alone
abbrev pub root_map : CrateData → Start → Map
root_map crate_data start = empty_map (krate_of start) crate_data (new_module (origin_of start) (root_visibility start) None) (block_of start)

-- the prelude module; a block has none of its own
abbrev pub own_prelude : Maps → Map → Local → Start → Option (ModuleId × Option UseId)
own_prelude finished m local (starts.Crate krate root) = prelude_of finished m local
own_prelude finished m local (starts.Block krate block holder at) = None

-- the map with it, and with the macros that come with it
abbrev pub with_own_prelude : Maps → Map → Local → Start → Map
with_own_prelude finished m local start = with_prelude_macros finished (with_prelude m (own_prelude finished m local start))

-- the root module, and what all modules find; its tree asked for, and the maps of what holds a block
abbrev pub core_by : Maps → CrateData → Local → List Dependency → List CfgAtom → Bool → List ModuleId → Start → TreeId → Core
core_by finished crate_data local dependencies options is_proc_macro holders start id = record {
  map = with_own_prelude finished (root_map crate_data start) local start;
  local = local;
  dependencies = dependencies;
  options = options;
  globs = no_recorded_globs;
  reached = [];
  taken = [];
  calls = [];
  fates = [];
  eager = [];
  settled = 0;
  is_proc_macro = is_proc_macro;
  exported = [];
  asked = root_key start id ∷ held_keys start holders;
  count = 0;
}

-- the same over this tree, of a crate that was handed in so, with these transitive dependencies
abbrev pub core_of : Maps → Tree → Bool → Option ConfigValue → List Crate → List ModuleId → Start → TreeId → Core
core_of finished tree is_proc_macro config transitive holders start id =
    let crate_data = start_data finished tree transitive start in
    core_by finished crate_data (start_local finished crate_data (dependencies_of config) start) (dependencies_of config) (options_of config) is_proc_macro
    holders start id

-- whether a crate is a procedural macro's; one that isn't there is none
abbrev pub is_proc_macro_by : Option CrateRoot → Bool
is_proc_macro_by None = false
is_proc_macro_by (Some c) = c.is_proc_macro

-- whether functions of the root export macros: those of a procedural-macro crate, and none of a block
abbrev pub exports_macros : Start → Option CrateRoot → Bool
exports_macros (starts.Crate krate root) c = is_proc_macro_by c
exports_macros (starts.Block krate block holder at) c = false

-- whether the items of a tree are declared: those of a file that is disabled at its top are not, and those of a block always are
abbrev pub is_declared : TreeId → Tree → Bool
is_declared id tree = is_some id.block || is_enabled tree.attributes

-- the items of a tree that is written at a site, if they are declared
abbrev pub tree_visits : Site → Tree → List Task
tree_visits site tree = if is_declared site.tree tree then visits_over site tree.items else []

-- the same, the items of the tree still to be visited
abbrev pub start_by : Maps → Tree → Bool → Option ConfigValue → List Crate → List ModuleId → Start → TreeId → State
start_by finished tree is_proc_macro config transitive holders start id =
    joined (core_of finished tree is_proc_macro config transitive holders start id) (tree_visits (root_site id) tree)

-- the start over a workspace, of a crate with these transitive dependencies, held by these modules, beside the maps that it may read
abbrev pub began : TablesValue → Workspace → Maps → List Crate → List ModuleId → Start → TreeId → State
began tables w finished transitive holders start id =
    start_by finished (tree_at tables w (tree_key start id)).tree (exports_macros start (crate_in w (krate_of start))) (w.config (krate_of start)) transitive
    holders start id

-- the start of a run that these modules hold
abbrev pub start_of : TablesValue → Workspace → Maps → List ModuleId → Beginning → State
start_of tables w finished holders from = began tables w finished (transitive_dependencies_in w (krate_of from.start)) holders from.start from.tree

-- the finished maps that a run reads: those of the crates on which its crate depends, and those in which the modules lie that hold it
abbrev pub read_by : Workspace → Maps → Start → Maps
read_by w finished start = among (transitive_dependencies_in w (krate_of start)) (holders_by finished start) finished

-- the start of a run beside finished maps
abbrev pub begin_of : TablesValue → Workspace → Maps → Beginning → State
begin_of tables w finished from = start_of tables w (read_by w finished from.start) (holders_by finished from.start) from
