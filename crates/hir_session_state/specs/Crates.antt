-- What is a crate of a session?
use Rattle.std.specs.Prelude.{◌≡◌, ℕ, false, List, [], length, map, Option, None, Some, option_map, slice_get, slice_index_or, slice_set}
use Rattle.hir_collector_rules.specs.HirItemTree.Attributes.{no_attributes}
use Rattle.hir_collector_rules.specs.HirBase.declared.tree_id.TreeId.{TreeId}
use Rattle.hir_collector_rules.specs.HirIds.declared.ast_id.BlockId.{BlockId}
use Rattle.hir_collector_rules.specs.HirBase.declared.cfg.CfgAtom.{CfgAtom}
use Rattle.hir_collector_rules.specs.HirIds.declared.ids.Crate.{Crate}
use Rattle.hir_collector_rules.specs.HirIds.declared.ast_id.EditionedFileId.{EditionedFileId}
use Rattle.hir_collector_rules.specs.HirIds.declared.ast_id.FileId.{FileId}
use Rattle.hir_collector_rules.specs.HirIds.declared.ids.MapId.{MapId}
use Rattle.hir_collector_rules.specs.HirIds.declared.ids.ModuleId.{ModuleId}
use Rattle.hir_collector_rules.specs.HirIds.declared.ast_id.SyntaxId.{SyntaxId}
use Rattle.hir_collector_rules.specs.HirIds.declared.ast_id.HirFileId.TheVariants.{File}
use Rattle.hir_collector_rules.specs.HirIds.declared.edition.Edition.TheVariants.{Edition2024}
use Rattle.hir_collector_rules.specs.HirCrateGraph.Dependencies.{AreTransitive, transitive_dependencies}
use Rattle.hir_collector_rules.specs.HirDefMapRules.State.{crate_map}
use Rattle.hir_collector_rules.specs.Workspace.{ConfigValue, direct_by, named_by}
use Rattle.hir_collector_rules.specs.Start.{Beginning, beginning}
use Rattle.hir_collector_rules.specs.declared.source_database.CrateRoot.{CrateRoot}
use Rattle.hir_collector_rules.specs.declared.start.Start.TheVariants as starts

-- its root, what else it was handed in with, and the number of its root file
pub record CrateValue : Type 0 where
  pub own : CrateRoot
  pub config : ConfigValue
  pub file : FileId

-- what stands for a crate that isn't there
abbrev pub no_crate : CrateValue
no_crate = record {
  own = record { root = []; is_proc_macro = false };
  config = record { edition = Edition2024; attributes = no_attributes; dependencies = []; options = [] };
  file = record { 0 = 0 };
}

-- the crate of this number
abbrev pub crate_in : List CrateValue → ℕ → CrateValue
crate_in crates k = slice_index_or crates k no_crate

-- what a crate was handed in with, where it is there
abbrev pub config_in : List CrateValue → Crate → Option ConfigValue
config_in crates krate = option_map (λ c. c.config) (slice_get crates krate.0)

-- the crates that one names as dependencies
abbrev pub named_in : List CrateValue → ℕ → List Crate
named_in crates k = named_by (config_in crates) k

-- the crates on which one depends directly
abbrev pub dependencies_in : List CrateValue → ℕ → List Crate
dependencies_in crates k = direct_by (config_in crates) k

-- those on which it depends directly or through others, by number
abbrev pub transitive_in : List CrateValue → ℕ → List Crate
transitive_in crates k = transitive_dependencies (dependencies_in crates) k

-- each list is that of the crate of its number
pub record AreTransitiveOf (crates : List CrateValue) (lists : List (List Crate)) : Type 0 where
  pub count : length lists ≡ length crates
  pub each : AreTransitive (dependencies_in crates) lists

-- the id of the map of the crate of this number
abbrev pub id_of : ℕ → MapId
id_of k = crate_map (record { 0 = k })

-- the maps of the crates on which a crate directly depends
abbrev pub dependency_maps : List CrateValue → Crate → List MapId
dependency_maps crates krate = map crate_map (dependencies_in crates krate.0)

-- the crates where the one of this number was handed in with this
abbrev pub with_config : List CrateValue → ℕ → ConfigValue → List CrateValue
with_config crates k config = slice_set crates k (record (crate_in crates k) { config = config })

-- the options that are set in it
abbrev pub options_in : List CrateValue → ℕ → List CfgAtom
options_in crates k = (crate_in crates k).config.options

-- its root file, in its edition
abbrev pub root_of : CrateValue → EditionedFileId
root_of c = record { file_id = c.file; edition = c.config.edition }

-- the tree of a root file
abbrev pub tree_of_root : EditionedFileId → TreeId
tree_of_root root = record { file = File root; block = None }

-- what the run for a crate with this root begins with
abbrev pub begins_at : Crate → EditionedFileId → Beginning
begins_at krate root = beginning (starts.Crate krate root) (tree_of_root root) None

-- what the run for the crate of this number begins with
abbrev pub beginning_in : List CrateValue → ℕ → Beginning
beginning_in crates k = begins_at (record { 0 = k }) (root_of (crate_in crates k))

-- what the run for a block begins with: its number, the module that holds it, the file of that module, and its node there
abbrev pub begins_in_block : Crate → BlockId → ModuleId → EditionedFileId → SyntaxId → Beginning
begins_in_block krate b holder file id =
    beginning (starts.Block krate b holder (record { file_id = File file; value = id })) (record { file = File file; block = Some b }) None
