-- What is handed in beside the crates?
use Rattle.std.specs.Prelude.{ℕ, nat_eq, cond, List, Option, map}
use Rattle.std.specs.Cmp.Lexicographic.{pointwise}
use Rattle.hir_collector_rules.specs.HirBase.CfgOptions.{is_set}
use Rattle.hir_collector_rules.specs.HirItemTree.Attributes.{Attributes, no_attributes}
use Rattle.hir_collector_rules.specs.HirItemTree.Source.{SourceValue}
use Rattle.hir_collector_rules.specs.HirItemTree.SourceTree.{SourceTreeValue, source_tree_of}
use Rattle.hir_collector_rules.specs.HirTables.SourcePlaces.{SourcePlaceValue, file, block, expansion}
use Rattle.hir_collector_rules.specs.Workspace.{Workspace}
use Rattle.hir_session_state.specs.Crates.{CrateValue, config_in, crate_in, options_in}
use Rattle.hir_session_state.specs.Blocks.{Blocks, block_in, place_of_block}
use Rattle.hir_session_state.specs.Files.{Files, file_at}
use Rattle.hir_session_state.specs.Entries.{Entries, entry_at, look_of, source_of}

-- the files, the blocks and the expansions that are there
pub record SourceTable : Type 0 where
  pub files : Files
  pub blocks : Blocks
  pub entries : Entries

-- the source that stands at a place, if one does
abbrev pub source_at : SourceTable → SourcePlaceValue → Option SourceValue
source_at t (file path) = file_at t.files path
source_at t (block place) = block_in t.blocks (place_of_block place)
source_at t (expansion key) = source_of (entry_at t.entries key)

-- the attributes of a crate that stand in front of those at the top of a source: at its root file those that were handed in
abbrev pub front_in : CrateValue → SourcePlaceValue → Attributes
front_in c (file path) = cond (pointwise nat_eq c.own.root path) c.config.attributes no_attributes
front_in c (block place) = no_attributes
front_in c (expansion key) = no_attributes

-- what a source has under a crate, at its place: options and attributes at the root's top differ by crate
abbrev pub tree_under : List CrateValue → ℕ → SourcePlaceValue → Option SourceValue → SourceTreeValue
tree_under crates k place source = source_tree_of (is_set (options_in crates k)) (front_in (crate_in crates k) place) source

-- the workspace for which crates and sources stand
abbrev pub workspace_in : List CrateValue → SourceTable → Workspace
workspace_in crates t = record {
  crates = map (λ c. c.own) crates;
  config = config_in crates;
  tree = λ krate place. tree_under crates krate.0 place (source_at t place);
  entry = λ key. look_of (entry_at t.entries key);
}
