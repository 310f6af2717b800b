-- What is lowered anew of sources where a crate is handed in with other data? No public clause speaks of this.
use Rattle.std.specs.Prelude.{◌≡◌, ◌⊎◌, false, nat_eq, List, [], ◌∷◌, ◌++◌, Some, None, option_map, Contains}
use Rattle.hir_session_state.specs.HirBase.CfgOptions.{SetAlike, is_set}
use Rattle.hir_session_state.specs.HirIds.declared.ids.Crate.{Crate}
use Rattle.hir_session_state.specs.HirItemTree.SourceTree.{SourceTreeValue, source_tree_of}
use Rattle.hir_session_state.specs.HirTables.SourcePlaces.{SourcePlaceValue, block, expansion, expansion_value, file}
use Rattle.hir_session_state.specs.HirCollectorRules.Workspace.{ConfigValue}
use Rattle.hir_session_state.specs.Crates.{CrateValue}
use Rattle.hir_session_state.specs.SourceTable.{SourceTable, front_in, source_at}
use Rattle.hir_session_sources.specs.SourceTrees.{tree_in}
use Rattle.hir_session_sources.specs.declared.source_trees.SourceTrees.{SourceTrees}
use Rattle.hir_session_sources.specs.declared.source_trees.lowering.KeptPlace.{KeptPlace}
use Rattle.hir_session_sources.specs.declared.source_trees.lowering.KeptPlace.TheVariants.{File, Block, Expansion}
use Rattle.hir_session_sources.specs.declared.source_trees.lowering.LoweredTree.{LoweredTree}

-- where a source stands
abbrev pub kept_place : KeptPlace → SourcePlaceValue
kept_place (File path) = file path
kept_place (Block place) = block place
kept_place (Expansion key) = expansion (expansion_value key)

-- what the source at a place has under a crate
abbrev pub tree_for : CrateValue → SourceTable → SourcePlaceValue → SourceTreeValue
tree_for c t place = source_tree_of (is_set c.config.options) (front_in c place) (source_at t place)

-- sources have the same under crates of one root that are handed in so
pub record LowerAlike (one other : ConfigValue) : Type 0 where
  pub attributes : one.attributes ≡ other.attributes
  pub options : SetAlike one.options other.options

-- it is what its source has under the crate
abbrev pub IsTreeFor : CrateValue → SourceTable → LoweredTree → Type 0
IsTreeFor c t lowered = lowered.tree.value ≡ tree_for c t (kept_place lowered.place)

-- the source at the place is lowered for the crate, or nothing is kept of it
pub data MayLower (c : CrateValue) (t : SourceTable) (krate : Crate) (trees : SourceTrees) (place : SourcePlaceValue)
    (old new : List LoweredTree) : Type 0 where
  lowers : (lowered : LoweredTree) → kept_place lowered.place ≡ place → IsTreeFor c t lowered → new ≡ old ++ lowered ∷ []
      → MayLower c t krate trees place old new
  leaves : tree_in trees place krate ≡ None → new ≡ old → MayLower c t krate trees place old new

-- the source at the place is among those that were lowered
pub record HasLowered (lowered : List LoweredTree) (place : SourcePlaceValue) : Type 0 where
  pub is : LoweredTree
  pub among : Contains lowered is
  pub at : kept_place is.place ≡ place

-- each is what its source has under the crate that is handed in so, and all that is kept under it is among them, or is that already
pub record AreLowered (c : CrateValue) (t : SourceTable) (krate : Crate) (trees : SourceTrees) (lowered : List LoweredTree) : Type 0 where
  pub each : (l : LoweredTree) → Contains lowered l → IsTreeFor c t l
  pub all : (place : SourcePlaceValue) (tree : SourceTreeValue) → tree_in trees place krate ≡ Some tree
      → (tree ≡ tree_for c t place) ⊎ HasLowered lowered place

-- where something was kept of a source under the crate, what the source has under the crate that is handed in so is kept,
-- and where nothing was nothing is; under each other crate all is as it was
pub record AreLoweredAnew (c : CrateValue) (t : SourceTable) (krate : Crate) (old new : SourceTrees) : Type 0 where
  pub own : (place : SourcePlaceValue) → tree_in new place krate ≡ option_map (λ _. tree_for c t place) (tree_in old place krate)
  pub others : (place : SourcePlaceValue) (other : Crate) → nat_eq krate.0 other.0 ≡ false → tree_in new place other ≡ tree_in old place other
