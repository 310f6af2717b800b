-- What does a session keep of its sources beside them? No public clause speaks of this.
use Rattle.std.specs.Prelude.{◌≡◌, ℕ, nat_eq, Bool, false, ◌&&◌, is_some, List, Option, Some, None, option_map, if◌then◌else◌}
use Rattle.std.specs.Option.{option_and_then}
use Rattle.std.specs.BTreeMap.{BTreeMap, get, is_at}
use Rattle.std.specs.Cmp.Lexicographic.{slice_cmp}
use Rattle.std.specs.Map.{lookup}
use Rattle.std.specs.Ordering.{nat_cmp}
use Rattle.std.specs.Coded.{Coded-set}
use Rattle.std.specs.declared.alloc.Global.{Global}
use Rattle.std.specs.declared.rc.Rc.{Rc}
use Rattle.hir_session_state.specs.HirIds.declared.ids.Crate.{Crate}
use Rattle.hir_session_state.specs.HirIds.contracts.ids.CrateOrd.TheImpl as crate_order
use Rattle.hir_session_state.specs.HirBase.contracts.place.BlockPlaceOrd.TheImpl as block_order
use Rattle.hir_session_state.specs.HirItemTree.SideCodes.{coded_source_tree}
use Rattle.hir_session_state.specs.HirItemTree.Source.{SourceValue}
use Rattle.hir_session_state.specs.HirItemTree.SourceTree.{SourceTreeValue}
use Rattle.hir_session_state.specs.HirTables.SourcePlaces.{SourcePlaceValue, file, block, expansion}
use Rattle.hir_session_state.specs.HirCollectorRules.Workspace.{Workspace}
use Rattle.hir_session_state.specs.Crates.{CrateValue}
use Rattle.hir_session_state.specs.Entries.{by_value, expansion_cmp}
use Rattle.hir_session_state.specs.SourceTable.{tree_under}
use Rattle.hir_session_sources.specs.ByCrate.{ByCrate, entries_under}
use Rattle.hir_session_sources.specs.declared.source_trees.SourceTrees.{SourceTrees}

-- what one source has under crates, by crate
abbrev pub CrateTrees : Type 0
CrateTrees = BTreeMap Crate (Rc SourceTreeValue Global)

-- what it has under a crate, if that is kept
abbrev pub tree_by : CrateTrees → Crate → Option SourceTreeValue
tree_by trees krate = option_map (λ t. t.value) (get crate_order.ghosts.cmp trees krate)

-- what a file has under a crate
abbrev pub file_tree : BTreeMap (List ℕ) CrateTrees → List ℕ → Crate → Option SourceTreeValue
file_tree files path krate = option_and_then (λ kept. tree_by kept krate) (lookup (is_at (slice_cmp nat_cmp path)) files.entries)

-- whether a crate lists a file
abbrev pub is_listed : {V : Type 0} → ByCrate (List ℕ) V → List ℕ → Crate → Bool
is_listed paths path krate = is_some (lookup (is_at (slice_cmp nat_cmp path)) (entries_under paths krate))

-- what is kept of the source at a place under a crate: of a file what it has under one that lists it, of a block what it has under
-- its own, and of an expansion what it has under the crate that calls
abbrev pub tree_in : SourceTrees → SourcePlaceValue → Crate → Option SourceTreeValue
tree_in trees (file path) krate = if is_listed trees.paths path krate then file_tree trees.by_path path krate else None
tree_in trees (block place) krate =
    if nat_eq place.holder.krate.0 krate.0 then option_map (λ t. t.value) (lookup (is_at (block_order.ghosts.cmp place)) (entries_under trees.by_block krate))
    else None
tree_in trees (expansion key) krate =
    if nat_eq key.caller.0 krate.0 then option_map (λ t. t.value) (lookup (is_at (expansion_cmp key)) (by_value (entries_under trees.by_key krate))) else None

-- whether something that is kept of a place under a crate is found at this place under this crate
abbrev pub is_kept_at : SourcePlaceValue → Crate → SourcePlaceValue → Crate → Bool
is_kept_at (file path) krate (file at) c = is_at (slice_cmp nat_cmp path) at && is_at (crate_order.ghosts.cmp krate) c
is_kept_at (block place) krate (block at) c = nat_eq place.holder.krate.0 krate.0 && (is_at (block_order.ghosts.cmp place) at && nat_eq krate.0 c.0)
is_kept_at (expansion key) krate (expansion at) c = nat_eq key.caller.0 krate.0 && (is_at (expansion_cmp key) at && nat_eq krate.0 c.0)
is_kept_at _ krate _ c = false

-- whether the places are the same
abbrev pub is_place : SourcePlaceValue → SourcePlaceValue → Bool
is_place (file path) (file other) = is_at (slice_cmp nat_cmp path) other
is_place (block place) (block other) = is_at (block_order.ghosts.cmp place) other
is_place (expansion key) (expansion other) = is_at (expansion_cmp key) other
is_place _ _ = false

-- these are what the place has under the crates with this source, or without one
pub record AreTreesOf (crates : List CrateValue) (place : SourcePlaceValue) (source : Option SourceValue) (trees : CrateTrees) : Type 0 where
  pub each : (krate : Crate) (t : SourceTreeValue) → tree_by trees krate ≡ Some t → t ≡ tree_under crates krate.0 place source

-- what is kept is what the sources have in the workspace
pub record AreCurrent (w : Workspace) (trees : SourceTrees) : Type 0 where
  pub each : (place : SourcePlaceValue) (krate : Crate) (t : SourceTreeValue) → tree_in trees place krate ≡ Some t → t ≡ w.tree krate place

-- that is a fact
pub current_prop : (w : Workspace) (trees : SourceTrees) → IsProp (AreCurrent w trees)
current_prop w trees x y =
    λ i. record { each = λ place krate t kept. Coded-set coded_source_tree _ _ (x.each place krate t kept) (y.each place krate t kept) i }
