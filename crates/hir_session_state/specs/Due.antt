-- What is due, and what stands behind an answer?
use Rattle.std.specs.Prelude.{◌≡◌, ◌≢◌, IsTrue, ℕ, ◌<◌, ◌≤◌, true, List, [], ◌∷◌, None, Some, length, Contains}
use Rattle.std.specs.Ordering.{is_le}
use Rattle.hir_collector_rules.specs.HirBase.Locations.{max_locations}
use Rattle.hir_collector_rules.specs.HirBase.Place.{PlaceValue}
use Rattle.hir_collector_rules.specs.HirBase.declared.place.BlockPlace.{BlockPlace}
use Rattle.hir_collector_rules.specs.HirIds.declared.ids.MapId.{MapId}
use Rattle.hir_collector_rules.specs.HirIds.declared.ids.ModuleId.{ModuleId}
use Rattle.hir_collector_rules.specs.Derivation.{IsOverlong}
use Rattle.hir_collector_rules.specs.Start.{Beginning}
use Rattle.hir_collector_rules.specs.declared.source_database.Key.{Key}
use Rattle.hir_session_state.specs.Blocks.{block_cmp, place_of_block}
use Rattle.hir_session_state.specs.Crates.{id_of}
use Rattle.hir_session_state.specs.Standing.{block_number, is_set, place_of_map}
use Rattle.hir_session_state.specs.SessionState.{SessionState, Resolution, workspace_of, beginning_of, block_kept, follows, kept_of, is_marked, finished_of}
use Rattle.hir_session_state.specs.SessionState.{module_of, IsSound}
use Rattle.hir_collector_rules.specs.HirTables.Tables.{KeepsTables}

-- the place of the root of a crate
abbrev pub root_place : ℕ → PlaceValue
root_place k = record { krate = record { 0 = k }; elements = [] }

-- nothing is kept of the crate of this number
pub record IsDueCrate (s : SessionState) (k : ℕ) : Type 0 where
  pub within : k < length s.crates
  pub marked : is_marked s (id_of k) ≡ true

-- nothing is kept of the block, which is set, and the place that holds it is there
pub record IsDueBlock (s : SessionState) (place : BlockPlace) : Type 0 where
  pub set : is_set s.sources.blocks place ≡ true
  pub marked : block_kept s place ≡ None
  pub holder : ModuleId
  pub held : module_of s place.holder ≡ Some holder

-- the place is to be resolved next: a crate before others by its number, a block where no crate is due, before others by how many blocks are around it,
-- and then by its place
pub data IsNext (s : SessionState) (place : PlaceValue) : Type 0 where
  crate : (k : ℕ) → IsDueCrate s k → ((j : ℕ) → j < k → ¬ IsDueCrate s j) → place ≡ root_place k → IsNext s place
  block : (b : BlockPlace) → ((k : ℕ) → ¬ IsDueCrate s k) → IsDueBlock s b → ((c : BlockPlace) → IsDueBlock s c → IsTrue (is_le (block_cmp b c)))
      → place ≡ place_of_block b → IsNext s place

-- the tables grew, and nothing else changed
pub record Grows (old new : SessionState) : Type 0 where
  pub crates : new.crates ≡ old.crates
  pub tables : KeepsTables old.tables new.tables
  pub sources : new.sources ≡ old.sources
  pub kept : new.kept ≡ old.kept
  -- what isn't marked is what the import rules could have given just now
  pub sound : IsSound new

-- a place was resolved so, and nothing else changed but for tables that grew
pub record Resolved (old : SessionState) (id : MapId) (r : Resolution) (new : SessionState) : Type 0 where
  pub crates : new.crates ≡ old.crates
  pub tables : KeepsTables old.tables new.tables
  pub sources : new.sources ≡ old.sources
  pub here : kept_of new id ≡ Some r
  pub others : (j : MapId) → j ≢ id → kept_of new j ≡ kept_of old j

-- these places were resolved in this order, each the next that was to be; then tables may have grown, and nothing else changed
pub data AreResolved : SessionState → List PlaceValue → SessionState → Type 0 where
  none : (old new : SessionState) → Grows old new → AreResolved old [] new
  more : (old : SessionState) (place : PlaceValue) (id : MapId) (r : Resolution) (mid : SessionState) (places : List PlaceValue) (new : SessionState)
      → IsNext old place
      → place_of_map mid.tables id ≡ Some place → Resolved old id r mid → AreResolved mid places new → AreResolved old (place ∷ places) new

-- the run for a place goes on for too long, or no number is left for its block
pub data IsStuckAt (s : SessionState) (place : PlaceValue) : Type 0 where
  overlong : (id : MapId) (from : Beginning) → place_of_map s.tables id ≡ Some place → beginning_of s id ≡ Some from
      → IsOverlong s.tables (workspace_of s) (finished_of s) from → IsStuckAt s place
  numbered_out : (b : BlockPlace) → place ≡ place_of_block b → block_number s.tables b ≡ None → max_locations ≤ length s.tables.blocks → IsStuckAt s place

-- so it is with the place that is to be resolved next
pub record HasOverlongRun (s : SessionState) : Type 0 where
  pub place : PlaceValue
  pub next : IsNext s place
  pub stuck : IsStuckAt s place

-- what stands behind a place: the place, what it depends on, and so on; a crate's dependencies are those of the state, which are those that its kept map was
-- made with, since an edit that gives it others leaves no map that was made with them
pub data IsBehind (s : SessionState) (id : MapId) : MapId → Type 0 where
  itself : IsBehind s id id
  next : (j d : MapId) → IsBehind s id j → Contains (follows s j) d → IsBehind s id d

-- a run behind the place asked for the key
pub record IsAskedBehind (s : SessionState) (id : MapId) (key : Key) : Type 0 where
  pub place : MapId
  pub found : Resolution
  pub behind : IsBehind s id place
  pub is : kept_of s place ≡ Some found
  pub asked : Contains found.asked key
