-- Where does a session stand?
use Rattle.std.specs.Prelude.{◌≡◌, ℕ, ◌<◌, ◌≤◌, Bool, true, false, List, [], ◌∷◌, length, is_none, Some, None, Option, option_map, Contains}
use Rattle.std.specs.Option.{option_and_then}
use Rattle.hir_collector_rules.specs.HirBase.Place.{PlaceValue}
use Rattle.hir_collector_rules.specs.HirIds.declared.ast_id.BlockId.{BlockId}
use Rattle.hir_collector_rules.specs.HirBase.declared.place.BlockPlace.{BlockPlace}
use Rattle.hir_collector_rules.specs.HirIds.declared.ids.Crate.{Crate}
use Rattle.hir_collector_rules.specs.HirIds.declared.ids.MapId.{MapId}
use Rattle.hir_collector_rules.specs.HirIds.declared.ids.ModuleId.{ModuleId}
use Rattle.hir_collector_rules.specs.HirIds.declared.ast_id.SyntaxId.{SyntaxId}
use Rattle.hir_collector_rules.specs.HirNameres.WorldParts.{among}
use Rattle.hir_collector_rules.specs.HirDefMapRules.WellFormed.{HasNoDanglingExtern, HasNoDanglingReference}
use Rattle.hir_collector_rules.specs.HirDefMapRules.Overlay.{Maps, holders_of, holders_under, overlay}
use Rattle.hir_collector_rules.specs.HirDefMapRules.State.{crate_map}
use Rattle.hir_collector_rules.specs.Workspace.{Workspace}
use Rattle.hir_collector_rules.specs.Calls.{AreCallsPlaced, IsMeantAt}
use Rattle.hir_collector_rules.specs.Keys.{AgreeOn}
use Rattle.hir_collector_rules.specs.Derivation.{CollectedValue, Ends}
use Rattle.hir_collector_rules.specs.Start.{Beginning, holder_of, root_site}
use Rattle.hir_session_state.specs.Crates.{CrateValue, begins_in_block, beginning_in, transitive_in, crate_in, dependencies_in, dependency_maps, named_in}
use Rattle.hir_session_state.specs.Inputs.{InputsValue}
pub use Rattle.hir_session_state.specs.Kept.{Resolution}
use Rattle.hir_session_state.specs.Kept.{Resolutions, collected_of, finished_by, kept_in}
use Rattle.hir_session_state.specs.Standing.{Standing, definition_file, is_set, kept_block, module_by, standing_in}
use Rattle.hir_session_state.specs.SourceTable.{SourceTable, workspace_in}
use Rattle.hir_collector_rules.specs.HirTables.Tables.{TablesValue, block_at, file_at}

-- the crates by number, what the numbers of sources mean, the files, blocks and expansions that are there,
-- and what is kept of the places that were resolved
pub record SessionState : Type 0 where
  pub crates : List CrateValue
  pub tables : TablesValue
  pub sources : SourceTable
  pub kept : Resolutions

-- the session over what is handed in, with these tables and resolutions
abbrev pub state_of : InputsValue → TablesValue → Resolutions → SessionState
state_of inputs tables kept = record { crates = inputs.crates; tables = tables; sources = inputs.sources; kept = kept }

-- the workspace as it is now: a source that isn't there is not an empty one
abbrev pub workspace_of : SessionState → Workspace
workspace_of s = workspace_in s.crates s.sources

-- what a crate depends on
abbrev pub dependencies_of : SessionState → ℕ → List Crate
dependencies_of s k = dependencies_in s.crates k

-- what is kept of a place
abbrev pub kept_of : SessionState → MapId → Option Resolution
kept_of s id = kept_in s.kept id

-- whether a place is stale: nothing is kept of it
abbrev pub is_marked : SessionState → MapId → Bool
is_marked s id = is_none (kept_of s id)

-- the finished maps: those of the places of which something is kept
abbrev pub finished_of : SessionState → Maps
finished_of s = finished_by s.kept

-- ---- places

-- where the steps of a place lead
abbrev pub standing_of : SessionState → PlaceValue → Standing
standing_of s place = standing_in s.tables s.sources.blocks s.kept place

-- the module of a current map that a place names
abbrev pub module_of : SessionState → PlaceValue → Option ModuleId
module_of s place = module_by (standing_of s place)

-- what is kept of a block
abbrev pub block_kept : SessionState → BlockPlace → Option Resolution
block_kept s place = kept_block s.tables s.kept place

-- ---- on what places stand

-- the map in which a module lies
abbrev pub holder_maps : Option ModuleId → List MapId
holder_maps None = []
holder_maps (Some holder) = holder.map ∷ []

-- the maps in which the module lies that holds what is kept
abbrev pub held_maps : Option Resolution → List MapId
held_maps None = []
held_maps (Some r) = holder_maps r.map.holder

-- the maps on which that of a place directly depends: for a crate those of the crates on which it depends, for a block that of its crate and the one
-- in which the module lies that holds it
abbrev pub follows_by : SessionState → MapId → Option BlockId → List MapId
follows_by s id None = dependency_maps s.crates id.krate
follows_by s id (Some b) = crate_map id.krate ∷ held_maps (kept_of s id)

abbrev pub follows : SessionState → MapId → List MapId
follows s id = follows_by s id id.block

-- the finished maps that a place reads where these modules hold it: those of the crates on which its crate depends, and those of the holders
abbrev pub read_under : SessionState → MapId → List ModuleId → Maps
read_under s id holders = among (transitive_in s.crates id.krate.0) holders (finished_of s)

-- the finished maps that a place reads of which something is kept
abbrev pub read_of : SessionState → MapId → Maps
read_of s id = read_under s id (holders_of (finished_of s id))

-- ---- what runs begin with

-- what the run for a block of this number begins with, in a module
abbrev pub beginning_held : SessionState → Crate → BlockId → SyntaxId → ModuleId → Option Beginning
beginning_held s krate b id holder = option_map (λ file. begins_in_block krate b holder file id) (definition_file s.tables s.kept holder)

-- where the number means a block, and the place that holds it names a module
abbrev pub beginning_at : SessionState → Crate → BlockId → BlockPlace → Option Beginning
beginning_at s krate b place = option_and_then (λ holder. beginning_held s krate b place.id holder) (module_of s place.holder)

abbrev pub beginning_by : SessionState → Crate → Option BlockId → Option Beginning
beginning_by s krate None = Some (beginning_in s.crates krate.0)
beginning_by s krate (Some b) = option_and_then (λ place. beginning_at s krate b place) (block_at s.tables b)

-- what the run for a place begins with
abbrev pub beginning_of : SessionState → MapId → Option Beginning
beginning_of s id = beginning_by s id.krate id.block

-- a derivation ends in the resolution over every workspace, beside finished maps, that agrees with this one, beside these, on the
-- keys that it asked for
pub record IsResolved (tables : TablesValue) (w : Workspace) (before : Maps) (from : Beginning) (r : CollectedValue) : Type 0 where
  pub ends : (v : Workspace) (finished : Maps) → AgreeOn tables r.asked w before v finished → Ends tables v finished from r

-- the resolution of a place is what the import rules could give just now, and names only what is there
pub record IsResolutionOf (s : SessionState) (id : MapId) (r : Resolution) : Type 0 where
  pub from : Beginning
  pub begun : beginning_of s id ≡ Some from
  -- the numbers of its tree, and of the file in which that is written, mean something
  pub meant : IsMeantAt s.tables (root_site from.tree)
  pub resolved : IsResolved s.tables (workspace_of s) (finished_of s) from (collected_of r)
  pub own : r.map.id ≡ id
  -- the module that holds it, and those that hold this one's block
  pub holder : r.map.holder ≡ holder_of from.start
  pub holders : r.holders ≡ holders_under (finished_of s) r.map.id r.map.holder
  pub names : HasNoDanglingReference (overlay (read_under s id r.holders) r.map) r.map
  pub reaches : HasNoDanglingExtern (overlay (read_under s id r.holders) r.map) r.local

-- what is kept of the place is what the import rules could have given just now
pub record IsCurrent (s : SessionState) (id : MapId) : Type 0 where
  pub found : Resolution
  pub is : kept_of s id ≡ Some found
  pub gives : IsResolutionOf s id found

-- the id is that of the map of a crate of the session, or of a block of such a crate that is set
pub data IsPlace (s : SessionState) (id : MapId) : Type 0 where
  of_crate : id.block ≡ None → id.krate.0 < length s.crates → IsPlace s id
  of_block : (b : BlockId) (place : BlockPlace) → id.block ≡ Some b → block_at s.tables b ≡ Some place → place.holder.krate ≡ id.krate
      → id.krate.0 < length s.crates → is_set s.sources.blocks place ≡ true → IsPlace s id

-- the most crates that a session has
abbrev pub max_crates : ℕ
max_crates = 10000

-- what is true of each session
pub record IsSound (s : SessionState) : Type 0 where
  pub few : length s.crates ≤ max_crates
  pub below : (k : ℕ) (d : Crate) → Contains (named_in s.crates k) d → d.0 < k
  pub placed : (id : MapId) → is_marked s id ≡ false → IsPlace s id
  pub closed : (id d : MapId) → is_marked s id ≡ false → Contains (follows s id) d → is_marked s d ≡ false
  pub current : (id : MapId) → is_marked s id ≡ false → IsCurrent s id
  -- the number of a crate's root file means its path
  pub rooted : (k : ℕ) → k < length s.crates → file_at s.tables (crate_in s.crates k).file ≡ Some (crate_in s.crates k).own.root
  -- each call that has a number is written in a source that has one, and in an expansion only of a call before it
  pub calls : AreCallsPlaced s.tables
