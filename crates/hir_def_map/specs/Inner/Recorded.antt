-- Which of the maps that a map refers to are recorded for it?
use Rattle.std.specs.Prelude.{◌≡◌, ◌⊎◌, ◌&&◌, ◌||◌, Bool, true, not, is_none, List}
use Rattle.std.specs.BTreeMap.{BTreeMap, is_at}
use Rattle.std.specs.BTreeSet.{BTreeSet, contains}
use Rattle.hir_nameres.specs.HirIds.declared.ids.Crate.{Crate}
use Rattle.hir_nameres.specs.HirIds.declared.ids.MapId.{MapId}
use Rattle.hir_nameres.specs.HirIds.contracts.ids.MapIdOrd.TheImpl as map_order
use Rattle.hir_nameres.specs.HirIds.contracts.ids.MapIdPartialEq.TheImpl as map_id
use Rattle.hir_nameres.specs.HirCrateGraph.CrateSet.{has_crate}
use Rattle.hir_nameres.specs.declared.world.finished.Finished.{Finished}
use Rattle.hir_def_map_rules.specs.State.{Local, Map, crate_map}
use Rattle.hir_def_map_rules.specs.References.{refers_to}
use Rattle.hir_nameres.specs.Removal.{FallsWith, lists_in}

-- a map falls with one that is recorded
pub record IsCovered (maps : BTreeMap MapId Finished) (recorded : BTreeSet MapId) (id : MapId) : Type 0 where
  pub by : MapId
  pub is_recorded : contains map_order.ghosts.cmp recorded by ≡ true
  pub falls : FallsWith (lists_in maps) id by

-- so do the maps of these crates
pub record AreCovered (maps : BTreeMap MapId Finished) (recorded : BTreeSet MapId) (crates : List Crate) : Type 0 where
  pub each : (c : Crate) → has_crate crates c ≡ true → IsCovered maps recorded (crate_map c)

-- whether a test holds of the id of a map that isn't the own one
abbrev pub is_other : MapId → (MapId → Bool) → MapId → Bool
is_other own test id = not (is_at (map_order.ghosts.cmp own) id) && test id

-- whether an id is the own one, or that of a crate's map that is covered
abbrev pub is_left_out : List Crate → MapId → MapId → Bool
is_left_out covered own id = map_id.ghosts.eq id own || (is_none id.block && has_crate covered id.krate)

-- a set gains none but ids of other maps for which a test holds
pub record GainsOnly (old new : BTreeSet MapId) (own : MapId) (test : MapId → Bool) : Type 0 where
  pub kept : (id : MapId) → contains map_order.ghosts.cmp old id ≡ true → contains map_order.ghosts.cmp new id ≡ true
  pub only : (id : MapId) → contains map_order.ghosts.cmp new id ≡ true → (contains map_order.ghosts.cmp old id ≡ true) ⊎ (is_other own test id ≡ true)

-- and then each of those is covered
pub record Records (maps : BTreeMap MapId Finished) (old new : BTreeSet MapId) (own : MapId) (test : MapId → Bool) : Type 0 where
  pub gains : GainsOnly old new own test
  pub each : (id : MapId) → is_other own test id ≡ true → IsCovered maps new id

-- the maps that are recorded for one are others that it refers to, and cover all those
pub record IsRecordedFor (maps : BTreeMap MapId Finished) (recorded : BTreeSet MapId) (map : Map) (local : Local) : Type 0 where
  pub named : (id : MapId) → contains map_order.ghosts.cmp recorded id ≡ true → refers_to map local id ≡ true
  pub each : (id : MapId) → refers_to map local id ≡ true → IsCovered maps recorded id
