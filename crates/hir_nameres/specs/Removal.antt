-- Which maps fall with a map?
use Rattle.std.specs.Prelude.{◌≡◌, ◌+◌, ◌⊎◌, ◌&&◌, Bool, true, false, cond, not, is_some, List, Option, None, Some}
use Rattle.std.specs.List.{count_by, list_any}
use Rattle.std.specs.BTreeMap.{BTreeMap, get, is_at}
use Rattle.std.specs.BTreeSet.{BTreeSet, contains}
use Rattle.hir_def_map_rules.specs.HirIds.declared.ids.MapId.{MapId}
use Rattle.hir_def_map_rules.specs.HirIds.contracts.ids.MapIdOrd.TheImpl as map_order
use Rattle.hir_nameres.specs.declared.world.finished.Finished.{Finished}
use Rattle.hir_def_map_rules.specs.References.{refers_to}

abbrev pub Names : Type 0
Names = MapId → MapId → Bool

-- the least set that holds a map, and each one that refers to one in it
pub data Depends (names : MapId → MapId → Bool) (on : MapId) : MapId → Type 0 where
  itself : (id : MapId) → id ≡ on → Depends names on id
  through : (id other : MapId) → names id other ≡ true → Depends names on other → Depends names on id

-- a set that holds with a map each one that refers to it
abbrev pub IsUpward : Names → (MapId → Bool) → Type 0
IsUpward names falls = (k j : MapId) → names k j ≡ true → falls j ≡ true → falls k ≡ true

-- each such set that holds the one holds the other
abbrev pub FallsWith : Names → MapId → MapId → Type 0
FallsWith names on id = (falls : MapId → Bool) → falls on ≡ true → IsUpward names falls → falls id ≡ true

abbrev pub refers_of : Option Finished → MapId → Bool
refers_of None id = false
refers_of (Some finished) id = refers_to finished.map finished.local id

-- whether a finished map refers to another one
abbrev pub refers_in : BTreeMap MapId Finished → MapId → MapId → Bool
refers_in maps id other = refers_of (get map_order.ghosts.cmp maps id) other

-- whether the map of an id was there and is gone
abbrev pub is_removed : BTreeMap MapId Finished → BTreeMap MapId Finished → MapId → Bool
is_removed old new id = is_some (get map_order.ghosts.cmp old id) && not (is_some (get map_order.ghosts.cmp new id))

-- a list gains the id of each map that was there and is gone, once, and no other
abbrev pub GainsRemoved : BTreeMap MapId Finished → BTreeMap MapId Finished → List MapId → List MapId → Type 0
GainsRemoved old new before after = (id : MapId)
    → count_by (is_at (map_order.ghosts.cmp id)) after ≡ count_by (is_at (map_order.ghosts.cmp id)) before + cond (is_removed old new id) 1 0

-- ---- the same by the ids that are recorded for each map

abbrev pub lists_of : Option Finished → MapId → Bool
lists_of None id = false
lists_of (Some finished) id = contains map_order.ghosts.cmp finished.named id

abbrev pub lists_in : BTreeMap MapId Finished → MapId → MapId → Bool
lists_in maps id other = lists_of (get map_order.ghosts.cmp maps id) other

-- whether one of the ids is of no finished map
abbrev pub lacks : BTreeMap MapId Finished → BTreeSet MapId → Bool
lacks maps named = list_any (λ (id : MapId). not (is_some (get map_order.ghosts.cmp maps id))) named.keys

abbrev pub lacks_some : BTreeMap MapId Finished → Option Finished → Bool
lacks_some maps None = false
lacks_some maps (Some finished) = lacks maps finished.named

-- no finished map lists a missing one
abbrev pub IsClosed : BTreeMap MapId Finished → Type 0
IsClosed maps = (id : MapId) → lacks_some maps (get map_order.ghosts.cmp maps id) ≡ false

-- a map is gone, and others only where they depend on it
pub record IsFalling (old new : BTreeMap MapId Finished) (id : MapId) : Type 0 where
  pub gone : get map_order.ghosts.cmp new id ≡ None
  pub each : (k : MapId) → (get map_order.ghosts.cmp new k ≡ get map_order.ghosts.cmp old k)
      ⊎ ((get map_order.ghosts.cmp new k ≡ None) × Depends (lists_in old) id k)
