-- Which maps are entered as dependents of another?
use Rattle.std.specs.Prelude.{◌≡◌, ◌≤◌, ◌&&◌, ◌||◌, Bool, false, not, Option, None, Some, List, []}
use Rattle.std.specs.List.{list_any}
use Rattle.std.specs.BTreeMap.{BTreeMap, btree_map_len, get, is_at}
use Rattle.std.specs.BTreeSet.{BTreeSet, contains}
use Rattle.std.specs.Vec.{vec_capacity}
use Rattle.std.specs.declared.vec.Vec.{Vec}
use Rattle.std.specs.declared.alloc.Global.{Global}
use Rattle.hir_nameres.specs.HirIds.declared.ids.MapId.{MapId}
use Rattle.hir_nameres.specs.HirIds.contracts.ids.MapIdOrd.TheImpl as map_order
use Rattle.hir_def_map.specs.declared.world.dependents.Dependents.{Dependents}
use Rattle.hir_nameres.specs.declared.world.finished.Finished.{Finished}
use Rattle.hir_nameres.specs.Removal.{lists_in}

abbrev pub has_id : Option (BTreeSet MapId) → MapId → Bool
has_id None id = false
has_id (Some ids) id = contains map_order.ghosts.cmp ids id

-- whether a map is entered among those that depend on another
abbrev pub is_dependent : Dependents → MapId → MapId → Bool
is_dependent dependents on id = has_id (get map_order.ghosts.cmp dependents.ids on) id

-- whether two ids are one of those that a map names, and its own
abbrev pub is_entry : List MapId → MapId → MapId → MapId → Bool
is_entry named own on id = list_any (is_at (map_order.ghosts.cmp on)) named && is_at (map_order.ghosts.cmp own) id

-- a map is entered with each that it names
abbrev pub Enters : Dependents → Dependents → List MapId → MapId → Type 0
Enters old new named own = (on id : MapId) → is_dependent new on id ≡ (is_dependent old on id || is_entry named own on id)

-- a map is taken out with each that it names
abbrev pub Leaves : Dependents → Dependents → List MapId → MapId → Type 0
Leaves old new named own = (on id : MapId) → is_dependent new on id ≡ (is_dependent old on id && not (is_entry named own on id))

abbrev pub IsSame : Dependents → Dependents → Type 0
IsSame old new = (on id : MapId) → is_dependent new on id ≡ is_dependent old on id

-- nothing changes but what a map with those that it names may enter
abbrev pub IsSameBut : Dependents → Dependents → List MapId → MapId → Type 0
IsSameBut old new named own = (on id : MapId) → is_entry named own on id ≡ false → is_dependent new on id ≡ is_dependent old on id

-- each finished map is entered exactly among the dependents of those that it names
pub record IsIndexed (dependents : Dependents) (maps : BTreeMap MapId Finished) : Type 0 where
  pub each : (on id : MapId) → is_dependent dependents on id ≡ lists_in maps id on

-- so is one that is yet to join them
pub record IsEntered (dependents : Dependents) (maps : BTreeMap MapId Finished) (finished : Finished) : Type 0 where
  pub each : (on id : MapId) → is_dependent dependents on id ≡ (lists_in maps id on || is_entry finished.named.keys finished.map.id on id)

-- no map falls, and there is room for all
pub record HasRoom (falling : Vec MapId Global) (maps : BTreeMap MapId Finished) : Type 0 where
  pub none : falling.items ≡ []
  pub room : btree_map_len maps ≤ vec_capacity falling
