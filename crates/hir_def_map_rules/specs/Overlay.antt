-- The finished maps with the current one on top.
use Rattle.std.specs.Prelude.{ℕ, List, [], ◌∷◌, Option, None, Some, is_some, Bool, ◌&&◌, cond, option_and_then, option_map}
use Rattle.hir_scope.specs.HirIds.declared.ids.EnumId.{EnumId}
use Rattle.hir_scope.specs.HirIds.declared.ids.MapId.{MapId}
use Rattle.hir_scope.specs.HirIds.declared.ids.ModuleId.{ModuleId}
use Rattle.hir_scope.specs.HirIds.contracts.ids.MapIdPartialEq.TheImpl as map_id
use Rattle.hir_scope.specs.HirPerNs.ModuleTree.{same_crate}
use Rattle.hir_scope.specs.HirPerNs.declared.per_ns.PerNs.{PerNs}
use Rattle.hir_def_map_rules.specs.State.{Local, Map, ModuleValue, Variants, child_of, entry_of, module_at, parent_of, variants_at}

-- a map, what its paths may begin with, and the modules that hold it: that of its block, that of this one's block, and so on; none holds a crate's map
pub record Placed : Type 0 where
  pub map : Map
  -- nothing while it is being built
  pub local : Local
  pub holders : List ModuleId

-- the maps that can be asked: finished ones, and one that may still be being built
abbrev pub Maps : Type 0
Maps = MapId → Option Placed

-- a map's holders, none where it isn't there
abbrev pub holders_of : Option Placed → List ModuleId
holders_of None = []
holders_of (Some placed) = placed.holders

-- the modules that hold a map among finished ones: its block's holder, where that lies in a finished map of the crate, and those of this
abbrev pub holders_under : Maps → MapId → Option ModuleId → List ModuleId
holders_under finished id None = []
holders_under finished id (Some h) = cond (same_crate h.map.krate id.krate && is_some (finished h.map)) (h ∷ holders_of (finished h.map)) []

-- a map's holders where one of its id is finished, and otherwise these
abbrev pub holders_or : Option Placed → List ModuleId → List ModuleId
holders_or None holders = holders
holders_or (Some placed) holders = placed.holders

-- a map in its place among finished ones, in that of the finished map of its id, where there is one, with what its paths may begin with
abbrev pub placed_with : Maps → Map → Local → Placed
placed_with finished map local = record { map = map; local = local; holders = holders_or (finished map.id) (holders_under finished map.id map.holder) }

-- so is one that may still be being built
abbrev pub placed_in : Maps → Map → Placed
placed_in finished map = placed_with finished map []

-- finished maps, and beside them one that may still be being built, which comes before a finished one of its id
abbrev pub overlay : Maps → Map → Maps
overlay finished map id = cond (map_id.ghosts.eq id map.id) (Some (placed_in finished map)) (finished id)

-- finished maps once one more is finished
abbrev pub with_map : Maps → Map → Local → Maps
with_map finished map local id = cond (map_id.ghosts.eq id map.id) (Some (placed_with finished map local)) (finished id)

-- no map
abbrev pub no_maps : Maps
no_maps id = None

-- one map alone
abbrev pub alone : Map → Maps
alone map = overlay no_maps map

-- the map of an id
abbrev pub map_in : Maps → MapId → Option Map
map_in maps id = option_map (λ (placed : Placed). placed.map) (maps id)

abbrev pub module_in : Maps → ModuleId → Option ModuleValue
module_in maps m = option_and_then (λ (placed : Placed). module_at placed.map m.index) (maps m.map)

abbrev pub entry_in : Maps → ModuleId → List ℕ → PerNs
entry_in maps m name = entry_of (module_in maps m) name

abbrev pub child_in : Maps → ModuleId → List ℕ → Option ModuleId
child_in maps m name = child_of (module_in maps m) name

abbrev pub parent_in : Maps → ModuleId → Option ModuleId
parent_in maps m = parent_of (module_in maps m)

-- the variants of an enum, which stand in the map of the module that declares it
abbrev pub variants_in : Maps → EnumId → Option Variants
variants_in maps id = option_and_then (λ (placed : Placed). variants_at placed.map id) (maps id.loc.container.map)
