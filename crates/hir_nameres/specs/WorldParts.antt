-- Which finished maps does a part of a world have?
use Rattle.std.specs.Prelude.{◌&&◌, ◌||◌, Bool, true, is_none, Option, None, Some, List, [], cond, option_and_then, option_copied}
use Rattle.std.specs.List.{list_all, list_any}
use Rattle.hir_def_map_rules.specs.HirIds.declared.ids.Crate.{Crate}
use Rattle.hir_def_map_rules.specs.HirIds.declared.ids.MapId.{MapId}
use Rattle.hir_def_map_rules.specs.HirIds.declared.ids.ModuleId.{ModuleId}
use Rattle.hir_def_map_rules.specs.HirIds.contracts.ids.MapIdPartialEq.TheImpl as map_id
use Rattle.hir_def_map_rules.specs.HirPerNs.ModuleTree.{same_crate}
use Rattle.hir_nameres.specs.declared.world.part.WorldPart.{WorldPart}
use Rattle.hir_def_map_rules.specs.State.{Local, Map}
use Rattle.hir_def_map_rules.specs.Overlay.{Maps, Placed}
use Rattle.hir_nameres.specs.World.{finished_in}

-- a map by itself
abbrev pub unheld : Map → Local → Placed
unheld map local = record { map = map; local = local; holders = [] }

-- whether an id is that of the map of one of the crates, or of a map in which one of the holders lies
abbrev pub is_of_some : List Crate → List ModuleId → MapId → Bool
is_of_some crates holders id = (is_none id.block && list_any (same_crate id.krate) crates) || list_any (λ (h : ModuleId). map_id.ghosts.eq h.map id) holders

-- whether each of some modules lies in such a map
abbrev pub are_of_some : List Crate → List ModuleId → List ModuleId → Bool
are_of_some crates holders modules = list_all (λ (h : ModuleId). is_of_some crates holders h.map) modules

-- a map with all that holds it
abbrev pub with_its_holders : List Crate → List ModuleId → Placed → Option Placed
with_its_holders crates holders placed = cond (are_of_some crates holders placed.holders) (Some placed) None

-- of finished maps those of some crates and those in which some holders lie, where the maps of all that holds them are too
unfoldable pub among : List Crate → List ModuleId → Maps → Maps
among crates holders finished id = cond (is_of_some crates holders id) (option_and_then (with_its_holders crates holders) (finished id)) None

-- those of some crates and of some holders, or all
abbrev pub limited_to : Option (List Crate) → List ModuleId → Maps → Maps
limited_to None holders finished = finished
limited_to (Some crates) holders finished = among crates holders finished

-- whether a map may be read where the maps of what holds it may be
abbrev pub is_within : Option (List Crate) → List ModuleId → MapId → Bool
is_within None holders id = true
is_within (Some crates) holders id = is_of_some crates holders id

-- whether the maps of modules may be
abbrev pub are_within : Option (List Crate) → List ModuleId → List ModuleId → Bool
are_within crates holders modules = list_all (λ (h : ModuleId). is_within crates holders h.map) modules

unfoldable pub part_of : WorldPart → Maps
part_of part = limited_to (option_copied part.crates) part.holders.now (finished_in part.maps.now)
