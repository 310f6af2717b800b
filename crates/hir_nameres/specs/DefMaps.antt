-- Which maps are seen at once?
use Rattle.hir_nameres.specs.declared.def_maps.DefMaps.{DefMaps}
use Rattle.hir_def_map_rules.specs.Overlay.{Maps, overlay}
use Rattle.hir_def_map_rules.specs.Ancestors.{IsPlaced}
use Rattle.hir_def_map_rules.specs.Inner.OverlayLaws.{IsPlaced-overlay}
use Rattle.hir_nameres.specs.WorldParts.{part_of}
use Rattle.hir_nameres.specs.Inner.PartLaws.{part_placed}

-- those of a part of a world, and one beside them
unfoldable pub maps_of : DefMaps → Maps
maps_of m = overlay (part_of m.world) m.own.now

-- each is in its place
pub maps_placed : (m : DefMaps) → IsPlaced (maps_of m)
unfolding maps_of
maps_placed m = IsPlaced-overlay (part_of m.world) m.own.now (part_placed m.world)
