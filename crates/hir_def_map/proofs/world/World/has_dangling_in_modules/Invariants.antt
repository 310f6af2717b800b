use Rattle.std.proofs.Common.{◌≡◌, length}
use Rattle.std.specs.List.{list_any}
use Rattle.hir_def_map_rules.specs.References.{is_missing}
use Rattle.hir_def_map_rules.specs.Inner.ReferenceLists.{listed_in}
use Rattle.hir_def_map_rules.specs.Overlay.{overlay}
use Rattle.hir_nameres.specs.World.{finished_in}
use Rattle.hir_def_map.proofs.world.World.has_dangling_in_modules.Given as goal

abbrev pub invariant-next : goal.invariant-next
invariant-next l =
    list_any (listed_in (is_missing (overlay (finished_in l.self.maps) l.map))) l.initial.left
    ≡ list_any (listed_in (is_missing (overlay (finished_in l.self.maps) l.map))) l.left

abbrev pub decreases-next : goal.decreases-next
decreases-next l = length l.left
