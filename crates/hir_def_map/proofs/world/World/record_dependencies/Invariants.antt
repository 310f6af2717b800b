-- What is recorded are ids of the crates that are not left, or of others.
use Rattle.std.proofs.Common.{◌≡◌, true, length}
use Rattle.std.specs.List.{list_any}
use Rattle.hir_nameres.specs.HirIds.declared.ids.MapId.{MapId}
use Rattle.hir_def_map.specs.Inner.Recorded.{AreCovered, GainsOnly}
use Rattle.hir_def_map_rules.specs.References.{lies_in, test_crate}
use Rattle.hir_def_map.proofs.world.World.record_dependencies.Given as goal

abbrev pub invariant-next : goal.invariant-next
invariant-next l =
    GainsOnly l.initial.recorded l.recorded l.own (λ id. list_any (test_crate (lies_in id)) l.initial.left)
    × AreCovered l.self.maps l.recorded l.covered
    × ((id : MapId) → list_any (test_crate (lies_in id)) l.left ≡ true → list_any (test_crate (lies_in id)) l.initial.left ≡ true)

abbrev pub decreases-next : goal.decreases-next
decreases-next l = length l.left
