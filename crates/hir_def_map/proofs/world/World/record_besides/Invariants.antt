-- Those of all references that are not left are recorded.
use Rattle.std.proofs.Common.{length}
use Rattle.std.specs.List.{list_any}
use Rattle.hir_def_map_rules.specs.References.{lies_in, test_of}
use Rattle.hir_def_map.proofs.Recorded.{IsRecording}
use Rattle.hir_def_map.proofs.world.World.record_besides.Given as goal

abbrev pub invariant-next : goal.invariant-next
invariant-next l =
    IsRecording l.self.maps l.initial.recorded l.recorded l.own l.covered (λ id. list_any (test_of (lies_in id)) l.initial.left)
    (λ id. list_any (test_of (lies_in id)) l.left)

abbrev pub decreases-next : goal.decreases-next
decreases-next l = length l.left
