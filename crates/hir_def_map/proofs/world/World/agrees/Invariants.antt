-- What is left decides.
use Rattle.std.proofs.Common.{◌≡◌, length}
use Rattle.std.specs.List.{list_all}
use Rattle.hir_def_map.specs.Agreement.{agrees_at}
use Rattle.hir_def_map.proofs.world.World.agrees.Given as goal

abbrev pub invariant-each : goal.invariant-each
invariant-each l = list_all (agrees_at l.self.maps l.other.maps) l.fn.ids ≡ list_all (agrees_at l.self.maps l.other.maps) l.left

abbrev pub decreases-each : goal.decreases-each
decreases-each l = length l.left
