-- What is left of both decides.
use Rattle.std.proofs.Common.{◌≡◌, length}
use Rattle.hir_map_parts.specs.Equality.{same_local}
use Rattle.hir_map_parts.proofs.local_def_map.LocalDefMapPartialEq.eq.Given as goal

abbrev pub invariant-next : goal.invariant-next
invariant-next l = same_local l.self l.other ≡ same_local l.left l.others

abbrev pub decreases-next : goal.decreases-next
decreases-next l = length l.left
