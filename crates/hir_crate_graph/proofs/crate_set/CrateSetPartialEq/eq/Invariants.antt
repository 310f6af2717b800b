-- What is left of both decides.
use Rattle.std.proofs.Common.{◌≡◌, length}
use Rattle.hir_crate_graph.specs.CrateSet.{same_crates}
use Rattle.hir_crate_graph.proofs.crate_set.CrateSetPartialEq.eq.Given as goal

abbrev pub invariant-next : goal.invariant-next
invariant-next l = same_crates l.self l.other ≡ same_crates l.left l.others

abbrev pub decreases-next : goal.decreases-next
decreases-next l = length l.left
