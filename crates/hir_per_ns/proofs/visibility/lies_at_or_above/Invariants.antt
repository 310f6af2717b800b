use Rattle.std.proofs.Common.{◌≡◌, length}
use Rattle.hir_per_ns.specs.ModuleTree.{is_at_or_above}
use Rattle.hir_per_ns.proofs.visibility.lies_at_or_above.Given as goal

abbrev pub invariant-up : goal.invariant-up
invariant-up g l = is_at_or_above (g.T.ModuleTree.above l.tree) l.high l.fn.low ≡ is_at_or_above (g.T.ModuleTree.above l.tree) l.high l.at

abbrev pub decreases-up : goal.decreases-up
decreases-up g l = length (g.T.ModuleTree.above l.tree l.at)
