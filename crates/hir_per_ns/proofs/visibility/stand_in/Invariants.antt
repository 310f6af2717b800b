use Rattle.std.proofs.Common.{◌≡◌, length}
use Rattle.hir_per_ns.specs.Visibility.{stands_for}
use Rattle.hir_per_ns.proofs.visibility.stand_in.Given as goal

abbrev pub invariant-out : goal.invariant-out
invariant-out g l = stands_for l.from l.fn.of (g.T.ModuleTree.holders l.tree l.fn.of) ≡ stands_for l.from l.at (g.T.ModuleTree.holders l.tree l.at)

abbrev pub decreases-out : goal.decreases-out
decreases-out g l = length (g.T.ModuleTree.holders l.tree l.at)
