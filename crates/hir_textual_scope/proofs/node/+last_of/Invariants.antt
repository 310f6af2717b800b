use Rattle.std.proofs.Common.{length}
use Rattle.hir_textual_scope.specs.Node.{macros_under}
use Rattle.hir_textual_scope.proofs.node.+last_of.Given as goal

abbrev pub decreases-last_of : goal.decreases-last_of
decreases-last_of l = length (macros_under l.tree.now)
