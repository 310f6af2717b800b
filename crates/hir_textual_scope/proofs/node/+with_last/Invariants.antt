use Rattle.std.proofs.Common.{length}
use Rattle.hir_textual_scope.specs.Node.{macros_under}
use Rattle.hir_textual_scope.proofs.node.+with_last.Given as goal

abbrev pub decreases-with_last : goal.decreases-with_last
decreases-with_last l = length (macros_under l.tree.now)
