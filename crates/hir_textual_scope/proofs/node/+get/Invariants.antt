use Rattle.std.proofs.Common.{length}
use Rattle.hir_textual_scope.specs.Node.{macros_under}
use Rattle.hir_textual_scope.proofs.node.+get.Given as goal

abbrev pub decreases-get : goal.decreases-get
decreases-get l = length (macros_under l.tree.now)
