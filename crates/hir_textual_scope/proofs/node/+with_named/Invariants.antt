use Rattle.std.proofs.Common.{length}
use Rattle.hir_textual_scope.specs.Node.{macros_under}
use Rattle.hir_textual_scope.proofs.node.+with_named.Given as goal

abbrev pub decreases-with_named : goal.decreases-with_named
decreases-with_named l = length (macros_under l.tree.now)
