use Rattle.std.proofs.Common.{arith}
use Rattle.std.proofs.lemmas.Grind.{common_steps}
use Rattle.hir_scope.proofs.item_scope.dump.MacroWordsDisplay.fmt.Goals as goal

pub loop-id-preserved : goal.loop-id-preserved
loop-id-preserved g c = grind (arith, common_steps)
