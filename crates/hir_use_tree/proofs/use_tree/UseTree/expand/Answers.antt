use Rattle.hir_use_tree.proofs.CallLemmas.{OnErr-always, HandsOutPartly-none}
use Rattle.hir_use_tree.proofs.use_tree.UseTree.expand.Goals as goal
use Rattle.hir_use_tree.proofs.use_tree.UseTree.expand.Given as given

-- memory ran out before the first call
pub returns-in_err-levels-clause-err : goal.returns-in_err-levels-clause-err
returns-in_err-levels-clause-err g c = OnErr-always c.from_residual.result (HandsOutPartly-none (given.F-step g) c.args.cb.now _)
