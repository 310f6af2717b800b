use Rattle.hir_use_tree.proofs.CallLemmas.{OnErr-always, HandsOutPartly-none}
use Rattle.hir_use_tree.proofs.expand.hand_out.Given as given
use Rattle.hir_use_tree.proofs.expand.hand_out.Goals as goal

-- memory ran out before the next import was known
pub returns-in_err-import-clause-err : goal.returns-in_err-import-clause-err
returns-in_err-import-clause-err g c =
    OnErr-always c.from_residual.result (c.loop-levels.invariant.err c.loop-levels.cb (HandsOutPartly-none (given.F-step g) c.loop-levels.cb _))
