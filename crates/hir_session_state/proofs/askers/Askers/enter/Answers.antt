-- The keys of the steps ask for what all keys do; a place that was entered in part is taken out again.
use Rattle.hir_session_state.proofs.Entering.{enters_all, rolled_back}
use Rattle.hir_session_state.proofs.askers.Askers.enter.Goals as goal

pub returns-in-Ok-clause-ok : goal.returns-in-Ok-clause-ok
returns-in-Ok-clause-ok c =
    enters_all c.args.tables.now c.args.self.now c.enter_each.new.self c.own-keys.result.now c.args.asked.now c.args.id c.own-keys.ensures.value
    c.in-Ok.ensures.ok

pub returns-in-Err-clause-err : goal.returns-in-Err-clause-err
returns-in-Err-clause-err c =
    rolled_back c.args.tables.now c.args.self.now c.enter_each.new.self c.leave_each.new.self c.own-keys.result.now c.args.id c.requires.fresh
    c.enter_each.ensures.others c.leave_each.ensures.left
