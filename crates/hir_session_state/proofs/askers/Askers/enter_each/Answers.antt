-- Each key is entered in its turn.
use Rattle.std.proofs.Common.{drop, ◌+◌}
use Rattle.std.proofs.lemmas.List.{drop_all, drop_more}
use Rattle.hir_session_state.proofs.Entering.{entering-end, entering-others, entering-start, entering-step, others_same}
use Rattle.hir_session_state.proofs.askers.Askers.enter_each.Goals as goal

pub loop-key-init : goal.loop-key-init
loop-key-init c = entering-start c.args.tables.now c.args.self.now c.args.keys.now c.args.id

pub loop-key-preserved : goal.loop-key-preserved
loop-key-preserved c =
    entering-step c.args.tables.now c.args.self.now c.loop-key.self c.enter_at.new.self c.args.keys.now (drop c.loop-key.key-index c.args.keys.now)
    (drop (c.loop-key.key-index + 1) c.args.keys.now) c.args.id _
    (drop_more c.args.keys.now c.loop-key.key-index _ c.loop-key-test.true) c.loop-key.invariant c.in_ok-enter_at.ensures.ok

pub returns-in_err-enter_at-clause-others : goal.returns-in_err-enter_at-clause-others
returns-in_err-enter_at-clause-others c =
    others_same c.args.tables.now c.args.self.now c.loop-key.self c.enter_at.new.self c.args.keys.now c.args.id
    (entering-others c.args.tables.now c.args.self.now c.loop-key.self c.args.keys.now (drop c.loop-key.key-index c.args.keys.now) c.args.id
    c.loop-key.invariant) c.in_err-enter_at.ensures.err

pub returns-clause-ok : goal.returns-clause-ok
returns-clause-ok c =
    entering-end c.args.tables.now c.args.self.now c.loop-key.self c.args.keys.now (drop c.loop-key.key-index c.args.keys.now) c.args.id
    (drop_all c.loop-key.key-index c.args.keys.now c.loop-key-test.false) c.loop-key.invariant

pub returns-clause-others : goal.returns-clause-others
returns-clause-others c =
    entering-others c.args.tables.now c.args.self.now c.loop-key.self c.args.keys.now (drop c.loop-key.key-index c.args.keys.now) c.args.id
    c.loop-key.invariant
