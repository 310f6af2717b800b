-- One more is woken in each turn.
use Rattle.std.proofs.Common.{rules, subst, sym, ◌≡◌}
use Rattle.hir_worklist.specs.Moves.{WakesSome}
use Rattle.hir_worklist.specs.Queue.{Queue, is_among}
use Rattle.hir_worklist.proofs.Waking.{Wakes-step, WakesSome-passed}
use Rattle.hir_worklist.proofs.watchers.wake_each.Goals as goal

pub loop-position-preserved : goal.loop-position-preserved
loop-position-preserved c =
    Wakes-step c.args.worklist.now c.loop-position.worklist c.wake.new.self c.args.positions.now c.loop-position.position-index c.loop-position-test.true
    c.loop-position.invariant c.in_ok-wake.ensures.ok

pub returns-in_err-wake-clause-err : goal.returns-in_err-wake-clause-err
returns-in_err-wake-clause-err c =
    let same : c.wake.new.self ≡ c.loop-position.worklist = c.in_err-wake.ensures.err in
    let some : WakesSome c.args.worklist.now c.wake.new.self (λ p. is_among p c.args.positions.now) =
    subst (λ (q : Queue). WakesSome c.args.worklist.now q (λ p. is_among p c.args.positions.now)) (sym same)
    (WakesSome-passed c.args.worklist.now c.loop-position.worklist c.args.positions.now c.loop-position.position-index c.loop-position.invariant) in
    search rules
