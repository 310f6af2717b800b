-- One more is woken in each turn.
use Rattle.std.proofs.Common.{◌≡◌, ◌==◌, true, false, below_more}
use Rattle.hir_worklist.proofs.Idle.{idle-woken}
use Rattle.hir_worklist.proofs.Passes.{pass_join, pass_woken, queued_join, queued_woken}
use Rattle.hir_worklist.proofs.Woken.{itself}
use Rattle.hir_worklist.specs.Queue.{IsIdle}
use Rattle.hir_worklist.proofs.worklist.Worklist.wake_all.Goals as goal

pub loop-position-preserved : goal.loop-position-preserved
loop-position-preserved c = record {
  pass =
      pass_join c.args.self.now c.loop-position.self c.wake.new.self c.loop-position.invariant.pass
      (pass_woken c.loop-position.self c.wake.new.self _ c.in_ok-wake.ensures.ok);
  queued =
      queued_join c.args.self.now c.loop-position.self c.wake.new.self c.loop-position.invariant.queued
      (queued_woken c.loop-position.self c.wake.new.self _ c.in_ok-wake.ensures.ok);
  none = below_more (λ p. ¬ IsIdle c.wake.new.self p) c.loop-position.position
      (λ p low idle. c.loop-position.invariant.none p low (idle-woken c.loop-position.self c.wake.new.self _ p c.in_ok-wake.ensures.ok idle).0)
      (λ idle.
      let other : (c.loop-position.position == c.loop-position.position) ≡ false =
      (idle-woken c.loop-position.self c.wake.new.self _ c.loop-position.position c.in_ok-wake.ensures.ok idle).1 in
      let same : (c.loop-position.position == c.loop-position.position) ≡ true = itself c.loop-position.position in
      cc);
}
