-- What watches one more is woken in each turn.
use Rattle.std.proofs.Common.{rules}
use Rattle.hir_worklist.proofs.Passes.{pass_join, pass_woken, queued_join, queued_still, queued_woken, same_pass}
use Rattle.hir_worklist.proofs.Woken.{wakes_all, wakes_one}
use Rattle.hir_worklist.proofs.watchers.Watchers.wake_each.Goals as goal

pub loop-slot-init : goal.loop-slot-init
loop-slot-init g c = record { woken = λ r after each. each; pass = same_pass c.args.worklist.now; queued = queued_still c.args.worklist.now }

pub loop-slot-preserved : goal.loop-slot-preserved
loop-slot-preserved g c = record {
  woken = λ r after then. c.loop-slot.invariant.woken r after
      (wakes_one g.K.Ord.cmp c.args.slots.now c.slot-item.result c.loop-slot.slot-index r after c.loop-slot.worklist c.wake_all.new.worklist c.loop-slot.self
      c.wake_all.new.self
      c.loop-slot-test.true (search (rules, c.slot-item.is)) c.in_ok-wake_all.ensures.ok c.in_ok-wake_all.ensures.forgets then);
  pass =
      pass_join c.args.worklist.now c.loop-slot.worklist c.wake_all.new.worklist c.loop-slot.invariant.pass
      (pass_woken c.loop-slot.worklist c.wake_all.new.worklist _ c.in_ok-wake_all.ensures.ok);
  queued =
      queued_join c.args.worklist.now c.loop-slot.worklist c.wake_all.new.worklist c.loop-slot.invariant.queued
      (queued_woken c.loop-slot.worklist c.wake_all.new.worklist _ c.in_ok-wake_all.ensures.ok);
}

pub returns-clause-woken : goal.returns-clause-woken
returns-clause-woken g c =
    c.loop-slot.invariant.woken c.loop-slot.worklist c.loop-slot.self
    (wakes_all g.K.Ord.cmp c.args.slots.now c.loop-slot.slot-index c.loop-slot.worklist c.loop-slot.self c.loop-slot-test.false)
