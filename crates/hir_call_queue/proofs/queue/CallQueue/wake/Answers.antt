-- All are queued.
use Rattle.std.proofs.Common.{refl}
use Rattle.hir_call_queue.specs.declared.queue.CallQueue.{CallQueue}
use Rattle.hir_call_queue.proofs.Woken.{woken_all}
use Rattle.hir_call_queue.proofs.queue.CallQueue.wake.Goals as goal

pub returns : goal.returns
returns c =
    let old : CallQueue = c.args.self.now in
    let new : CallQueue = record old { worklist = c.wake_all.new.self; watchers = c.new.result; attributes = c.new-2.result } in
    record {
      woken =
          woken_all c.args.changed.now old new (record { apart = refl; pass = c.in_ok-wake_all.ensures.pass; queued = c.in_ok-wake_all.ensures.queued })
          c.in_ok-wake_all.ensures.none;
    }
