-- What watches one of the slots is queued, and what watches one of the items.
use Rattle.std.proofs.Common.{List, refl, subst}
use Rattle.hir_nameres.specs.HirIds.declared.ast_id.AstId.{AstId}
use Rattle.hir_nameres.specs.declared.nameres.path_resolution.slots.Slot.{Slot}
use Rattle.hir_worklist.proofs.Passes.{pass_join, queued_join}
use Rattle.hir_worklist.specs.Waking as waking
use Rattle.hir_import_resolution.specs.Inner.Queue.{WakesEach}
use Rattle.hir_worklist.specs.Queue.{Queue}
use Rattle.hir_import_rules.specs.Changed.{item_cmp}
use Rattle.hir_call_queue.specs.Waking.{attributes_of, watchers_of, worklist_of}
use Rattle.hir_call_queue.specs.declared.queue.CallQueue.{CallQueue}
use Rattle.hir_call_queue.proofs.Woken.{woken_some}
use Rattle.hir_call_queue.proofs.queue.CallQueue.wake_watching.Goals as goal

pub returns : goal.returns
returns c =
    let old : CallQueue = c.args.self.now in
    let between : Queue = c.wake_each.new.worklist in
    let new : CallQueue =
    record old { worklist = c.wake_each-2.new.worklist; watchers = c.wake_each.new.self; attributes = c.wake_each-2.new.self } in
    record {
      woken =
          woken_some c.args.changed.now old new
          (record {
            apart = refl;
            pass = pass_join (worklist_of old) between (worklist_of new) c.in_ok-wake_each.ensures.pass c.in_ok-wake_each-2.ensures.pass;
            queued = queued_join (worklist_of old) between (worklist_of new) c.in_ok-wake_each.ensures.queued c.in_ok-wake_each-2.ensures.queued;
          })
          c.requires.some c.requires.apart between
          (subst (λ (slots : List Slot). WakesEach between (watchers_of new) (worklist_of old) (watchers_of old) slots) c.slots.ensures.value
          c.in_ok-wake_each.ensures.woken)
          (subst (λ (items : List AstId). waking.WakesEach item_cmp (worklist_of new) (attributes_of new) between (attributes_of old) items)
          c.items.ensures.value c.in_ok-wake_each-2.ensures.woken);
    }
