-- One more is woken in each turn.
use Rattle.std.proofs.Common.{◌∙◌, ◌+◌, ◌++◌, List, ap, drop, option_copied, rules}
use Rattle.hir_nameres.specs.declared.nameres.path_resolution.slots.Slot.{Slot as PathSlot}
use Rattle.hir_import_resolution.specs.Inner.State.{path_slots}
use Rattle.hir_import_resolution.proofs.Waking.{reported_all, reported_next, wakes_next, wakes_no_more}
use Rattle.hir_worklist.proofs.Passes.{pass_join}
use Rattle.hir_import_resolution.proofs.resolver.watch.wake_each.Goals as goal

pub loop-slot-preserved : goal.loop-slot-preserved
loop-slot-preserved c = record {
  woken = λ r after then. c.loop-slot.invariant.woken r after
      (wakes_next c.args.slots.now c.slot-item.result (option_copied c.name.result) c.loop-slot.slot-index r after c.loop-slot.worklist
      c.wake_named.new.worklist c.loop-slot.watchers c.wake_named.new.watchers
      c.loop-slot-test.true (search (rules, c.slot-item.is)) c.name.ensures.value c.in_ok-wake_named.ensures.woken then);
  reported =
      ap (λ (told : List PathSlot). told ++ path_slots (drop (c.loop-slot.slot-index + 1) c.args.slots.now)) c.in_ok-wake_named.ensures.reported
      ∙ reported_next c.args.slots.now c.slot-item.result (option_copied c.name.result) c.loop-slot.slot-index c.loop-slot.reported.items c.loop-slot-test.true
      (search (rules, c.slot-item.is)) c.name.ensures.value
      ∙ c.loop-slot.invariant.reported;
  pass = pass_join c.args.worklist.now c.loop-slot.worklist c.wake_named.new.worklist c.loop-slot.invariant.pass c.in_ok-wake_named.ensures.pass;
}

pub returns-clause-woken : goal.returns-clause-woken
returns-clause-woken c =
    c.loop-slot.invariant.woken c.loop-slot.worklist c.loop-slot.watchers
    (wakes_no_more c.args.slots.now c.loop-slot.slot-index c.loop-slot.worklist c.loop-slot.watchers c.loop-slot-test.false)

pub returns-clause-reported : goal.returns-clause-reported
returns-clause-reported c =
    reported_all c.args.slots.now c.loop-slot.slot-index c.loop-slot.reported.items c.loop-slot-test.false ∙ c.loop-slot.invariant.reported
