-- The next call is told where it has a source.
use Rattle.std.proofs.Common.{◌<◌, ◌∙◌, sym, length, arith}
use Rattle.hir_session_answers.specs.AssocItems.{called_source}
use Rattle.hir_session_answers.proofs.Diagnosing.{none_next, some_next}
use Rattle.hir_session_answers.proofs.assoc_items.all_called.Goals as goal
use Rattle.hir_session_answers.proofs.assoc_items.all_called.Goals.{in-Some+in_ok-push, in_default}

pub loop-call-preserved : goal.loop-call-preserved
loop-call-preserved c =
    let within : c.loop-call.call-index < length c.args.calls.now = omega (arith, c.loop-call-test.true) in
    elim c.match-branch-2.branch [
      | in-Some+in_ok-push w ↦
          rw (w.told-is, w.in_ok-push.ensures.items)
          (some_next (called_source c.args.tables.now) c.args.calls.now c.loop-call.call-index _ w.in-Some.next within
          (sym c.in_ok-next.ensures.value ∙ w.in-Some.is) _ c.loop-call.invariant)
      | in_default w ↦
          rw w.told-is
          (none_next (called_source c.args.tables.now) c.args.calls.now c.loop-call.call-index _ within
          (sym c.in_ok-next.ensures.value ∙ w.in_default.is) _ c.loop-call.invariant)
    ]
