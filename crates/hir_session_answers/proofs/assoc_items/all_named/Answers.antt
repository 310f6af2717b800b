-- The next item is told where it has a source.
use Rattle.std.proofs.Common.{◌<◌, ◌∙◌, sym, length, arith}
use Rattle.hir_session_answers.specs.AssocItems.{named_source}
use Rattle.hir_session_answers.proofs.Diagnosing.{none_more, some_more}
use Rattle.hir_session_answers.proofs.assoc_items.all_named.Goals as goal
use Rattle.hir_session_answers.proofs.assoc_items.all_named.Goals.{in-Some+in_ok-push, in_default}

pub loop-item-preserved : goal.loop-item-preserved
loop-item-preserved c =
    let within : c.loop-item.item-index < length c.args.items.now = omega (arith, c.loop-item-test.true) in
    elim c.match-branch-2.branch [
      | in-Some+in_ok-push w ↦
          rw (w.told-is, w.in_ok-push.ensures.items)
          (some_more (named_source c.args.tables.now) c.args.items.now c.loop-item.item-index
          c.item-item.result w.in-Some.next within c.item-item.is (sym c.in_ok-next.ensures.value ∙ w.in-Some.is) _ c.loop-item.invariant)
      | in_default w ↦
          rw w.told-is
          (none_more (named_source c.args.tables.now) c.args.items.now c.loop-item.item-index
          c.item-item.result within c.item-item.is (sym c.in_ok-next.ensures.value ∙ w.in_default.is) _ c.loop-item.invariant)
    ]
