use Rattle.std.proofs.Common.{sym, ◌∙◌, arith, ◌<◌, length}
use Rattle.hir_collector_start.proofs.Untaken.{untaken_next, taken_next}
use Rattle.hir_collector_start.proofs.leftovers.untaken.Goals as goal
use Rattle.hir_collector_start.proofs.leftovers.untaken.Goals.{then-is_left_over+in_ok-push, else-is_left_over}

pub loop-i-preserved : goal.loop-i-preserved
loop-i-preserved c =
    let below : c.loop-i.i < length c.args.imports.now = omega arith in
    elim c.if-is_left_over.branch [
      | then-is_left_over+in_ok-push w ↦
          rw (w.leftover-is, w.in_ok-push.ensures.items, w.told.ensures.value)
          (untaken_next c.loop-i.leftover.items c.args.imports.now c.args.taken.now c.loop-i.i c.index-imports-i.result below c.index-imports-i.is
          (sym c.is_left_over.ensures.value ∙ w.if-is_left_over.true) c.loop-i.invariant)
      | else-is_left_over w ↦
          rw w.leftover-is
          (taken_next c.loop-i.leftover.items c.args.imports.now c.args.taken.now c.loop-i.i c.index-imports-i.result below c.index-imports-i.is
          (sym c.is_left_over.ensures.value ∙ w.if-is_left_over.false) c.loop-i.invariant)
    ]
