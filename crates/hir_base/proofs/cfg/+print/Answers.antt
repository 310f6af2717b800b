-- The comma and the part follow what was printed before, which is the text of one part more. What stands in brackets is printed in three steps.
use Rattle.std.proofs.Common.{◌∙◌, ap, refl, sym}
use Rattle.std.proofs.Output.{has_written_append, has_written_of_eq}
use Rattle.hir_base.specs.Cfg.{unless, cfg_view, cfg_text}
use Rattle.hir_base.proofs.CfgLemmas.{cfg_view-all, cfg_view-any, cfg_view-not, parts_text-take, is_any-take}
use Rattle.hir_base.proofs.cfg.+print.Goals as goal

pub print-returns-in_ok-print_all-in-All : goal.print-returns-in_ok-print_all-in-All
print-returns-in_ok-print_all-in-All g t c = record {
  writes = λ plain ok.
      let first = c.in_ok-write_str-in-All.ensures.writes plain refl in
      let parts = c.in_ok-print_all-in-All.ensures.writes first.plain refl in
      let last = c.write_str-in-All-2.ensures.writes parts.plain ok in
      has_written_of_eq _ _ _ _ _ (ap cfg_text (sym (ap cfg_view c.in-All.is ∙ cfg_view-all c.in-All.parts)))
      (has_written_append _ _ _ _ _ _ first (has_written_append _ _ _ _ _ _ parts last));
}

pub print-returns-in_ok-print_all-in-Any : goal.print-returns-in_ok-print_all-in-Any
print-returns-in_ok-print_all-in-Any g t c = record {
  writes = λ plain ok.
      let first = c.in_ok-write_str-in-Any.ensures.writes plain refl in
      let parts = c.in_ok-print_all-in-Any.ensures.writes first.plain refl in
      let last = c.write_str-in-Any-2.ensures.writes parts.plain ok in
      has_written_of_eq _ _ _ _ _ (ap cfg_text (sym (ap cfg_view c.in-Any.is ∙ cfg_view-any c.in-Any.parts)))
      (has_written_append _ _ _ _ _ _ first (has_written_append _ _ _ _ _ _ parts last));
}

pub print-returns-in_ok-print-in-Not : goal.print-returns-in_ok-print-in-Not
print-returns-in_ok-print-in-Not g t c = record {
  writes = λ plain ok.
      let first = c.in_ok-write_str-in-Not.ensures.writes plain refl in
      let part = c.in_ok-print-in-Not.ensures.writes first.plain refl in
      let last = c.write_str-in-Not-2.ensures.writes part.plain ok in
      has_written_of_eq _ _ _ _ _
      (ap (λ p. cfg_text (unless (cfg_view p))) c.deref.ensures ∙ ap cfg_text (sym (ap cfg_view c.in-Not.is ∙ cfg_view-not c.in-Not.part)))
      (has_written_append _ _ _ _ _ _ first (has_written_append _ _ _ _ _ _ part last));
}

pub print_all-loop-part-preserved : goal.print_all-loop-part-preserved
print_all-loop-part-preserved g t c = (
  λ plain.
      let before = c.loop-part.invariant.0 plain in
      let comma = c.in_ok-print_comma.ensures.writes before.plain refl in
      let part = c.in_ok-print.ensures.writes comma.plain refl in
      has_written_of_eq _ _ _ _ _
      (parts_text-take c.deref-part-items.result.now c.loop-part.part-index c.part-item.result c.loop-part.later
      c.loop-part-test.true c.part-item.is c.loop-part.invariant.1)
      (has_written_append _ _ _ _ _ _ before (has_written_append _ _ _ _ _ _ comma part)),
  sym (is_any-take c.deref-part-items.result.now c.loop-part.part-index c.part-item.result c.loop-part-test.true),
)
