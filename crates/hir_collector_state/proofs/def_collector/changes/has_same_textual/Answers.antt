-- Macros in textual scope that compare as equal are the same.
use Rattle.std.proofs.Common.{◌≡◌, ◌∙◌, ap, sym}
use Rattle.hir_collector_rules.specs.Macros.{textual_at, textual_in}
use Rattle.hir_collector_state.proofs.SameMacros.{exact_macros}
use Rattle.hir_collector_state.proofs.def_collector.changes.has_same_textual.Goals as goal

pub returns : goal.returns
returns c = record {
  same = λ yes.
      let own : textual_at c.args.map.now c.args.home ≡ c.in-Some.own.now.legacy_macros = ap textual_in (sym c.in-Some.ensures.value) in
      let other : textual_at c.args.map.now c.args.from ≡ c.in-Some-scope.other.now.legacy_macros = ap textual_in (sym c.in-Some-scope.ensures.value) in
      own ∙ sym c.textual_scope-macros.ensures.value ∙ exact_macros c.textual_scope-macros.result.now c.textual_scope.result.now (sym c.eq.ensures ∙ yes)
      ∙ c.textual_scope.ensures.value ∙ sym other;
}
