-- What `number_behind` finds.
use Rattle.std.proofs.Common.{◌∙◌, IfSome, Option, ℕ, sym, subst}
use Rattle.hir_session_main.specs.Labels.{StandsBehind}
use Rattle.hir_session_main.proofs.Labels.{found_behind}
use Rattle.hir_session_main.proofs.limits.number_behind.Goals as goal

pub returns : goal.returns
returns c = record {
  found = subst (λ (o : Option ℕ). IfSome o (StandsBehind c.args.label.now c.args.text.now)) (sym c.ok.ensures.value)
      (found_behind c.args.label.now c.args.text.now c.in_ok-rest.ensures.cases.0 c.in_ok-rest.ensures.cases.1 c.in_ok-rest.ensures.cases.2
      c.split_whitespace.result c.next.new.self c.in_ok-next.field-0 (c.split_whitespace.ensures.rest ∙ c.in_ok-rest.ensures.cases.4) c.in_ok-next.ensures.steps
      c.parse.result c.parse.ensures.value.0);
}
