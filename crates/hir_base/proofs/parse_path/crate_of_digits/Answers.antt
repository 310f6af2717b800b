-- Without a plus in front `parse` reads just the digits.
use Rattle.std.proofs.Common.{sym, ◌∙◌}
use Rattle.std.proofs.lemmas.Bool.{eqb-false}
use Rattle.std.proofs.lemmas.Result.{MatchResult-at_ok, MatchResult-at_err}
use Rattle.hir_base.proofs.DigitLemmas.{digits_parsed}
use Rattle.hir_base.proofs.parse_path.crate_of_digits.Goals as goal

pub returns-in-Ok : goal.returns-in-Ok
returns-in-Ok c = record {
  value =
      MatchResult-at_ok _ _ c.in-Ok.number c.in-Ok.is
      (digits_parsed c.args.digits.now c.parse.result (eqb-false _ _ (sym c.begins_with_plus.ensures.value ∙ c.if-begins_with_plus.false))
      c.parse.ensures.value.0);
}

pub returns-in-Err : goal.returns-in-Err
returns-in-Err c = record {
  value =
      MatchResult-at_err _ _ c.in-Err.field-0 c.in-Err.is
      (digits_parsed c.args.digits.now c.parse.result (eqb-false _ _ (sym c.begins_with_plus.ensures.value ∙ c.if-begins_with_plus.false))
      c.parse.ensures.value.0);
}
