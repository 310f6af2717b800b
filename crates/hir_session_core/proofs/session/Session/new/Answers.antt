-- Nothing is said against the crates.
use Rattle.std.proofs.Common.{◌≤◌, ◌∙◌, sym, length, arith}
use Rattle.hir_session_state.specs.HirMessages.CommandValue.{crate_input_view}
use Rattle.hir_session_core.proofs.Verdicts.{accepted_by}
use Rattle.hir_session_core.proofs.session.Session.new.Goals as goal

pub returns-clause-accepted : goal.returns-clause-accepted
returns-clause-accepted c =
    let few : length c.args.inputs.items ≤ 10000 = omega (arith, c.if-count-gt-MAX_CRATES.false, c.as_slice-count.ensures.len) in
    accepted_by crate_input_view c.args.inputs.items
    c.in_default.ensures.value
    (sym c.has_long_path.ensures.value ∙ c.if-has_long_path.false)
    (sym c.has_deep_condition.ensures.value ∙ c.if-has_deep_condition.false)
    few
