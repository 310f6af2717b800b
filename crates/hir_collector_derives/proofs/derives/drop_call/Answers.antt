-- A call that is too deep is handled, and one step is counted.
use Rattle.std.proofs.Common.{rules, ◌∙◌, ◌≤◌, ap, subst}
use Rattle.hir_collector_state.specs.HirCollectorRules.declared.start.TheConstants.{STEP_LIMIT}
use Rattle.hir_collector_state.specs.HirCollectorRules.State.{Core, counted}
use Rattle.hir_collector_state.proofs.Noted.{noted_follow}
use Rattle.hir_collector_derives.proofs.derives.drop_call.Goals as goal

pub returns-clause-ok : goal.returns-clause-ok
returns-clause-ok c = c.in_ok-tick.ensures.ok ∙ ap counted c.end_call.ensures.value

pub returns-in_err-tick-clause-many : goal.returns-in_err-tick-clause-many
returns-in_err-tick-clause-many c = λ h. subst (λ (x : Core). STEP_LIMIT ≤ x.count) c.end_call.ensures.value (c.in_err-tick.ensures.many (search rules))

pub returns-clause-noted : goal.returns-clause-noted
returns-clause-noted c = noted_follow c.end_call.ensures.noted c.in_ok-tick.ensures.noted
