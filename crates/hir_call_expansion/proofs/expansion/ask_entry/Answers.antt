-- An expansion gets a number, and is asked for.
use Rattle.std.proofs.Common.{ap}
use Rattle.hir_collector_state.specs.HirTables.Tables.{TablesValue}
use Rattle.hir_collector_state.proofs.HirCollectorRules.Numbers.{refused_full}
use Rattle.hir_call_expansion.proofs.expansion.ask_entry.Goals as goal

pub returns-clause-calls : goal.returns-clause-calls
returns-clause-calls c = ap (λ (t : TablesValue). t.calls) c.intern_entry.ensures.others

pub returns-in_err-ask-clause-calls : goal.returns-in_err-ask-clause-calls
returns-in_err-ask-clause-calls c = ap (λ (t : TablesValue). t.calls) c.intern_entry.ensures.others

pub returns-in_err-asked-clause-calls : goal.returns-in_err-asked-clause-calls
returns-in_err-asked-clause-calls c = ap (λ (t : TablesValue). t.calls) c.intern_entry.ensures.others

pub returns-clause-ok : goal.returns-clause-ok
returns-clause-ok c = (c.in_ok-asked.asked, c.in_ok-asked.ensures.found, c.in_ok-ask.ensures.ok)

pub returns-in_err-asked-clause-many : goal.returns-in_err-asked-clause-many
returns-in_err-asked-clause-many c = λ h. (
  c.intern_entry.ensures.too_many.0 (refused_full _ _ _ c.in_err-asked.was c.from_residual.ensures.1 h),
  c.in_err-asked.ensures.err,
)
