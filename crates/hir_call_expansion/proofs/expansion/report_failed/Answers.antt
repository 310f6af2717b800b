-- Where nothing failed nothing changes.
use Rattle.hir_collector_state.proofs.Noted.{noted_itself}
use Rattle.hir_call_expansion.proofs.expansion.report_failed.Goals as goal

pub returns-in_default-clause-noted : goal.returns-in_default-clause-noted
returns-in_default-clause-noted c = noted_itself c.args.run.now
