-- A macro that can be expanded changes nothing.
use Rattle.hir_collector_state.proofs.Noted.{noted_itself}
use Rattle.hir_collector_macros.proofs.macros.report.Goals as goal

pub returns-then-not-is_unimplemented-clause-noted : goal.returns-then-not-is_unimplemented-clause-noted
returns-then-not-is_unimplemented-clause-noted c = noted_itself c.args.run.now
