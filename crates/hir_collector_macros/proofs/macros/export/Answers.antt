-- A macro that isn't exported changes nothing.
use Rattle.hir_collector_state.proofs.Noted.{noted_itself}
use Rattle.hir_collector_macros.proofs.macros.export.Goals as goal

pub returns-then-not-is_exported-clause-noted : goal.returns-then-not-is_exported-clause-noted
returns-then-not-is_exported-clause-noted c = noted_itself c.args.run.now
