-- On from the start: only the next item binds without an import, and what a glob is noted to have brought has one.
use Rattle.hir_def_collector_written.proofs.OwnEnded.{bindings_are_declared}
use Rattle.hir_def_collector_written.proofs.laws.bindings_are_declared.Goals as goal

pub returns : goal.returns
returns c = record { declared = bindings_are_declared }
