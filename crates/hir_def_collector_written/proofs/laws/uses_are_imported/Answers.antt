-- Back from the end: what a rule visits next is walked, and an import that is come upon stays.
use Rattle.hir_def_collector_written.proofs.Uses.{uses_are_imported}
use Rattle.hir_def_collector_written.proofs.laws.uses_are_imported.Goals as goal

pub returns : goal.returns
returns c = record { imported = uses_are_imported }
