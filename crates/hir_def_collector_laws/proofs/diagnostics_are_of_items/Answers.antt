-- What is visited is written in a tree that was asked for, and so is each import that is left over.
use Rattle.hir_def_collector_laws.proofs.Diagnostics.{diagnostics_are_of_items}
use Rattle.hir_def_collector_laws.proofs.diagnostics_are_of_items.Goals as goal

pub returns : goal.returns
returns c = record { diagnostics = diagnostics_are_of_items }
