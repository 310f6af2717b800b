-- Each call that is come upon is an item that is visited, and each of these is written in a tree that was asked for.
use Rattle.hir_def_collector_laws.proofs.Imports.{calls_are_written}
use Rattle.hir_def_collector_laws.proofs.calls_are_written.Goals as goal

pub returns : goal.returns
returns c = record { calls = calls_are_written }
