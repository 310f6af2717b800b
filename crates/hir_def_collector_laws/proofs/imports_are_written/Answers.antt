-- Each item that is visited is written in a tree that was asked for, and so is each import that one of them writes.
use Rattle.hir_def_collector_laws.proofs.Imports.{globs_are_written, imports_are_written, leftovers_are_written}
use Rattle.hir_def_collector_laws.proofs.imports_are_written.Goals as goal

pub returns : goal.returns
returns c = record { reached = imports_are_written; leftover = leftovers_are_written; globs = globs_are_written }
