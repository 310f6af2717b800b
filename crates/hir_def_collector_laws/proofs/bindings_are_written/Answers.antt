-- Only imports that were found push what they bring or keep a trait, each in its own module, and only recorded globs copy, into theirs.
use Rattle.hir_def_collector_laws.proofs.Bindings.{bindings_are_written, unnamed_traits_are_written}
use Rattle.hir_def_collector_laws.proofs.bindings_are_written.Goals as goal

pub returns : goal.returns
returns c = record { bindings = bindings_are_written; traits = unnamed_traits_are_written }
