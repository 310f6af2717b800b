-- A copy notes the edge along which it came, an explicit binding forgets it, and in the end nothing is left to be done along an edge.
use Rattle.hir_def_collector_laws.proofs.GlobBindings.{globs_bring_what_is_shown}
use Rattle.hir_def_collector_laws.proofs.globs_bring_what_is_shown.Goals as goal

pub returns : goal.returns
returns c = record { shown = globs_bring_what_is_shown }
