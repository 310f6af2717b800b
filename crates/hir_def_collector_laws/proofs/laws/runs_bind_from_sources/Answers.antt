-- It begins with what its root file writes, and each step adds only that or what a path answers.
use Rattle.std.proofs.Common.{refl}
use Rattle.hir_collector_rules.specs.Start.{read_by}
use Rattle.hir_def_collector_laws.proofs.Sourced.{ends_sourced}
use Rattle.hir_def_collector_laws.proofs.laws.runs_bind_from_sources.Goals as goal

pub returns : goal.returns
returns c = record {
  sources = λ t tables w finished from answer whole stands begins e clear.
      ends_sourced t c.paths_answer_from_sources.ensures.sources c.paths_lead_to_what_is_there.ensures.there (read_by w finished from.start) whole tables w
      finished from answer refl stands begins e clear;
}
