-- What it reaches is written in what it asked for, or bound by the maps beside it.
use Rattle.hir_def_collector_laws.proofs.KnownSources.{meets_no_unknown_source}
use Rattle.hir_def_collector_laws.proofs.laws.runs_meet_no_unknown_source.Goals as goal

pub returns : goal.returns
returns c = record { known = meets_no_unknown_source c.paths_answer_from_sources.ensures.sources c.paths_lead_to_what_is_there.ensures.there }
