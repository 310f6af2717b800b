-- All that it comes upon is written in trees of files and of expansions.
use Rattle.hir_def_collector_laws.proofs.BlockKeys.{none_asked}
use Rattle.hir_def_collector_laws.proofs.laws.crates_ask_for_no_block.Goals as goal

pub returns : goal.returns
returns c = record { none = none_asked c.paths_answer_from_sources.ensures.sources c.paths_lead_to_what_is_there.ensures.there }
