use Rattle.hir_session_laws.proofs.KeptNames.{names_whole}
use Rattle.hir_session_laws.proofs.laws.names_are_told_whole.Goals as goal

pub returns : goal.returns
returns c = record {
  names = names_whole c.runs_bind_from_sources.ensures.sources c.paths_answer_from_sources.ensures.sources c.paths_lead_to_what_is_there.ensures.there;
}
