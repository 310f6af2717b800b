use Rattle.hir_session_laws.proofs.Numbering.{change_no_answer}
use Rattle.hir_session_laws.proofs.laws.numbers_change_no_answer.Goals as goal

pub returns : goal.returns
returns c = record {
  law = change_no_answer c.runs_bind_from_sources.ensures.sources c.paths_answer_from_sources.ensures.sources c.paths_lead_to_what_is_there.ensures.there;
}
