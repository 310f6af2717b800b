use Rattle.hir_session_machine.proofs.Headline.{headline}
use Rattle.hir_session_laws.proofs.laws.replies_hold_the_headline.Goals as goal

pub returns : goal.returns
returns c = record {
  law = headline c.runs_bind_from_sources.ensures.sources c.paths_answer_from_sources.ensures.sources c.paths_lead_to_what_is_there.ensures.there;
}
