use Rattle.hir_session_machine.proofs.HirSessionAnswers.Differ.{differ_only}
use Rattle.hir_session_laws.proofs.laws.answers_differ_only_where_altered.Goals as goal

pub returns : goal.returns
returns c = record {
  law = differ_only c.runs_bind_from_sources.ensures.sources c.paths_answer_from_sources.ensures.sources c.paths_lead_to_what_is_there.ensures.there;
}
