use Rattle.hir_session_laws.proofs.EditLaws as edits
use Rattle.hir_session_laws.proofs.laws.unasked_sources_mark_nothing.Goals as goal

pub returns : goal.returns
returns c = record {
  law = edits.unasked_sources_mark_nothing;
  answers = edits.unasked_sources_leave_answers;
  current =
      edits.unasked_sources_leave_current_answers c.runs_bind_from_sources.ensures.sources c.paths_answer_from_sources.ensures.sources
      c.paths_lead_to_what_is_there.ensures.there;
}
