use Rattle.hir_session_laws.proofs.EditLaws as edits
use Rattle.hir_session_laws.proofs.laws.remove_absent_expansion_marks_nothing.Goals as goal

pub returns : goal.returns
returns c = record {
  law = edits.remove_absent_expansion_marks_nothing;
  answers = edits.remove_absent_expansion_leaves_answers;
}
