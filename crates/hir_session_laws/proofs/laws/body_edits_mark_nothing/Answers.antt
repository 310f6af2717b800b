use Rattle.hir_session_laws.proofs.EditLaws as edits
use Rattle.hir_session_laws.proofs.laws.body_edits_mark_nothing.Goals as goal

pub returns : goal.returns
returns c = record {
  law = edits.body_edits_mark_nothing c.body_texts_leave_the_tree.ensures.law c.body_texts_leave_the_tree.ensures.sides;
  answers = edits.body_edits_leave_answers c.body_texts_leave_the_tree.ensures.law c.body_texts_leave_the_tree.ensures.sides;
}
