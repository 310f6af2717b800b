use Rattle.hir_session_laws.proofs.EditLaws as edits
use Rattle.hir_session_laws.proofs.laws.same_data_mark_nothing.Goals as goal

pub returns : goal.returns
returns c = record { law = edits.same_data_mark_nothing; answers = edits.same_data_leave_answers }
