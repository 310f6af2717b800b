use Rattle.hir_session_laws.proofs.EditLaws as edits
use Rattle.hir_session_laws.proofs.laws.set_absent_file_marks.Goals as goal

pub returns : goal.returns
returns c = record { law = edits.set_absent_file_marks }
