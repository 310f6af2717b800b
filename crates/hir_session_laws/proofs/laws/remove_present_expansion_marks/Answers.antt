use Rattle.hir_session_laws.proofs.EditLaws as edits
use Rattle.hir_session_laws.proofs.laws.remove_present_expansion_marks.Goals as goal

pub returns : goal.returns
returns c = record { law = edits.remove_present_expansion_marks }
