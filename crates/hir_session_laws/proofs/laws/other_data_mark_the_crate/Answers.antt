use Rattle.hir_session_laws.proofs.EditLaws as edits
use Rattle.hir_session_laws.proofs.laws.other_data_mark_the_crate.Goals as goal

pub returns : goal.returns
returns c = record { law = edits.other_data_mark_the_crate }
