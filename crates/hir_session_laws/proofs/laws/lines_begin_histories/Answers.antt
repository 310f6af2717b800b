use Rattle.hir_session_machine.proofs.Histories as histories
use Rattle.hir_session_laws.proofs.laws.lines_begin_histories.Goals as goal

pub returns : goal.returns
returns c = record { law = histories.lines_begin_histories }
