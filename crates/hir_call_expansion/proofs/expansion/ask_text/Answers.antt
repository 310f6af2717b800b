-- Nothing changes there.
use Rattle.hir_collector_state.proofs.Noted.{noted_itself}
use Rattle.hir_call_expansion.proofs.expansion.ask_text.Goals as goal

pub returns-in-ProcMacroId-clause-noted : goal.returns-in-ProcMacroId-clause-noted
returns-in-ProcMacroId-clause-noted c = noted_itself c.args.run.now
