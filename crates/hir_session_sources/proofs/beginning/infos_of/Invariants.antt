use Rattle.hir_session_sources.proofs.Start.{IsBeginning}
use Rattle.hir_session_sources.proofs.beginning.infos_of.Given as goal

abbrev pub invariant-loop-input : goal.invariant-loop-input
invariant-loop-input l = IsBeginning l.input-index l.inputs.items l.infos.items l.initial.tables l.tables
