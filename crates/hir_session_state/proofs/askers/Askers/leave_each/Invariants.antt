-- What is left is still to be taken out.
use Rattle.std.proofs.Common.{drop}
use Rattle.hir_session_state.proofs.Entering.{IsLeaving}
use Rattle.hir_session_state.proofs.askers.Askers.leave_each.Given as goal

abbrev pub invariant-loop-key : goal.invariant-loop-key
invariant-loop-key l = IsLeaving l.tables l.initial.self l.self l.keys (drop l.key-index l.keys) l.id
