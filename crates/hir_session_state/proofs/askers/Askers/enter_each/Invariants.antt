-- What is left is still to be entered.
use Rattle.std.proofs.Common.{drop}
use Rattle.hir_session_state.proofs.Entering.{IsEntering}
use Rattle.hir_session_state.proofs.askers.Askers.enter_each.Given as goal

abbrev pub invariant-loop-key : goal.invariant-loop-key
invariant-loop-key l = IsEntering l.tables l.initial.self l.self l.keys (drop l.key-index l.keys) l.id
