-- What may join is refused for want of memory alone.
use Rattle.hir_session_state.proofs.KeptLemmas.{only_memory}
use Rattle.hir_session_state.proofs.Truth.{clash}
use Rattle.hir_session_state.proofs.kept.insert.Goals as goal
use Rattle.hir_session_state.proofs.kept.insert.Goals.{in-Memory, in_default}

pub prove-unreachable-requires : goal.prove-unreachable-requires
prove-unreachable-requires c =
    let memory = only_memory _ c.in-Err.refused.why c.requires.may c.in-Err.ensures.answer.2 in
    elim c.match-matches.branch [
      | in-Memory w ↦ clash w.matches-is c.if-prove.true
      | in_default w ↦ w.in_default.not-Memory memory
    ]
