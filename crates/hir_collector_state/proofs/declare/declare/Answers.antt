-- What each part notes, all note.
use Rattle.hir_collector_state.proofs.Noted.{noted_follow}
use Rattle.hir_collector_state.proofs.declare.declare.Goals as goal

pub returns-clause-noted : goal.returns-clause-noted
returns-clause-noted c = noted_follow c.in_ok-bind.ensures.noted c.in_ok-tick.ensures.noted
