-- Each block that waits is among those that are left to look at, or among those that were found to wait, and these all do.
use Rattle.std.proofs.Common.{length}
use Rattle.hir_session_core.proofs.Awaiting.{AreSifted}
use Rattle.hir_session_core.proofs.session.Session.still_pending.Given as goal

abbrev pub invariant-next : goal.invariant-next
invariant-next l = AreSifted l.fn.self l.pending.keys l.left.keys

abbrev pub decreases-next : goal.decreases-next
decreases-next l = length l.pending.keys
