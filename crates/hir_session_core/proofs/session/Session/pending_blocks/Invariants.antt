-- Each block that is to be resolved is among those that were collected, or among those that are left.
use Rattle.std.proofs.Common.{length, map}
use Rattle.hir_session_state.specs.Blocks.{place_of_block}
use Rattle.hir_session_core.proofs.Pending.{IsCollecting}
use Rattle.hir_session_core.proofs.session.Session.pending_blocks.Given as goal

abbrev pub invariant-next : goal.invariant-next
invariant-next l = IsCollecting l.fn.self l.pending (map (λ p. place_of_block p.now) l.left.items)

abbrev pub decreases-next : goal.decreases-next
decreases-next l = length l.left.items
