-- All blocks that wait are known but for those whose maps are left on the list.
use Rattle.std.proofs.Common.{length}
use Rattle.hir_session_core.specs.Progress.{ArePendingBut}
use Rattle.hir_session_core.proofs.session.Session.with_fallen.Given as goal

abbrev pub invariant-next : goal.invariant-next
invariant-next l = ArePendingBut l.fn.self l.all.keys l.fell.items

abbrev pub decreases-next : goal.decreases-next
decreases-next l = length l.fell.items
