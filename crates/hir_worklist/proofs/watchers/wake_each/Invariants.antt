-- Those that were passed are woken.
use Rattle.std.proofs.Common.{ℕ, take}
use Rattle.hir_worklist.specs.Moves.{Wakes}
use Rattle.hir_worklist.specs.Queue.{is_among}
use Rattle.hir_worklist.proofs.watchers.wake_each.Given as goal

abbrev pub invariant-loop-position : goal.invariant-loop-position
invariant-loop-position l = Wakes l.fn.worklist l.worklist (λ (p : ℕ). is_among p (take l.position-index l.positions))
