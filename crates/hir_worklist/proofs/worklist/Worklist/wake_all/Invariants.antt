use Rattle.std.proofs.Common.{ℕ, ◌<◌}
use Rattle.hir_worklist.specs.Queue.{IsIdle}
use Rattle.hir_worklist.specs.Waking.{IsSamePass, KeepsQueued}
use Rattle.hir_worklist.proofs.worklist.Worklist.wake_all.Given as goal

abbrev pub invariant-loop-position : goal.invariant-loop-position
invariant-loop-position l = record {
  pass : IsSamePass l.initial.self l.self;
  queued : KeepsQueued l.initial.self l.self;
  none : (p : ℕ) → p < l.position → ¬ IsIdle l.self p;
}
