use Rattle.hir_use_tree.specs.Calls.{HandsOut, HandsOutPartly}
use Rattle.hir_use_tree.specs.Inner.Leaves.{pending, weight}
use Rattle.hir_use_tree.proofs.expand.hand_out.Given as goal

-- what the calls to come make of the rest, all calls make of all
abbrev pub invariant-loop-levels : goal.invariant-loop-levels
invariant-loop-levels g l = record {
  callable : goal.F-IsAlwaysCallable g l.cb;
  ok : (last : _) → HandsOut (goal.F-step g) l.cb (pending l.levels.items) last → HandsOut (goal.F-step g) l.initial.cb (pending l.initial.levels.items) last;
  err : (last : _) → HandsOutPartly (goal.F-step g) l.cb (pending l.levels.items) last → HandsOutPartly (goal.F-step g) l.initial.cb
      (pending l.initial.levels.items) last;
}

abbrev pub decreases-loop-levels : goal.decreases-loop-levels
decreases-loop-levels g l = weight l.levels.items
