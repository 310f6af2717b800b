use Rattle.std.proofs.Common.{◌≡◌, ◌+◌, ◌≤◌, drop}
use Rattle.hir_session_state.specs.Blocks.{nesting_of}
use Rattle.hir_session_state.proofs.steps.nesting.Given as goal

-- those so far are counted
abbrev pub invariant-loop-step : goal.invariant-loop-step
invariant-loop-step l = record {
  counted : l.count + nesting_of (drop l.step-index l.steps) ≡ nesting_of l.steps;
  few : l.count ≤ l.step-index;
}
