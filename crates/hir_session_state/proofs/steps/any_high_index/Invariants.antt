use Rattle.std.proofs.Common.{◌≡◌, drop}
use Rattle.std.specs.List.{list_any}
use Rattle.hir_session_state.specs.Refusals.{has_high_index}
use Rattle.hir_session_state.proofs.steps.any_high_index.Given as goal

-- there is one exactly where there is one among those that are left
abbrev pub invariant-loop-step : goal.invariant-loop-step
invariant-loop-step l = list_any has_high_index (drop l.step-index l.steps) ≡ list_any has_high_index l.steps
