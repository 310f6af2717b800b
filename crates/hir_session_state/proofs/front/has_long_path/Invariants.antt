use Rattle.std.proofs.Common.{◌≡◌, drop, map}
use Rattle.std.specs.List.{list_any}
use Rattle.hir_messages.specs.CommandValue.{crate_input_view}
use Rattle.hir_session_state.specs.Refusals.{is_too_long}
use Rattle.hir_session_state.proofs.front.has_long_path.Given as goal

-- there is one exactly where there is one among those that are left
abbrev pub invariant-loop-input : goal.invariant-loop-input
invariant-loop-input l =
    list_any is_too_long (map crate_input_view (drop l.input-index l.inputs.items)) ≡ list_any is_too_long (map crate_input_view l.inputs.items)
