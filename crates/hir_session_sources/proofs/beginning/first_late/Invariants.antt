use Rattle.std.proofs.Common.{◌≡◌, drop, map}
use Rattle.hir_session_state.specs.HirMessages.CommandValue.{crate_input_view}
use Rattle.hir_session_state.specs.Refusals.{first_out_of_order}
use Rattle.hir_session_sources.proofs.beginning.first_late.Given as goal

abbrev pub invariant-loop-k : goal.invariant-loop-k
invariant-loop-k l = first_out_of_order l.k (map crate_input_view (drop l.k l.inputs.items)) ≡ first_out_of_order 0 (map crate_input_view l.inputs.items)
