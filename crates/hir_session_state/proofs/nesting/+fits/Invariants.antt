use Rattle.std.proofs.Common.{◌↔◌, ◌≤◌, drop}
use Rattle.hir_collector_rules.specs.HirItemTree.Source.{nodes_view}
use Rattle.hir_session_state.specs.Nesting.{items_nesting}
use Rattle.hir_session_state.proofs.nesting.+fits.Given as goal

-- all fit exactly where those that are left do
abbrev pub invariant-fit_nesting-loop-node : goal.invariant-fit_nesting-loop-node
invariant-fit_nesting-loop-node l =
    (items_nesting (nodes_view (drop l.node-index l.node-items)) ≤ l.left) ↔ (items_nesting (nodes_view l.node-items) ≤ l.left)
