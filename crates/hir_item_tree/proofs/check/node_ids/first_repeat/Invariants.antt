use Rattle.std.proofs.Common.{◌≡◌, [], take, drop}
use Rattle.std.specs.HashSet.{contains}
use Rattle.std.specs.List.{list_any}
use Rattle.hir_item_tree.specs.SyntaxIds.{repeat_after}
use Rattle.hir_item_tree.specs.Types.{NodeId}
use Rattle.hir_item_tree.specs.contracts.check.NodeIdPartialEq.TheImpl.{ghosts}
use Rattle.hir_item_tree.proofs.check.node_ids.first_repeat.Given as goal

-- the set has the ids so far, and the first repeat is yet to come
abbrev pub invariant-loop-node : goal.invariant-loop-node
invariant-loop-node l = record {
  seen : (q : NodeId) → contains ghosts.eq l.seen q ≡ list_any (ghosts.eq q) (take l.node-index l.nodes);
  rest : repeat_after ghosts.eq (take l.node-index l.nodes) (drop l.node-index l.nodes) ≡ repeat_after ghosts.eq [] l.nodes;
}
