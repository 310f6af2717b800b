use Rattle.std.proofs.Common.{◌≡◌, ◌≤◌, drop, length}
use Rattle.std.specs.BTreeMap.{get}
use Rattle.hir_item_tree.specs.Types.{NodeId}
use Rattle.hir_item_tree.specs.contracts.check.NodeIdOrd.TheImpl.{ghosts}
use Rattle.hir_item_tree.specs.SideIndex.{place_of}
use Rattle.hir_item_tree.proofs.source_tree.first_places.Given as goal

-- the places of the entries that were passed, from the last on
abbrev pub invariant-loop-left : goal.invariant-loop-left
invariant-loop-left l = record {
  within : l.left ≤ length l.entries.items;
  places : (n : NodeId) → get ghosts.cmp l.places n ≡ place_of n l.left (drop l.left l.entries.items);
}

abbrev pub decreases-loop-left : goal.decreases-loop-left
decreases-loop-left l = l.left
