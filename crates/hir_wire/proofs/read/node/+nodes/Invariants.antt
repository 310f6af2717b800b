use Rattle.std.proofs.Common.{drop}
use Rattle.hir_wire.specs.Values.{items_view}
use Rattle.hir_item_tree.specs.Source.{node_view}
use Rattle.hir_wire.specs.Inner.Parts.{read_so_far}
use Rattle.hir_wire.specs.Nodes.{nodes_of}
use Rattle.hir_wire.proofs.ReadingLemmas.{Follows}
use Rattle.hir_wire.proofs.read.node.+nodes.Given as goal

-- the nodes so far, and those of what is left, are the nodes of all
abbrev pub invariant-read_items-loop-item : goal.invariant-read_items-loop-item
invariant-read_items-loop-item l =
    Follows node_view (nodes_of (items_view l.item-items)) (nodes_of (items_view (drop l.item-index l.item-items))) (read_so_far l.parts)
