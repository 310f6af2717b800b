use Rattle.std.proofs.Common.{drop}
use Rattle.hir_wire.specs.Values.{items_view}
use Rattle.hir_item_tree.specs.UseTree.{use_tree_view}
use Rattle.hir_wire.specs.Inner.Parts.{read_so_far}
use Rattle.hir_wire.specs.UseTrees.{trees_of}
use Rattle.hir_wire.proofs.ReadingLemmas.{Follows}
use Rattle.hir_wire.proofs.read.use_tree.+trees.Given as goal

-- the trees so far, and those of what is left, are the trees of all
abbrev pub invariant-read_items-loop-item : goal.invariant-read_items-loop-item
invariant-read_items-loop-item l =
    Follows use_tree_view (trees_of (items_view l.item-items)) (trees_of (items_view (drop l.item-index l.item-items))) (read_so_far l.parts)
