use Rattle.std.proofs.Common.{drop}
use Rattle.hir_wire.specs.Values.{items_view}
use Rattle.hir_item_tree.specs.Attributes.{attribute_view}
use Rattle.hir_wire.specs.Inner.Parts.{read_so_far}
use Rattle.hir_wire.specs.Attributes.{each_attribute_of}
use Rattle.hir_wire.proofs.ReadingLemmas.{Follows}
use Rattle.hir_wire.proofs.read.attribute.+attributes.Given as goal

-- the attributes so far, and those of what is left, are the attributes of all
abbrev pub invariant-read_attribute_items-loop-item : goal.invariant-read_attribute_items-loop-item
invariant-read_attribute_items-loop-item l =
    Follows attribute_view (each_attribute_of (items_view l.item-items)) (each_attribute_of (items_view (drop l.item-index l.item-items))) (read_so_far l.parts)
