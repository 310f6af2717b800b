use Rattle.std.proofs.Common.{◌≡◌, ◌+◌, drop}
use Rattle.hir_use_tree.specs.UseTree.{count_of}
use Rattle.hir_item_tree.specs.Attributes.{attributes_view, attributes_size}
use Rattle.hir_item_tree.proofs.raw_attr.+count.Given as goal

-- what is counted so far, with what is left, is the count of all
abbrev pub invariant-count_list-loop-attr : goal.invariant-count_list-loop-attr
invariant-count_list-loop-attr l = record {
  fits : count_of l.count ≡ l.count;
  counted : count_of (l.count + attributes_size (attributes_view (drop l.attr-index l.attr-items))) ≡ count_of (attributes_size (attributes_view l.attr-items));
}
