use Rattle.std.proofs.Common.{◌≡◌, length}
use Rattle.hir_item_tree.specs.AttrQuery.{attrs_behind}
use Rattle.hir_item_tree.proofs.attr_query.Attrs.iter_after.Given as goal

-- none with the number has been passed
abbrev pub invariant-loop-first : goal.invariant-loop-first
invariant-loop-first l = attrs_behind l.id l.left ≡ attrs_behind l.id l.self.attrs.now

abbrev pub decreases-loop-first : goal.decreases-loop-first
decreases-loop-first l = length l.left
