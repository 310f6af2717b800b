use Rattle.std.proofs.Common.{◌≡◌, length}
use Rattle.hir_item_tree.specs.AttrQuery.{keyed_left, trees_left}
use Rattle.hir_item_tree.proofs.attr_query.TokenTreesIterator.next.Given as goal

-- those that were passed have nothing in parentheses
abbrev pub invariant-loop-attr : goal.invariant-loop-attr
invariant-loop-attr l = trees_left l.self ≡ trees_left l.initial.self

abbrev pub decreases-loop-attr : goal.decreases-loop-attr
decreases-loop-attr l = length (keyed_left l.self.attrs)
