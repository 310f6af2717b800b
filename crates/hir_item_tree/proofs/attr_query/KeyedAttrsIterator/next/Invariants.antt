use Rattle.std.proofs.Common.{◌≡◌, length}
use Rattle.hir_item_tree.specs.AttrQuery.{keyed_left}
use Rattle.hir_item_tree.proofs.attr_query.KeyedAttrsIterator.next.Given as goal

-- those that were passed haven't the key
abbrev pub invariant-loop-attr : goal.invariant-loop-attr
invariant-loop-attr l = keyed_left l.self ≡ keyed_left l.initial.self

abbrev pub decreases-loop-attr : goal.decreases-loop-attr
decreases-loop-attr l = length l.self.left.now
