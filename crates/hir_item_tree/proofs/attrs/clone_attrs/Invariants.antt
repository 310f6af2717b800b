use Rattle.std.proofs.Common.{◌≡◌, take, map}
use Rattle.hir_item_tree.specs.Collected.{numbered}
use Rattle.hir_item_tree.proofs.attrs.clone_attrs.Given as goal

-- those so far are there again
abbrev pub invariant-loop-attr : goal.invariant-loop-attr
invariant-loop-attr l = map numbered l.copies.items ≡ map numbered (take l.attr-index l.attr-items)
