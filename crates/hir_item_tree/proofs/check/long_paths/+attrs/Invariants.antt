use Rattle.std.proofs.Common.{◌≡◌, drop}
use Rattle.hir_item_tree.specs.Attributes.{attributes_view}
use Rattle.hir_item_tree.specs.Limits.{have_long_attribute}
use Rattle.hir_item_tree.proofs.check.long_paths.+attrs.Given as goal

-- there is a long path exactly where those that are left have one
abbrev pub invariant-any_long_attr-loop-attr : goal.invariant-any_long_attr-loop-attr
invariant-any_long_attr-loop-attr l =
    have_long_attribute (attributes_view (drop l.attr-index l.attr-items)) ≡ have_long_attribute (attributes_view l.attr-items)
