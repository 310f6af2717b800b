use Rattle.std.proofs.Common.{◌↔◌, ◌≤◌, drop}
use Rattle.hir_item_tree.specs.Attributes.{attributes_view}
use Rattle.hir_item_tree.specs.Limits.{attributes_depth}
use Rattle.hir_item_tree.proofs.check.nesting.+attrs.Given as goal

-- all fit exactly where those that are left do
abbrev pub invariant-fit_attrs-loop-attr : goal.invariant-fit_attrs-loop-attr
invariant-fit_attrs-loop-attr l =
    (attributes_depth (attributes_view (drop l.attr-index l.attr-items)) ≤ l.left) ↔ (attributes_depth (attributes_view l.attr-items) ≤ l.left)
