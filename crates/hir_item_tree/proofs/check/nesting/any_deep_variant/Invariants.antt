use Rattle.std.proofs.Common.{◌≡◌, drop, map}
use Rattle.std.specs.List.{list_any}
use Rattle.hir_item_tree.specs.Limits.{is_deep_variant}
use Rattle.hir_item_tree.specs.Source.{variant_view}
use Rattle.hir_item_tree.proofs.check.nesting.any_deep_variant.Given as goal

-- there is a deep condition exactly where those that are left have one
abbrev pub invariant-loop-variant : goal.invariant-loop-variant
invariant-loop-variant l =
    list_any is_deep_variant (map variant_view (drop l.variant-index l.variants)) ≡ list_any is_deep_variant (map variant_view l.variants)
