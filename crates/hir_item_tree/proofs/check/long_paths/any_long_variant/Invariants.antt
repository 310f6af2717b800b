use Rattle.std.proofs.Common.{◌≡◌, drop, map}
use Rattle.std.specs.List.{list_any}
use Rattle.hir_item_tree.specs.Limits.{has_long_variant}
use Rattle.hir_item_tree.specs.Source.{variant_view}
use Rattle.hir_item_tree.proofs.check.long_paths.any_long_variant.Given as goal

-- there is a long path exactly where those that are left have one
abbrev pub invariant-loop-variant : goal.invariant-loop-variant
invariant-loop-variant l =
    list_any has_long_variant (map variant_view (drop l.variant-index l.variants)) ≡ list_any has_long_variant (map variant_view l.variants)
