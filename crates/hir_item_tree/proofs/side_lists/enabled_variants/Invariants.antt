use Rattle.std.proofs.Common.{◌≡◌, ◌++◌, drop, map}
use Rattle.hir_base.specs.CfgOptions.{is_set}
use Rattle.hir_item_tree.specs.Source.{variant_view}
use Rattle.hir_item_tree.specs.SideLists.{enabled_variants}
use Rattle.hir_item_tree.proofs.side_lists.enabled_variants.Given as goal

-- the variants so far, and those that are to come, are all
abbrev pub invariant-loop-variant : goal.invariant-loop-variant
invariant-loop-variant l =
    l.enabled.items ++ enabled_variants (is_set l.options) (map variant_view (drop l.variant-index l.variants))
    ≡ enabled_variants (is_set l.options) (map variant_view l.variants)
