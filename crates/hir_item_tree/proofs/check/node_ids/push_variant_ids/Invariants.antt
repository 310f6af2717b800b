use Rattle.std.proofs.Common.{◌≡◌, ◌++◌, take, map}
use Rattle.hir_item_tree.specs.Source.{variant_view}
use Rattle.hir_item_tree.specs.SyntaxIds.{variant_id}
use Rattle.hir_item_tree.proofs.check.node_ids.push_variant_ids.Given as goal

-- the ids so far are there
abbrev pub invariant-loop-variant : goal.invariant-loop-variant
invariant-loop-variant l = l.out.items ≡ l.initial.out.items ++ map variant_id (map variant_view (take l.variant-index l.variants))
