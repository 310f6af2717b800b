use Rattle.std.proofs.Common.{◌≡◌, drop}
use Rattle.hir_item_tree.specs.Attributes.{attributes_view}
use Rattle.hir_base.specs.CfgOptions.{is_set}
use Rattle.hir_item_tree.specs.Collected.{collected_of, collect_all, merge}
use Rattle.hir_item_tree.proofs.attrs.+collect.Given as goal

-- what is collected so far, with what the attributes that are left leave, is what all leave
abbrev pub invariant-collect_all-loop-attr : goal.invariant-collect_all-loop-attr
invariant-collect_all-loop-attr l =
    merge (collected_of l.out) (collect_all (is_set l.options) (attributes_view (drop l.attr-index l.attr-items)) l.id)
    ≡ merge (collected_of l.initial.out) (collect_all (is_set l.options) (attributes_view l.attr-items) l.first)
