use Rattle.std.proofs.Common.{◌≡◌, ◌↔◌, drop}
use Rattle.std.specs.Prelude.{vec_len}
use Rattle.hir_item_tree.specs.Attributes.{attributes_view}
use Rattle.hir_item_tree.proofs.same_attrs.+same.Given as goal

abbrev pub invariant-same_raw_list-loop-attr : goal.invariant-same_raw_list-loop-attr
invariant-same_raw_list-loop-attr l = (l.i ≡ l.attr-index) × (vec_len l.a ≡ vec_len l.b)
    × ((attributes_view (drop l.attr-index l.attr-items) ≡ attributes_view (drop l.attr-index l.b.items)) ↔
    (attributes_view l.attr-items ≡ attributes_view l.b.items))
