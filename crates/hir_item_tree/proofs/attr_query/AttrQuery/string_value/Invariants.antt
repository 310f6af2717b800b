use Rattle.std.proofs.Common.{◌≡◌, drop, filter}
use Rattle.hir_item_tree.specs.AttrQuery.{has_key, first_literal}
use Rattle.hir_item_tree.proofs.attr_query.AttrQuery.string_value.Given as goal

-- the first literal is that of those that are left
abbrev pub invariant-loop-attr : goal.invariant-loop-attr
invariant-loop-attr l =
    first_literal (filter (has_key l.self.key.now) (drop l.attr-index l.self.attrs.now)) ≡ first_literal (filter (has_key l.self.key.now) l.self.attrs.now)
