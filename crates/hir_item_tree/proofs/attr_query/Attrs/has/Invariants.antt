use Rattle.std.proofs.Common.{◌≡◌, drop}
use Rattle.std.specs.List.{list_any}
use Rattle.hir_item_tree.specs.AttrQuery.{is_numbered}
use Rattle.hir_item_tree.proofs.attr_query.Attrs.has.Given as goal

-- there is one exactly where those that are left have one
abbrev pub invariant-loop-attr : goal.invariant-loop-attr
invariant-loop-attr l = list_any (is_numbered l.id) (drop l.attr-index l.self.attrs.now) ≡ list_any (is_numbered l.id) l.self.attrs.now
