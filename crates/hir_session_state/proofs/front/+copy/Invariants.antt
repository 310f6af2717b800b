use Rattle.std.proofs.Common.{◌≡◌, take, map}
use Rattle.hir_collector_rules.specs.HirItemTree.Attributes.{attribute_view}
use Rattle.hir_session_state.proofs.front.+copy.Given as goal

-- those so far are there again
abbrev pub invariant-copy_attrs-loop-attr : goal.invariant-copy_attrs-loop-attr
invariant-copy_attrs-loop-attr l = map attribute_view l.copies.items ≡ map attribute_view (take l.attr-index l.attr-items)
