use Rattle.std.proofs.Common.{◌≡◌, ◌++◌, drop, map}
use Rattle.hir_item_tree.specs.Collected.{numbered}
use Rattle.hir_collector_rules.specs.CrateTop.{listed_under}
use Rattle.hir_collector_rules.proofs.crate_attrs.listed.Given as goal

-- with those that are left, all are listed
abbrev pub invariant-loop-attr : goal.invariant-loop-attr
invariant-loop-attr l = l.names.items ++ listed_under l.key (map numbered (drop l.attr-index l.attrs)) ≡ listed_under l.key (map numbered l.attrs)
