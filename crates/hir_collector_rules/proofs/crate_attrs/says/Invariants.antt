use Rattle.std.proofs.Common.{◌≡◌, drop, map}
use Rattle.hir_item_tree.specs.Collected.{numbered}
use Rattle.hir_collector_rules.specs.CrateTop.{says}
use Rattle.hir_collector_rules.proofs.crate_attrs.says.Given as goal

-- those that are left say the same
abbrev pub invariant-loop-attr : goal.invariant-loop-attr
invariant-loop-attr l = says l.key (map numbered (drop l.attr-index l.attrs)) ≡ says l.key (map numbered l.attrs)
