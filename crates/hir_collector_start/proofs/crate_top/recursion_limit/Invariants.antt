use Rattle.std.proofs.Common.{◌≡◌, drop, map}
use Rattle.hir_collector_rules.specs.HirItemTree.Collected.{numbered}
use Rattle.hir_collector_rules.specs.CrateTop.{limit_after}
use Rattle.hir_collector_start.proofs.crate_top.recursion_limit.Given as goal

-- those that are left lead to the same limit
abbrev pub invariant-loop-attr : goal.invariant-loop-attr
invariant-loop-attr l = limit_after l.limit (map numbered (drop l.attr-index l.attrs)) ≡ limit_after 128 (map numbered l.attrs)
