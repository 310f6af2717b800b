use Rattle.std.proofs.Common.{◌≡◌, drop, map}
use Rattle.hir_collector_rules.specs.HirItemTree.Collected.{numbered}
use Rattle.hir_collector_rules.specs.Macros.{wants_all}
use Rattle.hir_collector_start.proofs.macro_use.wants_all.Given as goal

-- it is told by those that are left
abbrev pub invariant-loop-attr : goal.invariant-loop-attr
invariant-loop-attr l = wants_all (map numbered (drop l.attr-index l.attrs)) ≡ wants_all (map numbered l.attrs)
