use Rattle.std.proofs.Common.{◌≡◌, length}
use Rattle.hir_mod_collector.specs.HirCollectorImports.Outside.{begins_inside}
use Rattle.hir_collector_begin.proofs.begin.begins_inside.Given as goal

-- those that are left decide
abbrev pub invariant-next : goal.invariant-next
invariant-next l = begins_inside l.own l.left ≡ begins_inside l.own l.local

abbrev pub decreases-next : goal.decreases-next
decreases-next l = length l.left
