use Rattle.std.proofs.Common.{◌≡◌, ◌++◌, length}
use Rattle.hir_collector_rules.specs.HirNameres.WorldParts.{part_of}
use Rattle.hir_collector_rules.specs.Reports.{unresolved_calls}
use Rattle.hir_collector_start.proofs.diagnostics.unresolved_calls.Given as goal

-- with those that are left, all are told
abbrev pub invariant-next : goal.invariant-next
invariant-next l =
    l.told.items ++ unresolved_calls (part_of l.world) l.local l.map l.left l.left_fates l.left_eager
    ≡ unresolved_calls (part_of l.world) l.local l.map l.calls l.fates l.eager

abbrev pub decreases-next : goal.decreases-next
decreases-next l = length l.left
