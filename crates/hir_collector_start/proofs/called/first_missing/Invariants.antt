use Rattle.std.proofs.Common.{◌≡◌, length}
use Rattle.hir_collector_rules.specs.HirNameres.WorldParts.{part_of}
use Rattle.hir_collector_rules.specs.Calls.{first_missing}
use Rattle.hir_collector_start.proofs.called.first_missing.Given as goal

-- those before the ones that are left reach macros
abbrev pub invariant-next : goal.invariant-next
invariant-next l = first_missing (part_of l.world) l.local l.map l.home l.left ≡ first_missing (part_of l.world) l.local l.map l.home l.paths

abbrev pub decreases-next : goal.decreases-next
decreases-next l = length l.left
