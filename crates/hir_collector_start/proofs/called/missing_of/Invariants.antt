use Rattle.std.proofs.Common.{◌≡◌, length}
use Rattle.hir_collector_rules.specs.HirNameres.WorldParts.{part_of}
use Rattle.hir_collector_rules.specs.Calls.{asked_before, first_missing}
use Rattle.hir_collector_start.proofs.called.missing_of.Given as goal

-- what those before the ones that are left asked for reaches macros
abbrev pub invariant-next : goal.invariant-next
invariant-next l =
    first_missing (part_of l.world) l.local l.map l.home (asked_before l.left l.makro)
    ≡ first_missing (part_of l.world) l.local l.map l.home (asked_before l.seen l.makro)

abbrev pub decreases-next : goal.decreases-next
decreases-next l = length l.left
