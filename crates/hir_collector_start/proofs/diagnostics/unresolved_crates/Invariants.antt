use Rattle.std.proofs.Common.{◌≡◌, [], length}
use Rattle.hir_collector_rules.specs.Reports.{crates_among, unresolved_among}
use Rattle.hir_collector_start.proofs.diagnostics.unresolved_crates.Given as goal

-- with those that are left, all are added
abbrev pub invariant-next : goal.invariant-next
invariant-next l = crates_among l.names.keys (unresolved_among l.left l.takings) ≡ crates_among [] (unresolved_among l.reached l.taken)

abbrev pub decreases-next : goal.decreases-next
decreases-next l = length l.left
