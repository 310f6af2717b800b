use Rattle.std.proofs.Common.{◌≡◌, length}
use Rattle.hir_collector_rules.specs.Reports.{reports_of, unresolved_among, with_diagnostics}
use Rattle.hir_collector_start.proofs.diagnostics.report_unresolved.Given as goal

-- with those that are left, all are reported
abbrev pub invariant-next : goal.invariant-next
invariant-next l = record {
  id : l.map.id ≡ l.initial.map.id;
  all : with_diagnostics l.map (reports_of l.initial.map.id l.names.keys (unresolved_among l.left l.takings))
      ≡ with_diagnostics l.initial.map (reports_of l.initial.map.id l.names.keys (unresolved_among l.reached l.taken));
}

abbrev pub decreases-next : goal.decreases-next
decreases-next l = length l.left
