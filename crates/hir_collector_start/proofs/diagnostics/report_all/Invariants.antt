use Rattle.std.proofs.Common.{◌≡◌, length}
use Rattle.std.specs.Vec.Iter.{into_iter_items, into_iter_len}
use Rattle.hir_collector_rules.specs.Reports.{with_diagnostics}
use Rattle.hir_collector_start.proofs.diagnostics.report_all.Given as goal

-- with those that are left, all are told
abbrev pub invariant-loop-report : goal.invariant-loop-report
invariant-loop-report l = record {
  all : with_diagnostics l.map (into_iter_items l.report-iterator) ≡ with_diagnostics l.initial.map (into_iter_items l.initial.report-iterator);
  counted : into_iter_len l.report-iterator ≡ length (into_iter_items l.report-iterator);
}
