use Rattle.std.proofs.Common.{◌≡◌, drop}
use Rattle.hir_collector_rules.specs.CrateTop.{with_names}
use Rattle.hir_collector_start.proofs.diagnostics.add_all.Given as goal

-- with those that are left, all are added
abbrev pub invariant-loop-name : goal.invariant-loop-name
invariant-loop-name l = with_names l.names.keys (drop l.name-index l.others) ≡ with_names l.initial.names.keys l.others
