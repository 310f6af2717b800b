use Rattle.std.proofs.Common.{◌≡◌, ◌++◌, drop}
use Rattle.hir_collector_rules.specs.CrateTop.{names_among}
use Rattle.hir_collector_rules.proofs.crate_attrs.push_names.Given as goal

-- with those that are left, all are added
abbrev pub invariant-loop-path : goal.invariant-loop-path
invariant-loop-path l = l.names.items ++ names_among (drop l.path-index l.paths.items) ≡ l.initial.names.items ++ names_among l.paths.items
