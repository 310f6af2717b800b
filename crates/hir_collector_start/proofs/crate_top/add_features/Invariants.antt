use Rattle.std.proofs.Common.{◌≡◌, drop}
use Rattle.hir_collector_rules.specs.CrateTop.{with_names}
use Rattle.hir_collector_start.proofs.crate_top.add_features.Given as goal

-- with those that are left, all are added
abbrev pub invariant-loop-name : goal.invariant-loop-name
invariant-loop-name l =
    record l.crate_data { features = with_names l.crate_data.features (drop l.name-index l.names) }
    ≡ record l.initial.crate_data { features = with_names l.initial.crate_data.features l.names }
