use Rattle.std.proofs.Common.{◌≡◌, ◌++◌, drop}
use Rattle.hir_collector_rules.specs.Start.{holder_keys}
use Rattle.hir_collector_start.proofs.first_keys.ask_for_holders.Given as goal

-- with those that are left, all are asked for
abbrev pub invariant-loop-holder : goal.invariant-loop-holder
invariant-loop-holder l = l.asked.items ++ holder_keys (drop l.holder-index l.holders) ≡ l.initial.asked.items ++ holder_keys l.holders
