use Rattle.std.proofs.Common.{◌≡◌, drop}
use Rattle.hir_collector_rules.specs.Attributes.{is_named_by}
use Rattle.hir_collector_start.proofs.helpers.is_named_by.Given as goal

-- those that are left name it where all do
abbrev pub invariant-loop-helper : goal.invariant-loop-helper
invariant-loop-helper l = is_named_by (drop l.helper-index l.helpers) l.name ≡ is_named_by l.helpers l.name
