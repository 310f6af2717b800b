use Rattle.std.proofs.Common.{◌≡◌, drop}
use Rattle.hir_collector_rules.specs.Ended.{without_functions}
use Rattle.hir_collector_start.proofs.censor.remove_functions.Given as goal

-- without those that are left, it is without all
abbrev pub invariant-loop-function : goal.invariant-loop-function
invariant-loop-function l = without_functions (drop l.function-index l.exported) l.scope ≡ without_functions l.exported l.initial.scope
