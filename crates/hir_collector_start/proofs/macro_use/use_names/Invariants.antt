use Rattle.std.proofs.Common.{◌≡◌, drop}
use Rattle.hir_collector_rules.specs.Macros.{public_at, with_macros_used}
use Rattle.hir_collector_start.proofs.macro_use.use_names.Given as goal

-- with those that are left, all are used
abbrev pub invariant-loop-name : goal.invariant-loop-name
invariant-loop-name l =
    with_macros_used l.map (public_at l.scope.macros (drop l.name-index l.names)) l.by ≡ with_macros_used l.initial.map (public_at l.scope.macros l.names) l.by
