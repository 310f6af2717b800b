use Rattle.std.proofs.Common.{◌≡◌}
use Rattle.hir_collector_rules.specs.Macros.{public_among, with_macros_used}
use Rattle.hir_collector_start.proofs.macro_use.use_all.Given as goal

-- with those that are left, all are used
abbrev pub invariant-loop-name : goal.invariant-loop-name
invariant-loop-name l = with_macros_used l.map (public_among l.name-iterator) l.by ≡ with_macros_used l.initial.map (public_among l.scope.macros) l.by
