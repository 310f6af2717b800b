use Rattle.std.proofs.Common.{◌≡◌}
use Rattle.hir_collector_rules.specs.Macros.{public_among}
use Rattle.hir_collector_state.specs.MacroUses.{with_each}
use Rattle.hir_collector_state.proofs.def_collector.changes.note_all.Given as goal

-- with those that are left, all are noted
abbrev pub invariant-loop-name : goal.invariant-loop-name
invariant-loop-name l = with_each (public_among l.name-iterator) l.changed ≡ with_each (public_among l.scope.macros) l.initial.changed
