use Rattle.std.proofs.Common.{◌≡◌, drop}
use Rattle.hir_collector_rules.specs.Macros.{public_at}
use Rattle.hir_collector_state.specs.MacroUses.{with_each}
use Rattle.hir_collector_state.proofs.def_collector.changes.note_names.Given as goal

-- with those that are left, all are noted
abbrev pub invariant-loop-name : goal.invariant-loop-name
invariant-loop-name l =
    with_each (public_at l.scope.macros (drop l.name-index l.names)) l.changed ≡ with_each (public_at l.scope.macros l.names) l.initial.changed
