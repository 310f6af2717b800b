use Rattle.std.proofs.Common.{◌≡◌, ℕ, ◌+◌, ◌-◌, length}
use Rattle.hir_collector_rules.specs.declared.source_database.Key.{Key}
use Rattle.hir_collector_rules.specs.HirIds.declared.ids.MapId.{MapId}
use Rattle.hir_session_state.specs.Askers.{has_asked_at}
use Rattle.hir_session_state.proofs.askers.grow_to.Given as goal

-- nothing is told anew
abbrev pub invariant-loop-alloc : goal.invariant-loop-alloc
invariant-loop-alloc l = (n : ℕ) (k : Key) (j : MapId) → has_asked_at l.list.items n k j ≡ has_asked_at l.fn.list.items n k j

abbrev pub decreases-loop-alloc : goal.decreases-loop-alloc
decreases-loop-alloc l = (l.at + 1) - length l.list.items
