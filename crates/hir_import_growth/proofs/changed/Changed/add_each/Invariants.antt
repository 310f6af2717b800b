use Rattle.std.proofs.Common.{◌≡◌, length}
use Rattle.hir_import_rules.specs.Changed.{with_slots}
use Rattle.hir_import_growth.proofs.changed.Changed.add_each.Given as goal

-- with those that are left, all are added
abbrev pub invariant-next : goal.invariant-next
invariant-next l = with_slots l.left l.self ≡ with_slots l.slots l.initial.self

abbrev pub decreases-next : goal.decreases-next
decreases-next l = length l.left
