use Rattle.std.proofs.Common.{◌≡◌, length}
use Rattle.hir_collector_imports.specs.Waiting.{noted_along}
use Rattle.hir_collector_imports.proofs.along_globs.note_each.Given as goal

-- with those that are left, all are noted
abbrev pub invariant-next : goal.invariant-next
invariant-next l = noted_along l.left l.changed ≡ noted_along l.slots l.initial.changed

abbrev pub decreases-next : goal.decreases-next
decreases-next l = length l.left
