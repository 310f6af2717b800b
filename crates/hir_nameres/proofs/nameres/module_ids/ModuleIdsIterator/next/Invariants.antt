use Rattle.std.proofs.Common.{◌≡◌, ◌+◌, ◌<◌, ◌^◌, length}
use Rattle.hir_nameres.specs.ModuleIds.{ids_held}
use Rattle.hir_nameres.proofs.nameres.module_ids.ModuleIdsIterator.next.Given as goal

abbrev pub invariant-next : goal.invariant-next
invariant-next l =
    (ids_held l.initial.self-inside.wanted l.initial.self-inside.map l.initial.self-inside.index l.initial.self-inside.left.now
    ≡ ids_held l.self-inside.wanted l.self-inside.map l.self-inside.index l.self-inside.left.now)
    × (l.self-inside.index + length l.self-inside.left.now < 2 ^ 32)

abbrev pub decreases-next : goal.decreases-next
decreases-next l = length l.self-inside.left.now
