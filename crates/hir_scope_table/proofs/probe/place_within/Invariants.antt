use Rattle.std.proofs.Common.{◌+◌, ◌-◌, ◌≤◌}
use Rattle.std.specs.Ordering.{nat_cmp}
use Rattle.std.specs.Cmp.Lexicographic.{slice_cmp}
use Rattle.std.specs.declared.cmp.Ordering.TheVariants.{Less}
use Rattle.hir_scope_table.specs.Inner.Place.{IsAboveFirst, ComparesAt, HasHalved}
use Rattle.hir_scope_table.proofs.probe.place_within.Given as goal

abbrev pub invariant-halves : goal.invariant-halves
invariant-halves g l =
    (l.at + l.left ≤ l.to)
    × IsAboveFirst (slice_cmp nat_cmp l.name) l.entries l.at
    × ComparesAt (slice_cmp nat_cmp l.name) l.entries (l.at + l.left) Less
    × (l.fn.probe ≤ l.probe)
    × HasHalved (l.to - l.from) l.left (l.probe - l.fn.probe)

abbrev pub decreases-halves : goal.decreases-halves
decreases-halves g l = l.left
