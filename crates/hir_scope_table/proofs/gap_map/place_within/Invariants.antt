use Rattle.std.proofs.Common.{◌+◌, ◌≤◌}
use Rattle.std.specs.declared.cmp.Ordering.TheVariants.{Less}
use Rattle.hir_scope_table.specs.Inner.Place.{IsAboveFirst, ComparesAt}
use Rattle.hir_scope_table.proofs.gap_map.place_within.Given as goal

abbrev pub invariant-halves : goal.invariant-halves
invariant-halves g l =
    (l.at + l.left ≤ l.to)
    × IsAboveFirst (g.K.Ord.cmp l.key) l.entries l.at
    × ComparesAt (g.K.Ord.cmp l.key) l.entries (l.at + l.left) Less

abbrev pub decreases-halves : goal.decreases-halves
decreases-halves g l = l.left
