use Rattle.std.specs.Ordering.{nat_cmp}
use Rattle.std.specs.Cmp.Lexicographic.{slice_cmp}
use Rattle.hir_scope_table.proofs.Places.{above_none}
use Rattle.hir_scope_table.proofs.probe.place_among.Goals as goal

pub place_within-requires-clause-below : goal.place_within-requires-clause-below
place_within-requires-clause-below g c = above_none (slice_cmp nat_cmp c.args.name.now) c.args.entries.now
