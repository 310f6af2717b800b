use Rattle.std.proofs.Common.{◌≡◌, ap, sym, subst, refl, ◌+◌, ◌<◌, length, arith, suc}
use Rattle.std.specs.declared.cmp.Ordering.TheVariants.{Less, Equal, Greater}
use Rattle.hir_scope_table.specs.Inner.Place.{ComparesAt, IsAboveFirst}
use Rattle.hir_scope_table.proofs.Places.{above_at, above_none, above_one_more, belongs_here, compares_at}
use Rattle.hir_scope_table.proofs.gap_map.place_of.Goals as goal

pub place_within-requires-clause-below : goal.place_within-requires-clause-below
place_within-requires-clause-below g c =
    let compare = g.K.Ord.cmp c.args.key.now in
    subst (λ n. ComparesAt compare c.args.entries.now n Less) (sym c.len-then-last-len.ensures.value) (above_none compare c.args.entries.now)

pub place_within-requires-in-Less-clause-below : goal.place_within-requires-in-Less-clause-below
place_within-requires-in-Less-clause-below g c =
    compares_at (g.K.Ord.cmp c.args.key.now) c.args.entries.now c.last-last.result c.at.result.now Less c.at.ensures.is (sym c.in-Less.ensures)

pub place_behind-requires-clause-above : goal.place_behind-requires-clause-above
place_behind-requires-clause-above g c =
    let es = c.args.entries.now in
    let compare = g.K.Ord.cmp c.args.key.now in
    let last = c.last-last.result in
    let inside : last < length es = omega (arith, c.if-last-len.false, c.len.ensures.value) in
    let here = compares_at compare es last c.at.result.now Greater c.at.ensures.is (sym c.in-Greater.ensures) in
    let before = above_at g.K.Ord.cmp g.met.K.Ord.total c.args.key.now es last c.at.result.now Greater inside c.requires.sorted c.at.ensures.is
    (sym c.in-Greater.ensures) refl in
    let next : suc last ≡ last + 1 = omega arith in
    subst (IsAboveFirst compare es) next (above_one_more g.K.Ord.cmp g.met.K.Ord.total c.args.key.now es last inside before here)

pub returns-in-Equal : goal.returns-in-Equal
returns-in-Equal g c =
    let es = c.args.entries.now in
    let compare = g.K.Ord.cmp c.args.key.now in
    let last = c.last-last.result in
    let inside : last < length es = omega (arith, c.if-last-len.false, c.len.ensures.value) in
    record {
      belongs = belongs_here compare es last inside
          (above_at g.K.Ord.cmp g.met.K.Ord.total c.args.key.now es last c.at.result.now Equal inside c.requires.sorted c.at.ensures.is
          (sym c.in-Equal.ensures) refl)
          (compares_at compare es last c.at.result.now Equal c.at.ensures.is (sym c.in-Equal.ensures));
    }
