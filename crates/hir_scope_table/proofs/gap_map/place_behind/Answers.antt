use Rattle.std.proofs.Common.{◌≡◌, ap, sym, subst, ◌+◌, ◌<◌, length, arith, suc}
use Rattle.std.specs.declared.cmp.Ordering.TheVariants.{Less, Equal, Greater}
use Rattle.hir_scope_table.specs.Inner.Place.{ComparesAt, IsAboveFirst}
use Rattle.hir_scope_table.proofs.Places.{above_none, above_one_more, belongs_before, belongs_here, belongs_last, compares_at}
use Rattle.hir_scope_table.proofs.gap_map.place_behind.Goals as goal

pub returns-then-from-len : goal.returns-then-from-len
returns-then-from-len g c = record {
  belongs =
      belongs_last (g.K.Ord.cmp c.args.key.now) c.args.entries.now c.args.from (omega (arith, c.if-from-len.true, c.len.ensures.value)) c.requires.above;
}

pub place_within-requires-clause-above : goal.place_within-requires-clause-above
place_within-requires-clause-above g c =
    let es = c.args.entries.now in
    let compare = g.K.Ord.cmp c.args.key.now in
    let inside : c.args.from < length es = omega (arith, c.requires.within, c.if-from-len.false, c.len.ensures.value) in
    let here = compares_at compare es c.args.from c.at.result.now Greater c.at.ensures.is (sym c.in-Greater.ensures) in
    let next : suc c.args.from ≡ c.args.from + 1 = omega arith in
    subst (IsAboveFirst compare es) next (above_one_more g.K.Ord.cmp g.met.K.Ord.total c.args.key.now es c.args.from inside c.requires.above here)

pub place_within-requires-clause-below : goal.place_within-requires-clause-below
place_within-requires-clause-below g c =
    let compare = g.K.Ord.cmp c.args.key.now in
    subst (λ n. ComparesAt compare c.args.entries.now n Less) (sym c.len-in-Greater.ensures.value) (above_none compare c.args.entries.now)

pub returns-in-Less : goal.returns-in-Less
returns-in-Less g c =
    let compare = g.K.Ord.cmp c.args.key.now in
    record {
      belongs = belongs_before compare c.args.entries.now c.args.from c.requires.within c.requires.above
          (compares_at compare c.args.entries.now c.args.from c.at.result.now Less c.at.ensures.is (sym c.in-Less.ensures));
    }

pub returns-in-Equal : goal.returns-in-Equal
returns-in-Equal g c =
    let compare = g.K.Ord.cmp c.args.key.now in
    record {
      belongs = belongs_here compare c.args.entries.now c.args.from (omega (arith, c.requires.within, c.if-from-len.false, c.len.ensures.value))
          c.requires.above
          (compares_at compare c.args.entries.now c.args.from c.at.result.now Equal c.at.ensures.is (sym c.in-Equal.ensures));
    }
