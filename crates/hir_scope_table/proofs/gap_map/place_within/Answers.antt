use Rattle.std.proofs.Common.{◌≡◌, ap, sym, subst, refl, ◌+◌, ◌-◌, ◌/◌, ◌<◌, length, arith, suc}
use Rattle.std.specs.declared.cmp.Ordering.TheVariants.{Less, Equal, Greater}
use Rattle.hir_scope_table.specs.Inner.Place.{IsAboveFirst, ComparesAt}
use Rattle.hir_scope_table.proofs.Places.{above_at, above_one_more, belongs_here, compares_at}
use Rattle.hir_scope_table.proofs.gap_map.place_within.Goals as goal

pub halves-preserved-in-Less : goal.halves-preserved-in-Less
halves-preserved-in-Less g c =
    let middle = c.halves.at + c.halves.left / 2 in (
      omega (arith, c.halves.invariant.0),
      c.halves.invariant.1,
      compares_at (g.K.Ord.cmp c.args.key.now) c.args.entries.now middle c.at.result.now Less c.at.ensures.is (sym c.in-Less.ensures),
    )

pub returns-in-Equal : goal.returns-in-Equal
returns-in-Equal g c =
    let es = c.args.entries.now in
    let compare = g.K.Ord.cmp c.args.key.now in
    let middle = c.halves.at + c.halves.left / 2 in
    let inside : middle < length es = omega (arith, c.halves.invariant.0, c.halves-test.true, c.requires.within) in
    record {
      belongs = belongs_here compare es middle inside
          (above_at g.K.Ord.cmp g.met.K.Ord.total c.args.key.now es middle c.at.result.now Equal inside c.requires.sorted c.at.ensures.is
          (sym c.in-Equal.ensures) refl)
          (compares_at compare es middle c.at.result.now Equal c.at.ensures.is (sym c.in-Equal.ensures));
    }

pub halves-preserved : goal.halves-preserved
halves-preserved g c =
    let es = c.args.entries.now in
    let compare = g.K.Ord.cmp c.args.key.now in
    let middle = c.halves.at + c.halves.left / 2 in
    let less = c.halves.left - c.halves.left / 2 - 1 in
    let some : 0 < c.halves.left = omega (arith, c.halves-test.true) in
    let inside : middle < length es = omega (arith, c.halves.invariant.0, some, c.requires.within) in
    let here = compares_at compare es middle c.at.result.now Greater c.at.ensures.is (sym c.in-Greater.ensures) in
    let above = above_at g.K.Ord.cmp g.met.K.Ord.total c.args.key.now es middle c.at.result.now Greater inside c.requires.sorted c.at.ensures.is
    (sym c.in-Greater.ensures) refl in
    let next : suc middle ≡ middle + 1 = omega arith in
    let end : c.halves.at + c.halves.left ≡ middle + 1 + less = omega (arith, some) in (
      omega (arith, c.halves.invariant.0, some),
      subst (IsAboveFirst compare es) next (above_one_more g.K.Ord.cmp g.met.K.Ord.total c.args.key.now es middle inside above here),
      subst (λ n. ComparesAt compare es n Less) end c.halves.invariant.2,
    )
