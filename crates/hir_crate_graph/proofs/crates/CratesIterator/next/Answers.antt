-- The first place at which a bit is set is that of the first crate.
use Rattle.std.proofs.Common.{◌≡◌, ◌+◌, ◌-◌, ◌∷◌, length, ap, ◌∙◌, sym, arith, rules}
use Rattle.hir_crate_graph.specs.Bits.{has_bit}
use Rattle.hir_crate_graph.specs.CrateSet.{crate_of, crates_from}
use Rattle.hir_crate_graph.proofs.CrateLists.{crates_from-none, first_of_crates}
use Rattle.hir_crate_graph.proofs.crates.CratesIterator.next.Goals as goal

pub returns-in-Some-clause-steps : goal.returns-in-Some-clause-steps
returns-in-Some-clause-steps c =
    let is = c.in-Some.ensures.value in
    sym c.self.view_is ∙ first_of_crates (has_bit c.self.inside.words.now) c.self.inside.from c.self.inside.to c.in-Some.found is.from_on is.below is.is_set
    is.others

pub returns-in-Some-clause-goes : goal.returns-in-Some-clause-goes
returns-in-Some-clause-goes c =
    let is = c.in-Some.ensures.value in
    let gives : c.args.self.now ≡ crate_of c.in-Some.found ∷ crates_from (has_bit c.self.inside.words.now) (c.in-Some.found + 1)
    (c.self.inside.to - (c.in-Some.found + 1)) = sym c.self.view_is ∙ first_of_crates (has_bit c.self.inside.words.now) c.self.inside.from c.self.inside.to
    c.in-Some.found is.from_on is.below is.is_set is.others in
    let longer = ap length gives in
    record { on = λ finite. (search rules, search rules, omega arith); keeps = search rules; rests = search rules }

pub returns-in-None-clause-steps : goal.returns-in-None-clause-steps
returns-in-None-clause-steps c =
    let ws = has_bit c.self.inside.words.now in
    let from = c.self.inside.from in
    let to = c.self.inside.to in
    let none = c.in-None.ensures.value in
    let order = c.self.invariant.0 in (
      sym c.self.view_is ∙ crates_from-none ws from (to - from) (λ n le lt. none n le (omega arith)),
      crates_from-none ws to (to - to) (λ n le lt. absurd (omega arith)),
    )
