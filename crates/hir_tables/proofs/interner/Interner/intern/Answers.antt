-- A value that is there has the one number at which it was found; another that isn't has none.
use Rattle.std.proofs.Common.{Ok, refl, sym, ap}
use Rattle.hir_tables.proofs.InternerLemmas.{number_is, no_number, one_number}
use Rattle.hir_tables.proofs.interner.Interner.intern.Goals as goal

pub returns-in-Some-clause-found : goal.returns-in-Some-clause-found
returns-in-Some-clause-found g c =
    rw (← c.self.view_is) (number_is _ g.met.V.Eq.laws c.self.inside.values.keys c.args.value _ (sym c.in-Some.ensures.index))

pub returns-in-Some-clause-again : goal.returns-in-Some-clause-again
returns-in-Some-clause-again g c = rw (← c.self.view_is) (λ n h. (
  ap Ok (one_number _ g.met.V.Eq.laws c.self.inside.values.keys c.args.value _ n c.self.invariant.1
      (number_is _ g.met.V.Eq.laws c.self.inside.values.keys c.args.value _ (sym c.in-Some.ensures.index)) h),
  refl,
))

pub returns-then-len-ge-MAX_LOCATIONS-clause-again : goal.returns-then-len-ge-MAX_LOCATIONS-clause-again
returns-then-len-ge-MAX_LOCATIONS-clause-again g c = rw (← c.self.view_is) (λ n h.
    absurd (no_number _ g.met.V.Eq.laws c.self.inside.values.keys c.args.value n (sym c.in_default.ensures.found) h))

pub returns-in_err-number-clause-again : goal.returns-in_err-number-clause-again
returns-in_err-number-clause-again g c = rw (← c.self.view_is) (λ n h.
    absurd (no_number _ g.met.V.Eq.laws c.self.inside.values.keys c.args.value n (sym c.in_default.ensures.found) h))

pub returns-clause-again : goal.returns-clause-again
returns-clause-again g c = rw (← c.self.view_is) (λ n h.
    absurd (no_number _ g.met.V.Eq.laws c.self.inside.values.keys c.args.value n (sym c.in_default.ensures.found) h))
