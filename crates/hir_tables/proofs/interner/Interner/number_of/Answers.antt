-- The place at which a value is found is its one number; one that isn't found has none.
use Rattle.std.proofs.Common.{Some, sym, ap, ◌∙◌}
use Rattle.hir_tables.proofs.InternerLemmas.{number_is, no_number, one_number}
use Rattle.hir_tables.proofs.interner.Interner.number_of.Goals as goal

pub returns-in-Some-clause-value : goal.returns-in-Some-clause-value
returns-in-Some-clause-value g c = rw (← c.self.view_is) (λ n.
    let at = number_is _ g.met.V.Eq.laws c.self.inside.values.keys c.args.value.now _ (sym c.in-Some.ensures.index) in (
      λ e. number_is _ g.met.V.Eq.laws c.self.inside.values.keys c.args.value.now n (sym c.in-Some.ensures.index ∙ e),
      λ h. ap Some (one_number _ g.met.V.Eq.laws c.self.inside.values.keys c.args.value.now _ n c.self.invariant.1 at h),
    ))

pub returns-in-None-clause-value : goal.returns-in-None-clause-value
returns-in-None-clause-value g c = rw (← c.self.view_is) (λ n. (
  λ e. absurd cc,
  λ h. absurd (no_number _ g.met.V.Eq.laws c.self.inside.values.keys c.args.value.now n (sym c.in-None.ensures.found) h),
))
