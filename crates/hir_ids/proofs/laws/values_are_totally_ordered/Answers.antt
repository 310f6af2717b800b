-- The type's own laws say it.
use Rattle.hir_ids.proofs.laws.values_are_totally_ordered.Goals as goal

pub returns : goal.returns
returns g c = record { law = record { total = g.met.T.Ord.total; ties = g.met.T.Ord.matches_eq } }
