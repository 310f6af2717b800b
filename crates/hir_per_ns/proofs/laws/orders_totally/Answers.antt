-- The type's own laws say it.
use Rattle.hir_per_ns.proofs.laws.orders_totally.Goals as goal

pub returns : goal.returns
returns g c = record { total = record { total = g.met.T.Ord.total; ties = g.met.T.Ord.matches_eq } }
