-- The type's own laws say it.
use Rattle.hir_per_ns.proofs.laws.hashes_alike.Goals as goal

pub returns : goal.returns
returns g c = record { alike = record { equivalence = g.met.T.Eq.laws; alike = g.met.T.Hash.respects_eq } }
