-- The type's own laws say it.
use Rattle.hir_ids.proofs.laws.equal_values_hash_alike.Goals as goal

pub returns : goal.returns
returns g c = record { law = record { equivalence = g.met.T.Eq.laws; alike = g.met.T.Hash.respects_eq } }
