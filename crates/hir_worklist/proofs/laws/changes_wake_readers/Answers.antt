-- The order of the slots is total.
use Rattle.hir_worklist.proofs.Settled.{changed}
use Rattle.hir_worklist.proofs.laws.changes_wake_readers.Goals as goal

pub returns-clause-watched : goal.returns-clause-watched
returns-clause-watched g c = changed g.K.Ord.cmp g.met.K.Ord.total
