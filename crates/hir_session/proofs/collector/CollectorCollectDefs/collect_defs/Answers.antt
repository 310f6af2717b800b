-- What a run comes to is so over each workspace that agrees.
use Rattle.hir_session_machine.proofs.HirSessionState.Truth.{on_ok}
use Rattle.hir_session.proofs.collector.CollectorCollectDefs.collect_defs.Goals as goal

pub returns-clause-resolved : goal.returns-clause-resolved
returns-clause-resolved c = on_ok c.collect_defs.result (λ found ends. record { ends = ends }) c.collect_defs.ensures.ends
