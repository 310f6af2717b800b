use Rattle.hir_session_core.proofs.Due.{IsRefreshing}
use Rattle.hir_session_core.proofs.session.Session.refresh_crates.Given as goal

abbrev pub invariant-loop-k : goal.invariant-loop-k
invariant-loop-k g l = IsRefreshing l.initial.self l.self l.done.items l.k
