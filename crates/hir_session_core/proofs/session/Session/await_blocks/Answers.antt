-- These are the blocks that wait.
use Rattle.std.proofs.Common.{sym, subst}
use Rattle.hir_session_state.specs.SessionState.{SessionState}
use Rattle.hir_session_core.specs.Progress.{ArePending}
use Rattle.hir_session_core.proofs.session.Session.await_blocks.Goals as goal

pub invariant_of-self : goal.invariant_of-self
invariant_of-self c =
    (c.self.invariant.0, c.self.invariant.1, subst (λ (s : SessionState). ArePending s c.args.pending.keys) (sym c.self.view_is) c.requires.pending)
