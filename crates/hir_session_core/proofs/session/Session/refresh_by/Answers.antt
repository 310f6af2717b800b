-- Crates first, and then blocks.
use Rattle.hir_session_state.proofs.HirScope.Rewrites.{on_err}
use Rattle.hir_session_state.specs.Changes.{RefreshesPartly}
use Rattle.hir_session_core.proofs.Due.{passed_on}
use Rattle.hir_session_core.proofs.Waiting.{nowhere_stale, refreshes_all}
use Rattle.hir_session_core.proofs.session.Session.refresh_by.Goals as goal

pub returns-clause-refreshes : goal.returns-clause-refreshes
returns-clause-refreshes g c =
    refreshes_all _ _ _ (c.in_ok-refresh_blocks.ensures.so_far _ c.in_ok-done.ensures.so_far) c.in_ok-refresh_blocks.ensures.current
    c.in_ok-refresh_blocks.ensures.none_due

pub returns-clause-none_stale : goal.returns-clause-none_stale
returns-clause-none_stale g c = c.in_ok-refresh_blocks.ensures.current

pub returns-clause-nowhere_stale : goal.returns-clause-nowhere_stale
returns-clause-nowhere_stale g c = nowhere_stale _ c.in_ok-refresh_blocks.ensures.current c.in_ok-refresh_blocks.ensures.none_due

pub returns-in_err-refresh_blocks-clause-err : goal.returns-in_err-refresh_blocks-clause-err
returns-in_err-refresh_blocks-clause-err g c =
    let partly : RefreshesPartly c.args.self.now c.refresh_blocks.new.self = c.in_err-refresh_blocks.ensures.err c.args.self.now c.in_ok-done.ensures.so_far in
    on_err _ partly

pub returns-in_err-refresh_blocks-clause-many : goal.returns-in_err-refresh_blocks-clause-many
returns-in_err-refresh_blocks-clause-many g c = λ many.
    c.refresh_blocks.ensures.many (passed_on _ _ _ _ c.in_err-refresh_blocks.was c.from_residual-in_err-refresh_blocks.ensures.1 many)

pub returns-in_err-done-clause-many : goal.returns-in_err-done-clause-many
returns-in_err-done-clause-many g c = λ many. c.refresh_crates.ensures.many (passed_on _ _ _ _ c.in_err-done.was c.from_residual.ensures.1 many)
