-- What waits is taken and put back, which changes no answer.
use Rattle.std.proofs.Common.{sym, subst}
use Rattle.hir_session_state.proofs.HirScope.Rewrites.{on_err}
use Rattle.hir_session_state.specs.Changes.{RefreshesPartly}
use Rattle.hir_session_state.specs.SessionState.{SessionState, IsSound}
use Rattle.hir_session_core.specs.Progress.{AreCratesCurrent, HasAllPending, HasResolved}
use Rattle.hir_session_core.proofs.Due.{grows_not, passed_on, resolves_grown}
use Rattle.hir_session_core.proofs.session.Session.refresh_blocks.Goals as goal

pub refresh_each-requires : goal.refresh_each-requires
refresh_each-requires g c = record {
  crates = subst (λ (s : SessionState). AreCratesCurrent s) (sym c.in_ok-pending.ensures.same) c.requires.crates;
  sound = subst (λ (s : SessionState). IsSound s) (sym c.in_ok-pending.ensures.same) c.in_ok-pending.ensures.sound;
  all = subst (λ (s : SessionState). HasAllPending s c.in_ok-pending.pending.keys) (sym c.in_ok-pending.ensures.same) c.in_ok-pending.ensures.all;
}

pub still_pending-requires : goal.still_pending-requires
still_pending-requires g c = record { all = c.in_ok-refresh_each.ensures.all }

pub await_blocks-requires : goal.await_blocks-requires
await_blocks-requires g c = record { pending = c.in_ok-left.ensures.pending }

pub returns-clause-so_far : goal.returns-clause-so_far
returns-clause-so_far g c = rw c.await_blocks.ensures.same (λ from h. c.in_ok-refresh_each.ensures.so_far from (rw c.in_ok-pending.ensures.same h))

pub returns-clause-current : goal.returns-clause-current
returns-clause-current g c = rw c.await_blocks.ensures.same c.in_ok-refresh_each.ensures.current

pub returns-clause-none_due : goal.returns-clause-none_due
returns-clause-none_due g c = rw c.await_blocks.ensures.same c.in_ok-refresh_each.ensures.none_due

pub returns-in_err-refresh_each-clause-err : goal.returns-in_err-refresh_each-clause-err
returns-in_err-refresh_each-clause-err g c =
    let partly : (from : SessionState) → HasResolved from c.args.done.now.items c.args.self.now → RefreshesPartly from c.refresh_each.new.self =
    λ from h. c.in_err-refresh_each.ensures.err from (rw c.in_ok-pending.ensures.same h) in
    on_err _ partly

pub returns-in_err-refresh_each-clause-many : goal.returns-in_err-refresh_each-clause-many
returns-in_err-refresh_each-clause-many g c = λ many.
    c.refresh_each.ensures.many (passed_on _ _ _ _ c.in_err-refresh_each.was c.from_residual-in_err-refresh_each.ensures.1 many)

-- all that was due was resolved
pub returns-in_err-left-clause-err : goal.returns-in_err-left-clause-err
returns-in_err-left-clause-err g c =
    let partly : (from : SessionState) → HasResolved from c.args.done.now.items c.args.self.now → RefreshesPartly from c.refresh_each.new.self =
    λ from h.
    let so_far = c.in_ok-refresh_each.ensures.so_far from (rw c.in_ok-pending.ensures.same h) in
    record { done = c.refresh_each.new.done.items; resolves = resolves_grown so_far (grows_not c.refresh_each.new.self so_far.sound) } in
    on_err _ partly

pub returns-in_err-pending-clause-err : goal.returns-in_err-pending-clause-err
returns-in_err-pending-clause-err g c =
    let partly : (from : SessionState) → HasResolved from c.args.done.now.items c.args.self.now → RefreshesPartly from c.take_pending.new.self =
    λ from h. subst (λ (s : SessionState). RefreshesPartly from s) (sym c.in_err-pending.ensures.same)
    (record { done = c.args.done.now.items; resolves = resolves_grown h (grows_not c.args.self.now h.sound) }) in
    on_err _ partly
