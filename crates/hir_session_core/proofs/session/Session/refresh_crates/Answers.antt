-- Each crate in turn is either not due, or the first that still is.
use Rattle.std.proofs.Common.{◌≡◌, ◌∙◌, sym, subst, List, [], length, arith, ap}
use Rattle.hir_session_state.specs.Changes.{RefreshesPartly}
use Rattle.hir_session_state.specs.Crates.{CrateValue}
use Rattle.hir_session_state.specs.SessionState.{SessionState}
use Rattle.hir_session_state.proofs.HirScope.Rewrites.{on_err}
use Rattle.hir_session_core.proofs.Due.{IsRefreshing, grows_not, refreshing-start, refreshing-more, refreshing-skip, resolves_grown, passed_on, overlong_first}
use Rattle.hir_session_core.proofs.session.Session.refresh_crates.Goals as goal
use Rattle.hir_session_core.proofs.session.Session.refresh_crates.Goals.{then-is_marked_at+in_ok-note+in_ok-resolve_at, else-is_marked_at}

pub loop-k-init : goal.loop-k-init
loop-k-init g c = rw c.new-done.ensures.items (subst (λ (s : SessionState). IsRefreshing s s [] 0) c.self.view_is (refreshing-start _ c.self.invariant.0))

pub returns-clause-so_far : goal.returns-clause-so_far
returns-clause-so_far g c = c.loop-k.invariant.so_far

pub returns-clause-current : goal.returns-clause-current
returns-clause-current g c = λ k within.
    let count = ap (λ (xs : List CrateValue). length xs) c.loop-k.invariant.so_far.crates in
    let all : length c.crates.result.now ≡ length c.args.self.now.crates = ap (λ (xs : List CrateValue). length xs)
    (c.crates.ensures.value ∙ ap (λ (s : SessionState). s.crates) c.self.view_is) in
    c.loop-k.invariant.below k (omega arith)

pub returns-in_err-note-clause-err : goal.returns-in_err-note-clause-err
returns-in_err-note-clause-err g c =
    let partly : RefreshesPartly c.args.self.now c.loop-k.self = record {
      done = _;
      resolves = resolves_grown c.loop-k.invariant.so_far (grows_not _ c.loop-k.invariant.so_far.sound);
    } in
    on_err _ partly

pub returns-in_err-resolve_at-clause-many : goal.returns-in_err-resolve_at-clause-many
returns-in_err-resolve_at-clause-many g c = λ many.
    let count = ap (λ (xs : List CrateValue). length xs) c.loop-k.invariant.so_far.crates in
    let all : length c.crates.result.now ≡ length c.args.self.now.crates = ap (λ (xs : List CrateValue). length xs)
    (c.crates.ensures.value ∙ ap (λ (s : SessionState). s.crates) c.self.view_is) in
    overlong_first c.loop-k.k c.loop-k.invariant c.in_err-resolve_at.ensures.err (omega arith)
    (sym c.is_marked_at.ensures.value ∙ c.if-is_marked_at.true)
    (c.resolve_at.ensures.many (passed_on _ _ _ _ c.in_err-resolve_at.was c.from_residual-in_err-resolve_at.ensures.1 many))

pub returns-in_err-resolve_at-clause-err : goal.returns-in_err-resolve_at-clause-err
returns-in_err-resolve_at-clause-err g c =
    let partly : RefreshesPartly c.args.self.now c.resolve_at.new.self = record {
      done = _;
      resolves = resolves_grown c.loop-k.invariant.so_far c.in_err-resolve_at.ensures.err;
    } in
    on_err _ partly

pub loop-k-preserved : goal.loop-k-preserved
loop-k-preserved g c =
    let count = ap (λ (xs : List CrateValue). length xs) c.loop-k.invariant.so_far.crates in
    let all : length c.crates.result.now ≡ length c.args.self.now.crates = ap (λ (xs : List CrateValue). length xs)
    (c.crates.ensures.value ∙ ap (λ (s : SessionState). s.crates) c.self.view_is) in
    elim c.if-is_marked_at.branch [
      | then-is_marked_at+in_ok-note+in_ok-resolve_at w ↦
          let found = w.in_ok-resolve_at.ensures.ok in
          rw (w.self-is, w.done-is, w.in_ok-note.ensures.ok)
          (refreshing-more c.loop-k.k found.0 _ c.loop-k.invariant w.in_ok-resolve_at.ensures.sound (omega arith)
          (sym c.is_marked_at.ensures.value ∙ w.if-is_marked_at.true) found.1)
      | else-is_marked_at w ↦ rw (w.self-is, w.done-is)
          (refreshing-skip c.loop-k.k c.loop-k.invariant (sym c.is_marked_at.ensures.value ∙ w.if-is_marked_at.false))
    ]
