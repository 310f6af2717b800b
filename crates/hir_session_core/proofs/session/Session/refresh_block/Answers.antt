-- Where it is due it is resolved, and otherwise nothing changes.
use Rattle.std.proofs.Common.{◌∙◌, ap, sym, subst, refl}
use Rattle.hir_session_state.specs.HirBase.Place.{PlaceValue}
use Rattle.hir_session_state.specs.HirBase.declared.place.BlockPlace.{BlockPlace}
use Rattle.hir_session_state.proofs.HirScope.Rewrites.{on_err}
use Rattle.hir_session_state.specs.Blocks.{place_of_block}
use Rattle.hir_session_state.specs.Due.{IsDueBlock, IsStuckAt}
use Rattle.hir_session_state.specs.SessionState.{module_of}
use Rattle.hir_session_state.proofs.Truth.{where_ok}
use Rattle.hir_session_core.specs.Progress.IsRefreshed.{left, resolved}
use Rattle.hir_session_core.proofs.Due.{grows_not}
use Rattle.hir_session_core.proofs.session.Session.refresh_block.Goals as goal

pub resolve_block-requires-clause-crates : goal.resolve_block-requires-clause-crates
resolve_block-requires-clause-crates g c = c.requires.crates

pub resolve_block-requires-clause-due : goal.resolve_block-requires-clause-due
resolve_block-requires-clause-due g c = subst (λ (b : BlockPlace). IsDueBlock c.args.self.now b) (sym c.in_ok-block-in-Some.ensures.value) c.in-Some.ensures.due

pub resolve_block-requires-clause-held : goal.resolve_block-requires-clause-held
resolve_block-requires-clause-held g c =
    ap (λ (b : BlockPlace). module_of c.args.self.now b.holder) c.in_ok-block-in-Some.ensures.value ∙ c.in-Some.ensures.held

pub returns-in_ok-note_place-in-Some-clause-ok : goal.returns-in_ok-note_place-in-Some-clause-ok
returns-in_ok-note_place-in-Some-clause-ok g c = where_ok c.resolve_block.result c.resolve_block.ensures.ok (λ is.
    resolved c.in_ok-block-in-Some.block (ap place_of_block c.in_ok-block-in-Some.ensures.value ∙ c.in-Some.ensures.place)
    (subst (λ (b : BlockPlace). IsDueBlock c.args.self.now b) (sym c.in_ok-block-in-Some.ensures.value) c.in-Some.ensures.due)
    is c.resolve_block.ensures.sound c.in_ok-note_place-in-Some.ensures.ok)

pub returns-in_ok-note_place-in-Some-clause-many : goal.returns-in_ok-note_place-in-Some-clause-many
returns-in_ok-note_place-in-Some-clause-many g c = λ many.
    let root = ap place_of_block c.in_ok-block-in-Some.ensures.value ∙ c.in-Some.ensures.place in (
      c.in_ok-block-in-Some.block,
      root,
      subst (λ (b : BlockPlace). IsDueBlock c.args.self.now b) (sym c.in_ok-block-in-Some.ensures.value) c.in-Some.ensures.due,
      subst (λ (p : PlaceValue). IsStuckAt c.resolve_block.new.self p) root (c.resolve_block.ensures.many many),
    )

pub returns-in_err-block-in-Some-clause-err : goal.returns-in_err-block-in-Some-clause-err
returns-in_err-block-in-Some-clause-err g c = on_err _ (grows_not _ c.due_at.ensures.sound)

pub returns-in_err-note_place-in-Some-clause-err : goal.returns-in_err-note_place-in-Some-clause-err
returns-in_err-note_place-in-Some-clause-err g c = on_err _ (grows_not _ c.due_at.ensures.sound)

pub returns-in-None-clause-ok : goal.returns-in-None-clause-ok
returns-in-None-clause-ok g c = left (c.in-None.ensures.none refl) refl refl
