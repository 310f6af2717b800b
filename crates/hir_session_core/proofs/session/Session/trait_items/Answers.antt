-- The trait is in a map that is kept; where none is found nothing changes.
use Rattle.std.proofs.Common.{sym, subst, inr}
use Rattle.std.proofs.lemmas.Result.{IfErr-weaker}
use Rattle.hir_session_state.specs.Due.{Grows}
use Rattle.hir_session_state.specs.SessionState.{SessionState}
use Rattle.hir_session_state.proofs.Truth.{on_ok}
use Rattle.hir_session_answers.proofs.Listed.{trait_map_kept}
use Rattle.hir_session_core.proofs.Due.{grows_not}
use Rattle.hir_session_core.proofs.session.Session.trait_items.Goals as goal

pub tell_trait-requires : goal.tell_trait-requires
tell_trait-requires c = record { kept = trait_map_kept c.args.self.now c.args.place.now c.args.path.now c.in_ok-id.id (sym c.in_ok-id.ensures.value) }

pub returns-clause-listed : goal.returns-clause-listed
returns-clause-listed c = on_ok c.tell_trait.result (λ told lists. (c.in_ok-id.id, sym c.in_ok-id.ensures.value, lists)) c.tell_trait.ensures.listed

pub returns-clause-refused : goal.returns-clause-refused
returns-clause-refused c =
    IfErr-weaker c.tell_trait.result _ _ (λ why given_up. inr (c.in_ok-id.id, sym c.in_ok-id.ensures.value, given_up)) c.tell_trait.ensures.refused

pub returns-in_err-id-clause-grown : goal.returns-in_err-id-clause-grown
returns-in_err-id-clause-grown c = subst (λ (s : SessionState). Grows s s) c.self.view_is (grows_not _ c.self.invariant.0)
