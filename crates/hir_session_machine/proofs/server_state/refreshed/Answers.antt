-- A refresh resolved all that was due, or a part of it.
use Rattle.std.proofs.Common.{refl, ap, List, Err}
use Rattle.hir_session_core.specs.HirBase.Place.{PlaceValue}
use Rattle.hir_session_core.specs.HirMessages.declared.reply.Reply.TheVariants as reply
use Rattle.hir_session_core.specs.HirSessionState.declared.error.RefreshError.{RefreshError}
use Rattle.hir_session_core.specs.HirSessionState.declared.error.RefreshError.TheVariants.{Memory}
use Rattle.hir_session_machine.specs.Machine.Moves.{refreshes, refreshes_partly}
use Rattle.hir_session_machine.specs.Machine.AnswersCommand.{calls}
use Rattle.hir_session_machine.proofs.server_state.refreshed.Goals as goal

pub returns-in-Ok-clause-step : goal.returns-in-Ok-clause-step
returns-in-Ok-clause-step g c =
    calls _ _ refl (refreshes c.in-Ok.places.items refl c.in-Ok.ensures.refreshes (ap (λ (ps : List PlaceValue). reply.Places ps) c.new.ensures.value)) refl

pub returns-in-Ok-clause-or_memory : goal.returns-in-Ok-clause-or_memory
returns-in-Ok-clause-or_memory g c h = calls _ _ refl (refreshes_partly Memory refl
    (record { done = c.in-Ok.places.items; resolves = c.in-Ok.ensures.refreshes.resolves })
    (λ other. absurd (let wrong : ⊥ = cc in wrong)) refl) refl

pub returns-in-Err-clause-step : goal.returns-in-Err-clause-step
returns-in-Err-clause-step g c = calls _ _ refl (refreshes_partly _ refl c.in-Err.ensures.err
    (λ many. c.in-Err.ensures.many (ap (λ (e : RefreshError). Err e) many)) c.refresh_error_reply.ensures.value) refl

pub returns-in-Err-clause-or_memory : goal.returns-in-Err-clause-or_memory
returns-in-Err-clause-or_memory g c h = calls _ _ refl (refreshes_partly Memory refl c.in-Err.ensures.err
    (λ other. absurd (let wrong : ⊥ = cc in wrong)) refl) refl
