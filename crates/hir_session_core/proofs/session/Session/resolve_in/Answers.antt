-- What the run came to is kept.
use Rattle.std.proofs.Common.{◌≡◌, ◌∙◌, sym, subst, true, Option, Some}
use Rattle.hir_session_state.specs.HirIds.declared.ids.MapId.{MapId}
use Rattle.hir_session_state.specs.HirIds.declared.ids.ModuleId.{ModuleId}
use Rattle.hir_session_state.specs.HirCollectorRules.Derivation.{collected_view}
use Rattle.hir_session_state.specs.Due.{Resolved}
use Rattle.hir_session_state.specs.SessionState.{IsPlace, IsResolutionOf, is_marked}
use Rattle.hir_session_state.specs.Standing.{block_map}
use Rattle.hir_session_core.specs.Progress.{held_in, AreFollowedCurrent}
use Rattle.hir_session_core.proofs.Due.{passed_on}
use Rattle.hir_session_core.proofs.Growth.{grown_followed, grown_mark, grown_place, resolved_later}
use Rattle.hir_session_core.proofs.session.Session.resolve_in.Goals as goal

pub keep_found-requires-clause-place : goal.keep_found-requires-clause-place
keep_found-requires-clause-place g c =
    subst (λ (x : MapId). IsPlace c.found_in.new.self x) (sym c.in_ok-found.ensures.found.own)
    (grown_place _ _ c.in_ok-found.ensures.grown (block_map c.args.at.krate c.args.at.block) c.requires.place)

pub keep_found-requires-clause-marked : goal.keep_found-requires-clause-marked
keep_found-requires-clause-marked g c =
    subst (λ (x : MapId). is_marked c.found_in.new.self x ≡ true) (sym c.in_ok-found.ensures.found.own)
    (grown_mark _ _ c.in_ok-found.ensures.grown (block_map c.args.at.krate c.args.at.block) ∙ c.requires.marked)

pub keep_found-requires-clause-found : goal.keep_found-requires-clause-found
keep_found-requires-clause-found g c =
    subst (λ (x : MapId). IsResolutionOf c.found_in.new.self x (held_in c.found_in.new.self (collected_view c.in_ok-found.found)))
    (sym c.in_ok-found.ensures.found.own) c.in_ok-found.ensures.found

pub keep_found-requires-clause-behind : goal.keep_found-requires-clause-behind
keep_found-requires-clause-behind g c =
    subst (λ (x : MapId). AreFollowedCurrent c.found_in.new.self x c.in_ok-found.found.map.holder) (sym c.in_ok-found.ensures.found.own)
    (subst (λ (h : Option ModuleId). AreFollowedCurrent c.found_in.new.self (block_map c.args.at.krate c.args.at.block) h)
    (sym c.in_ok-found.ensures.holder)
    (grown_followed c.args.self.now c.found_in.new.self c.in_ok-found.ensures.grown (block_map c.args.at.krate c.args.at.block) (Some c.args.at.holder)
    c.requires.behind))

pub returns-clause-ok : goal.returns-clause-ok
returns-clause-ok g c = (
  held_in c.found_in.new.self (collected_view c.in_ok-found.found),
  subst (λ (x : MapId). Resolved c.args.self.now x (held_in c.found_in.new.self (collected_view c.in_ok-found.found)) c.keep_found.new.self)
      c.in_ok-found.ensures.found.own (resolved_later _ _ _ _ _ c.in_ok-found.ensures.grown c.in_ok-keep_found.ensures.ok),
)

pub returns-clause-sound : goal.returns-clause-sound
returns-clause-sound g c = c.keep_found.ensures.sound

pub returns-in_err-found-clause-many : goal.returns-in_err-found-clause-many
returns-in_err-found-clause-many g c = λ many. c.found_in.ensures.many (passed_on _ _ _ _ c.in_err-found.was c.from_residual.ensures.1 many)
