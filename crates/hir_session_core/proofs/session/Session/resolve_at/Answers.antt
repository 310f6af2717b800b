-- All that the crate depends on comes before it.
use Rattle.std.proofs.Common.{◌≡◌, ◌∙◌, sym, subst, refl, true, length, List, ◌<◌}
use Rattle.hir_session_state.specs.HirIds.declared.ids.MapId.{MapId}
use Rattle.hir_session_state.specs.HirCollectorRules.Derivation.{collected_view}
use Rattle.hir_session_state.specs.Crates.{CrateValue, id_of}
use Rattle.hir_session_state.specs.Due.{Resolved}
use Rattle.hir_session_state.specs.SessionState.{IsPlace, IsResolutionOf, is_marked}
use Rattle.hir_session_state.specs.SessionState.IsPlace.{of_crate}
use Rattle.hir_session_core.specs.Progress.{held_in, AreFollowedCurrent}
use Rattle.hir_session_core.proofs.Due.{passed_on}
use Rattle.hir_session_core.proofs.Growth.{grown_mark, resolved_later}
use Rattle.hir_session_core.proofs.Sound.{followed_crates}
use Rattle.hir_session_core.proofs.session.Session.resolve_at.Goals as goal

pub keep_found-requires-clause-place : goal.keep_found-requires-clause-place
keep_found-requires-clause-place g c = subst (λ (x : MapId). IsPlace c.found_at.new.self x) (sym c.in_ok-found.ensures.found.own)
    (of_crate refl (subst (λ (cs : List CrateValue). c.args.k < length cs) (sym c.in_ok-found.ensures.grown.crates) c.requires.within))

pub keep_found-requires-clause-marked : goal.keep_found-requires-clause-marked
keep_found-requires-clause-marked g c = subst (λ (x : MapId). is_marked c.found_at.new.self x ≡ true) (sym c.in_ok-found.ensures.found.own)
    (grown_mark _ _ c.in_ok-found.ensures.grown (id_of c.args.k) ∙ c.requires.marked)

pub keep_found-requires-clause-found : goal.keep_found-requires-clause-found
keep_found-requires-clause-found g c =
    subst (λ (x : MapId). IsResolutionOf c.found_at.new.self x (held_in c.found_at.new.self (collected_view c.in_ok-found.found)))
    (sym c.in_ok-found.ensures.found.own) c.in_ok-found.ensures.found

pub keep_found-requires-clause-behind : goal.keep_found-requires-clause-behind
keep_found-requires-clause-behind g c =
    subst (λ (x : MapId). AreFollowedCurrent c.found_at.new.self x c.in_ok-found.found.map.holder) (sym c.in_ok-found.ensures.found.own)
    (followed_crates c.found_at.new.self c.in_ok-found.ensures.grown.sound c.args.k (λ j low. grown_mark _ _ c.in_ok-found.ensures.grown (id_of j) ∙
    c.requires.first j low)
    c.in_ok-found.found.map.holder)

pub returns-clause-ok : goal.returns-clause-ok
returns-clause-ok g c =
    let found = held_in c.found_at.new.self (collected_view c.in_ok-found.found) in (
      found,
      subst (λ (x : MapId). Resolved c.args.self.now x found c.keep_found.new.self) c.in_ok-found.ensures.found.own
          (resolved_later c.args.self.now c.found_at.new.self c.keep_found.new.self c.in_ok-found.found.map.id found c.in_ok-found.ensures.grown
          c.in_ok-keep_found.ensures.ok),
    )

pub returns-clause-sound : goal.returns-clause-sound
returns-clause-sound g c = c.keep_found.ensures.sound

pub returns-in_err-found-clause-many : goal.returns-in_err-found-clause-many
returns-in_err-found-clause-many g c = λ many. c.found_at.ensures.many (passed_on _ _ _ _ c.in_err-found.was c.from_residual.ensures.1 many)
