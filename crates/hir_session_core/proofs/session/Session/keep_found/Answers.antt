-- What the run came to may join what is kept, and all on which its place stands is current.
use Rattle.std.proofs.Common.{◌≡◌, ◌∙◌, ap, sym, subst, true}
use Rattle.hir_session_state.specs.HirIds.declared.ids.MapId.{MapId}
use Rattle.hir_session_state.specs.HirCollectorRules.Derivation.{collected_view}
use Rattle.hir_session_state.specs.Due.{Resolved}
use Rattle.hir_session_state.specs.Kept.{kept_in}
use Rattle.hir_session_state.specs.SessionState.{SessionState, IsPlace, IsResolutionOf, is_marked, state_of}
use Rattle.hir_session_core.specs.Progress.{held_in, AreFollowedCurrent}
use Rattle.hir_session_state.proofs.Resolving.{may_join}
use Rattle.hir_session_core.proofs.Sound.{free_own, resolved_of, resolved_sound}
use Rattle.hir_session_core.proofs.session.Session.keep_found.Goals as goal

pub keep-requires-clause-free : goal.keep-requires-clause-free
keep-requires-clause-free c =
    let back = sym c.self.view_is in
    let inside = state_of c.self.inside.inputs c.self.inside.tables c.self.inside.kept in
    let found : IsResolutionOf inside c.args.found.map.id (held_in inside (collected_view c.args.found)) =
    subst (λ (s : SessionState). IsResolutionOf s c.args.found.map.id (held_in s (collected_view c.args.found))) back c.requires.found in
    free_own inside c.args.found.map.id (held_in inside (collected_view c.args.found)) found.own
    (subst (λ (s : SessionState). is_marked s c.args.found.map.id ≡ true) back
    c.requires.marked)

pub keep-requires-clause-complete : goal.keep-requires-clause-complete
keep-requires-clause-complete c =
    may_join _ c.args.found.map.id _ (subst (λ (s : SessionState). IsResolutionOf s c.args.found.map.id (held_in s (collected_view c.args.found)))
    (sym c.self.view_is)
    c.requires.found)

pub invariant_of-self : goal.invariant_of-self
invariant_of-self c = (rw c.in_err-keep.ensures.err c.self.invariant.0, c.keep.ensures.exact, tt)

pub invariant_of-self-2 : goal.invariant_of-self-2
invariant_of-self-2 c =
    let back = sym c.self.view_is in
    let inside = state_of c.self.inside.inputs c.self.inside.tables c.self.inside.kept in
    let found = subst (λ (s : SessionState). IsResolutionOf s c.args.found.map.id (held_in s (collected_view c.args.found))) back c.requires.found in (
      resolved_sound _ c.args.found.map.id _ c.keep.new.self c.self.invariant.0
          (subst (λ (s : SessionState). IsPlace s c.args.found.map.id) back c.requires.place)
          (subst (λ (s : SessionState). is_marked s c.args.found.map.id ≡ true) back c.requires.marked) found
          (subst (λ (s : SessionState). AreFollowedCurrent s c.args.found.map.id c.args.found.map.holder) back c.requires.behind)
          (ap (kept_in c.keep.new.self) (sym found.own) ∙ c.in_ok-keep.ensures.here) (λ j ne. c.in_ok-keep.ensures.others j (λ e. ne (e ∙ found.own))),
      c.keep.ensures.exact,
      tt,
    )

pub returns-clause-ok : goal.returns-clause-ok
returns-clause-ok c =
    let inside = state_of c.self.inside.inputs c.self.inside.tables c.self.inside.kept in
    let found : IsResolutionOf inside c.args.found.map.id (held_in inside (collected_view c.args.found)) =
    subst (λ (s : SessionState). IsResolutionOf s c.args.found.map.id (held_in s (collected_view c.args.found))) (sym c.self.view_is) c.requires.found in
    subst (λ (s : SessionState). Resolved s c.args.found.map.id (held_in s (collected_view c.args.found))
    (state_of c.self.inside.inputs c.self.inside.tables c.keep.new.self)) c.self.view_is
    (resolved_of inside c.keep.new.self c.args.found.map.id (held_in inside (collected_view c.args.found)) found.own c.in_ok-keep.ensures.here
    c.in_ok-keep.ensures.others)

pub returns-clause-sound : goal.returns-clause-sound
returns-clause-sound c = (invariant_of-self-2 c).0
