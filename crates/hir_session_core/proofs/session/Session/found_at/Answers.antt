-- The run read the maps of the crates on which its crate depends, each of which is current and names only what is there.
use Rattle.std.proofs.Common.{◌≡◌, ◌∙◌, ◌<◌, ℕ, false, ap, length, refl, subst, sym, Err}
use Rattle.hir_session_state.specs.HirDefMapRules.Overlay.{Maps}
use Rattle.hir_session_state.specs.HirCollectorRules.Derivation.{IsOverlong}
use Rattle.hir_session_state.specs.HirCollectorRules.UnknownSources.{MeetsUnknownSource}
use Rattle.hir_session_state.specs.HirCollectorRules.declared.start.CollectError.{CollectError}
use Rattle.hir_session_state.specs.Crates.{beginning_in, id_of}
use Rattle.hir_session_state.specs.Due.IsStuckAt.{overlong}
use Rattle.hir_session_state.specs.Inputs.{InputsValue, workspace_by}
use Rattle.hir_session_state.specs.Kept.{finished_by}
use Rattle.hir_session_state.specs.SessionState.{SessionState, is_marked, state_of}
use Rattle.hir_session_state.specs.declared.error.RefreshError.TheVariants as refresh_error
use Rattle.hir_session_state.proofs.Asking.{held_grown, kept_meant}
use Rattle.hir_session_answers.proofs.LowerLaws.{answers_stand, asked_keys_have_meaning, looks_stand, runs_name}
use Rattle.hir_session_state.proofs.Resolving.{found_of, grown_of, grown_sound}
use Rattle.hir_session_answers.proofs.KnownSources.{crate_known}
use Rattle.hir_session_state.proofs.Truth.{no_error, one_error}
use Rattle.hir_session_core.proofs.Awaiting.{known_grown}
use Rattle.hir_session_core.proofs.session.Session.found_at.Goals as goal
use Rattle.hir_session_core.proofs.session.Session.found_at.Goals.{in-Ok, in-Err}

pub invariant_of-self : goal.invariant_of-self
invariant_of-self g c = (
  rw c.resolve.ensures.same (grown_sound looks_stand asked_keys_have_meaning answers_stand _ _ c.resolve.ensures.kept c.resolve.ensures.placed
      c.self.invariant.0),
  held_grown _ _ _ c.self.invariant.1 _ c.resolve.ensures.kept (kept_meant asked_keys_have_meaning _ c.self.invariant.0),
  rw c.resolve.ensures.same (known_grown (state_of c.self.inside.inputs c.self.inside.tables c.self.inside.kept) c.resolve.new.tables c.self.inside.pending
      c.self.invariant.0 c.resolve.ensures.kept c.self.invariant.2),
)

pub returns-clause-grown : goal.returns-clause-grown
returns-clause-grown g c =
    rw c.resolve.ensures.same (grown_of looks_stand asked_keys_have_meaning answers_stand _ _ c.resolve.ensures.kept c.resolve.ensures.placed _ c.self.view_is
    c.self.invariant.0)

pub refresh_error-requires : goal.refresh_error-requires
refresh_error-requires g c = record {
  known = λ unknown.
      crate_known _ c.self.invariant.0 _ c.resolve.ensures.kept c.args.k (subst (λ (s : SessionState). c.args.k < length s.crates) (sym c.self.view_is)
      c.requires.within)
      (subst (λ (s : SessionState). (j : ℕ) → j < c.args.k → is_marked s (id_of j) ≡ false) (sym c.self.view_is) c.requires.first)
      (subst (λ (finished : Maps). MeetsUnknownSource c.resolve.new.tables (workspace_by c.self.inside.inputs) finished
      (beginning_in c.self.inside.inputs.crates c.args.k))
      c.world.ensures.value (c.in-Err.ensures.unknown (ap (λ (e : CollectError). Err e) unknown)));
}

pub returns-clause-found : goal.returns-clause-found
returns-clause-found g c = elim c.match-resolve.branch [
  | in-Ok w ↦ rw w.result-is (rw c.resolve.ensures.same
      (found_of looks_stand asked_keys_have_meaning answers_stand _ _ c.resolve.ensures.kept c.resolve.ensures.placed _ c.self.view_is c.self.invariant.0
      runs_name
      c.args.k (subst (λ (s : SessionState). c.args.k < length s.crates) (sym c.self.view_is) c.requires.within) c.requires.first _ _ c.world.ensures.value
      w.in-Ok.ensures.resolved))
  | in-Err w ↦ rw w.result-is tt
]

pub returns-clause-many : goal.returns-clause-many
returns-clause-many g c = elim c.match-resolve.branch [
  | in-Ok w ↦ λ many. no_error (sym w.result-is ∙ many)
  | in-Err w ↦ λ many.
      let told : w.refresh_error.result ≡ refresh_error.TooMany = one_error (sym w.result-is ∙ many) in
      overlong (id_of c.args.k) (beginning_in c.resolve.new.self.crates c.args.k) refl refl
      (subst (λ (i : InputsValue). IsOverlong c.resolve.new.tables (workspace_by i) (finished_by c.self.inside.kept) (beginning_in i.crates c.args.k))
      (sym c.resolve.ensures.same)
      (subst (λ (finished : Maps). IsOverlong c.resolve.new.tables (workspace_by c.self.inside.inputs) finished
      (beginning_in c.self.inside.inputs.crates c.args.k))
      c.world.ensures.value (w.in-Err.ensures.many (ap (λ (e : CollectError). Err e) (w.refresh_error.ensures.many told)))))
]
