-- The run read the maps of its crate and of what holds it, each of which is current and names only what is there.
use Rattle.std.proofs.Common.{◌≡◌, ◌∙◌, ap, sym, subst, Err}
use Rattle.hir_session_state.specs.HirDefMapRules.Overlay.{Maps}
use Rattle.hir_session_state.specs.HirCollectorRules.Derivation.{IsOverlong}
use Rattle.hir_session_state.specs.HirCollectorRules.declared.start.CollectError.{CollectError}
use Rattle.hir_session_state.specs.Crates.{begins_in_block}
use Rattle.hir_session_state.specs.Inputs.{InputsValue, workspace_by}
use Rattle.hir_session_state.specs.Kept.{finished_by}
use Rattle.hir_session_state.specs.SessionState.{state_of}
use Rattle.hir_session_state.specs.declared.error.RefreshError.TheVariants as refresh_error
use Rattle.hir_session_state.proofs.Asking.{held_grown, kept_meant}
use Rattle.hir_session_answers.proofs.LowerLaws.{answers_stand, asked_keys_have_meaning, looks_stand, runs_name}
use Rattle.hir_session_state.proofs.Resolving.{grown_of, grown_sound}
use Rattle.hir_session_core.proofs.Begun.{found_held, holder_found, known_held}
use Rattle.hir_session_state.proofs.Truth.{no_error, one_error}
use Rattle.hir_session_core.proofs.Awaiting.{known_grown}
use Rattle.hir_session_core.proofs.session.Session.found_in.Goals as goal
use Rattle.hir_session_core.proofs.session.Session.found_in.Goals.{in-Ok, in-Err}

pub invariant_of-self : goal.invariant_of-self
invariant_of-self g c = (
  rw c.resolve_block.ensures.same (grown_sound looks_stand asked_keys_have_meaning answers_stand _ _ c.resolve_block.ensures.kept c.resolve_block.ensures.placed
      c.self.invariant.0),
  held_grown _ _ _ c.self.invariant.1 _ c.resolve_block.ensures.kept (kept_meant asked_keys_have_meaning _ c.self.invariant.0),
  rw c.resolve_block.ensures.same (known_grown (state_of c.self.inside.inputs c.self.inside.tables c.self.inside.kept) c.resolve_block.new.tables
      c.self.inside.pending
      c.self.invariant.0 c.resolve_block.ensures.kept c.self.invariant.2),
)

pub returns-clause-grown : goal.returns-clause-grown
returns-clause-grown g c =
    rw c.resolve_block.ensures.same (grown_of looks_stand asked_keys_have_meaning answers_stand _ _ c.resolve_block.ensures.kept c.resolve_block.ensures.placed
    _ c.self.view_is c.self.invariant.0)

pub refresh_error-requires : goal.refresh_error-requires
refresh_error-requires g c = record {
  known = λ unknown.
      known_held _ _ c.self.view_is c.args.at.krate c.args.at.block c.args.at.holder c.args.at.file c.args.at.id c.requires.place c.requires.marked
      c.requires.begun c.requires.numbered
      c.requires.behind c.self.invariant.0 _ c.resolve_block.ensures.kept _ c.world.ensures.value
      (c.in-Err.ensures.unknown (ap (λ (e : CollectError). Err e) unknown));
}

pub returns-clause-found : goal.returns-clause-found
returns-clause-found g c = elim c.match-resolve_block.branch [
  | in-Ok w ↦ rw w.result-is (rw c.resolve_block.ensures.same
      (found_held _ _ c.self.view_is c.args.at.krate c.args.at.block c.args.at.holder c.args.at.file c.args.at.id c.requires.place c.requires.marked
      c.requires.begun c.requires.numbered
      c.requires.behind looks_stand asked_keys_have_meaning answers_stand runs_name _ c.resolve_block.ensures.kept c.resolve_block.ensures.placed
      c.self.invariant.0
      _ _ c.world.ensures.value w.in-Ok.ensures.resolved))
  | in-Err w ↦ rw w.result-is tt
]

pub returns-clause-holder : goal.returns-clause-holder
returns-clause-holder g c = elim c.match-resolve_block.branch [
  | in-Ok w ↦ rw w.result-is (holder_found _ _ _ _ _ w.in-Ok.ensures.resolved)
  | in-Err w ↦ rw w.result-is tt
]

pub returns-clause-many : goal.returns-clause-many
returns-clause-many g c = elim c.match-resolve_block.branch [
  | in-Ok w ↦ λ many. no_error (sym w.result-is ∙ many)
  | in-Err w ↦ λ many.
      let told : w.refresh_error.result ≡ refresh_error.TooMany = one_error (sym w.result-is ∙ many) in
      subst (λ (i : InputsValue). IsOverlong c.resolve_block.new.tables (workspace_by i) (finished_by c.self.inside.kept)
      (begins_in_block c.args.at.krate c.args.at.block c.args.at.holder c.args.at.file c.args.at.id)) (sym c.resolve_block.ensures.same)
      (subst (λ (finished : Maps). IsOverlong c.resolve_block.new.tables (workspace_by c.self.inside.inputs) finished
      (begins_in_block c.args.at.krate c.args.at.block c.args.at.holder c.args.at.file c.args.at.id))
      c.world.ensures.value (w.in-Err.ensures.many (ap (λ (e : CollectError). Err e) (w.refresh_error.ensures.many told))))
]
