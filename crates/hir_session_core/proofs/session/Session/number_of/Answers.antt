-- A block that has no number gets the next one; nothing is kept under that.
use Rattle.std.proofs.Common.{ap, subst, sym}
use Rattle.hir_session_state.proofs.Asking.{held_grown, kept_meant}
use Rattle.hir_session_answers.proofs.LowerLaws.{answers_stand, asked_keys_have_meaning, looks_stand}
use Rattle.hir_session_state.proofs.Resolving.{grown_of, grown_sound}
use Rattle.hir_session_state.specs.SessionState.{SessionState, IsSound, state_of}
use Rattle.hir_session_state.proofs.Truth.{one_value}
use Rattle.hir_session_core.proofs.Awaiting.{known_grown}
use Rattle.hir_session_core.proofs.Begun.{given_number, interned_number, no_number, none_left, placed_still}
use Rattle.hir_session_core.proofs.session.Session.number_of.Goals as goal

pub invariant_of-self : goal.invariant_of-self
invariant_of-self c = (
  grown_sound looks_stand asked_keys_have_meaning answers_stand _ _ c.intern_block.ensures.kept
      (placed_still _ _ c.intern_block.ensures.kept c.intern_block.ensures.others) c.self.invariant.0,
  held_grown _ _ _ c.self.invariant.1 _ c.intern_block.ensures.kept (kept_meant asked_keys_have_meaning _ c.self.invariant.0),
  known_grown (state_of c.self.inside.inputs c.self.inside.tables c.self.inside.kept) c.intern_block.new.self c.self.inside.pending
      c.self.invariant.0 c.intern_block.ensures.kept c.self.invariant.2,
)

pub invariant_of-self-2 : goal.invariant_of-self-2
invariant_of-self-2 c = (
  grown_sound looks_stand asked_keys_have_meaning answers_stand _ _ c.intern_block.ensures.kept
      (placed_still _ _ c.intern_block.ensures.kept c.intern_block.ensures.others) c.self.invariant.0,
  held_grown _ _ _ c.self.invariant.1 _ c.intern_block.ensures.kept (kept_meant asked_keys_have_meaning _ c.self.invariant.0),
  known_grown (state_of c.self.inside.inputs c.self.inside.tables c.self.inside.kept) c.intern_block.new.self c.self.inside.pending
      c.self.invariant.0 c.intern_block.ensures.kept c.self.invariant.2,
)

pub returns-clause-sound : goal.returns-clause-sound
returns-clause-sound c = subst (λ (s : SessionState). IsSound s) c.self.view_is c.self.invariant.0

pub returns-clause-grown : goal.returns-clause-grown
returns-clause-grown c =
    grown_of looks_stand asked_keys_have_meaning answers_stand _ _ c.intern_block.ensures.kept
    (placed_still _ _ c.intern_block.ensures.kept c.intern_block.ensures.others) _ c.self.view_is c.self.invariant.0

pub returns-clause-number : goal.returns-clause-number
returns-clause-number c =
    interned_number c.self.inside.tables c.intern_block.new.self c.args.block c.in_ok-number.number c.in_ok-number.ensures.found
    (λ n at. one_value (ap given_number (sym (c.in_ok-number.ensures.again n at).0))) c.in_ok-number.ensures.grown

pub returns-in_err-number-clause-grown : goal.returns-in_err-number-clause-grown
returns-in_err-number-clause-grown c =
    grown_of looks_stand asked_keys_have_meaning answers_stand _ _ c.intern_block.ensures.kept
    (placed_still _ _ c.intern_block.ensures.kept c.intern_block.ensures.others) _ c.self.view_is c.self.invariant.0

pub returns-in_err-number-clause-many : goal.returns-in_err-number-clause-many
returns-in_err-number-clause-many c = λ many.
    rw c.in_err-number.ensures.err
    (none_left c.self.inside.tables c.args.block (c.intern_block.ensures.too_many.0 (no_number _ _ _ c.in_err-number.was c.from_residual.ensures.1 many)))
