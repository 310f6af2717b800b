-- The parts are those of a session that begins, and such a session is sound.
use Rattle.std.proofs.Common.{refl}
use Rattle.std.proofs.lemmas.List.{length-map}
use Rattle.hir_session_state.specs.HirMessages.CommandValue.{crate_input_view}
use Rattle.hir_session_state.proofs.Asking.{none_held}
use Rattle.hir_session_sources.proofs.Start.{begins_sound, begins_with}
use Rattle.hir_session_core.proofs.session.begin.Goals as goal

pub invariant_of-result : goal.invariant_of-result
invariant_of-result c = (
  rw c.new.ensures.value (begins_sound _ _ (rw (length-map c.args.inputs.now.items crate_input_view) c.requires.few) c.requires.ordered
      (begins_with c.args.inputs.now.items _ _ _ _ c.in_ok-crates.ensures.made c.in_ok-crates.ensures.rooted refl c.new-2.ensures.none
      _ c.new-tables.ensures.value c.in_ok-crates.ensures.others)),
  none_held _ _ _ c.new-2.ensures.none c.new-3.ensures.none,
  tt,
)

pub returns : goal.returns
returns c = record {
  begins =
      rw c.new.ensures.value (begins_with c.args.inputs.now.items _ _ _ _ c.in_ok-crates.ensures.made c.in_ok-crates.ensures.rooted refl c.new-2.ensures.none
      _ c.new-tables.ensures.value c.in_ok-crates.ensures.others);
}
