-- It is named by the place of its root.
use Rattle.std.proofs.Common.{◌∙◌, ap}
use Rattle.hir_session_state.specs.HirBase.Place.{PlaceValue}
use Rattle.hir_session_state.specs.Blocks.{nesting_of}
use Rattle.hir_session_core.proofs.session.pending.PendingBlock.new.Goals as goal

pub returns : goal.returns
returns c = record {
  value = λ i. record {
    nesting = (c.nesting.ensures.value ∙ ap nesting_of (c.elements.ensures.value ∙ ap (λ (p : PlaceValue). p.elements) c.in_ok-place.ensures.value)) i;
    place = c.in_ok-place.ensures.value i;
  };
}
