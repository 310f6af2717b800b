-- The impls are walked from the first one on.
use Rattle.std.specs.Option.{option_map}
use Rattle.std.proofs.Common.{◌≡◌, ◌∙◌, sym, refl, Option, Some, None}
use Rattle.std.proofs.lemmas.Iterator.Consumers.{nth_from_yields_List, YieldsList-from_first}
use Rattle.hir_session_state.specs.HirIds.declared.ids.ImplId.{ImplId}
use Rattle.hir_session_answers.proofs.assoc_items.impl_in.Goals as goal

itself : (o : Option ImplId) → option_map (λ x. x) o ≡ o
itself None = refl
itself (Some x) = refl

pub returns : goal.returns
returns c = record {
  value =
      sym (itself c.nth.result)
      ∙ nth_from_yields_List c.nth.result _ c.args.number c.nth.ensures.ran (YieldsList-from_first (λ x. x) (λ left. left) _ c.impls.ensures.value);
}
