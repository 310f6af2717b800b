-- One step more is taken of the way up.
use Rattle.std.proofs.Common.{◌≡◌, ◌∙◌, ap, sym, ℕ, suc, ◌<◌, ◌-◌, List, [], ◌∷◌, ◌++◌, arith}
use Rattle.hir_session_state.specs.HirBase.declared.place.PlaceElement.{PlaceElement}
use Rattle.hir_session_state.specs.HirBase.declared.place.PlaceElement.TheVariants as element
use Rattle.hir_session_answers.specs.Modules.{steps_to}
use Rattle.hir_session_answers.proofs.Placing.{and_taken, one_step}
use Rattle.hir_session_answers.proofs.modules.steps_up.Goals as goal

pub up-preserved : goal.up-preserved
up-preserved c =
    let some : 0 < c.up.left = omega (arith, c.up-test.true) in
    let one_less : c.up.left ≡ suc (c.up.left - 1) = omega arith in
    c.up.invariant
    ∙ ap (λ (left : ℕ). and_taken c.up.steps.items (steps_to c.args.map.now left c.up.now)) one_less
    ∙ one_step c.args.map.now (c.up.left - 1) c.up.now c.up.steps.items c.in-Some.holder (sym c.in-Some.ensures.value) c.in-Some-name_below.name.now
    (sym c.in-Some-name_below.ensures.value)
    ∙ ap (λ (taken : List PlaceElement). and_taken taken (steps_to c.args.map.now (c.up.left - 1) c.in-Some.holder.index))
    (sym (c.in_ok-push.ensures.items ∙ ap (λ (name : List ℕ). c.up.steps.items ++ element.Module name ∷ []) c.in_ok-clone.ensures.value))
