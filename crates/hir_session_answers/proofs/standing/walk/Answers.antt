-- Each turn goes one step further.
use Rattle.std.proofs.Common.{◌∙◌, ◌<◌, ◌≤◌, ap, arith, length, List, []}
use Rattle.std.proofs.lemmas.List.{take_all}
use Rattle.hir_session_state.specs.HirBase.declared.place.PlaceElement.{PlaceElement}
use Rattle.hir_session_state.specs.Standing.{down}
use Rattle.hir_session_state.specs.Standing.{Standing as way}
use Rattle.hir_session_answers.specs.Walking.{standing_value}
use Rattle.hir_session_answers.proofs.Walks.{turn}
use Rattle.hir_session_answers.proofs.standing.walk.Goals as goal

pub loop-i-preserved : goal.loop-i-preserved
loop-i-preserved c =
    let within : c.loop-i.i < length c.args.steps.now = omega (arith, c.loop-i-test.true) in
    turn c.args.tables.now c.args.blocks.now c.args.kept.now c.args.krate c.args.root c.args.steps.now c.loop-i.i c.index-steps-i.result
    (standing_value c.loop-i.standing) (standing_value c.one_more-standing.result) within c.index-steps-i.is c.loop-i.invariant
    c.one_more-standing.ensures.value

pub returns : goal.returns
returns c =
    let all : length c.args.steps.now ≤ c.loop-i.i = omega (arith, c.loop-i-test.false) in
    record {
      value = c.loop-i.invariant
          ∙ ap (λ (xs : List PlaceElement). down c.args.tables.now c.args.blocks.now c.args.kept.now c.args.krate [] (way.at c.args.root) xs)
          (take_all c.loop-i.i c.args.steps.now all);
    }
