-- A name is stepped to as it is written, and a block is found by all steps to it.
use Rattle.std.proofs.Common.{◌∙◌, Bor}
use Rattle.hir_session_state.specs.HirBase.declared.place.BlockPlace.{BlockPlace}
use Rattle.hir_session_answers.specs.Walking.{standing_value}
use Rattle.hir_session_answers.proofs.Walks.{to_found_at, to_name_at}
use Rattle.hir_session_answers.proofs.standing.one_more.Goals as goal

pub returns-in-Module : goal.returns-in-Module
returns-in-Module c = record {
  value = λ before to.
      c.to_module.ensures.value
      ∙ to_name_at c.args.tables.now c.args.blocks.now c.args.kept.now c.args.krate before (standing_value c.args.from) c.args.element.now c.in-Module.name
      c.in-Module.is;
}

pub returns-in-Block : goal.returns-in-Block
returns-in-Block c = record {
  value = λ before to.
      c.into_block.ensures.value
      ∙ to_found_at c.args.tables.now c.args.blocks.now c.args.kept.now c.args.krate (λ (p : Bor BlockPlace). p.now) before c.args.steps.now c.args.element.now
      _
      (standing_value c.args.from) c.place.result c.in-Block.is to c.place.ensures.value;
}
