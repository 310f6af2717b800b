-- A block that is there stands in its place.
use Rattle.std.proofs.Common.{◌∙◌, ap, Option, Some, option_map}
use Rattle.hir_session_state.specs.HirBase.Place.{PlaceValue}
use Rattle.hir_session_state.specs.HirItemTree.Source.{SourceValue}
use Rattle.hir_session_state.specs.Blocks.{place_of_block}
use Rattle.hir_session_sources.specs.BlockTables.{steps_in}
use Rattle.hir_session_sources.proofs.blocks.Blocks.place.Goals as goal

pub returns-in-Some : goal.returns-in-Some
returns-in-Some c = record {
  value = ap (λ (p : PlaceValue). Some p) (ap place_of_block c.place.ensures.value ∙ c.in-Some.ensures.placed)
      ∙ ap (λ (o : Option SourceValue). option_map (λ (_ : SourceValue). steps_in c.args.krate c.args.steps.now) o) c.in-Some.ensures.value;
}

pub returns-in-None : goal.returns-in-None
returns-in-None c = record {
  value = ap (λ (o : Option SourceValue). option_map (λ (_ : SourceValue). steps_in c.args.krate c.args.steps.now) o) c.in-None.ensures.value;
}
