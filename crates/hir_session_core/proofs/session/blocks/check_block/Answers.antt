-- What is told of the source is, with the steps.
use Rattle.hir_session_state.specs.HirItemTree.Source.{source_view}
use Rattle.hir_session_state.specs.Blocks.{place_of_block}
use Rattle.hir_session_state.specs.Refusals.{verdict_of_source}
use Rattle.hir_session_core.proofs.Verdicts.{block_told}
use Rattle.hir_session_core.proofs.session.blocks.check_block.Goals as goal

pub returns : goal.returns
returns c =
    let told = block_told (place_of_block c.args.block.now).elements (verdict_of_source (source_view c.args.source.now)) c.check_source-verdict.result
    c.told_with_steps.result
    c.check_source-verdict.ensures.accepted c.check_source-verdict.ensures.refused c.told_with_steps.ensures.value in
    record { accepted = told.0; refused = told.1 }
