-- It stands under what its steps are.
use Rattle.std.proofs.Common.{◌∙◌, ap}
use Rattle.std.specs.BTreeMap.{insert_entry}
use Rattle.hir_session_state.specs.Blocks.{steps_cmp}
use Rattle.hir_session_sources.specs.BlockTables.{SetBlocks, by_steps}
use Rattle.hir_session_sources.proofs.BlockLemmas.{set_by_steps}
use Rattle.hir_session_sources.proofs.blocks.CrateBlocks.set.Goals as goal

pub returns-clause-ok : goal.returns-clause-ok
returns-clause-ok c =
    ap by_steps c.in_ok-insert.ensures.entries
    ∙ set_by_steps c.self.inside.blocks.entries c.args.steps c.args.block
    ∙ ap (λ (own : SetBlocks). insert_entry steps_cmp own c.args.steps.items c.args.block) c.self.view_is
