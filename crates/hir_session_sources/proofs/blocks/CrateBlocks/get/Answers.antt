-- It is found by what its steps are.
use Rattle.std.proofs.Common.{◌∙◌, ap}
use Rattle.std.specs.BTreeMap.{is_at}
use Rattle.std.specs.Map.{lookup}
use Rattle.hir_session_state.specs.Blocks.{steps_cmp}
use Rattle.hir_session_sources.specs.BlockTables.{SetBlocks}
use Rattle.hir_session_sources.proofs.BlockLemmas.{found_by_steps}
use Rattle.hir_session_sources.proofs.blocks.CrateBlocks.get.Goals as goal

pub returns : goal.returns
returns c = record {
  value = c.get.ensures.value ∙ found_by_steps c.args.steps.now c.self.inside.blocks.entries
      ∙ ap (λ (own : SetBlocks). lookup (is_at (steps_cmp c.args.steps.now)) own) c.self.view_is;
}
