-- It goes from what is stored under its crate.
use Rattle.std.proofs.Common.{refl}
use Rattle.hir_session_sources.proofs.TreeLemmas.{block_gone, other_blocks}
use Rattle.hir_session_sources.proofs.source_trees.SourceTrees.remove_block.Goals as goal

pub returns : goal.returns
returns c = record {
  gone = block_gone c.args.self.now (record c.args.self.now { by_block = c.remove_under.new.stored }) c.args.place.now c.krate.result c.krate.ensures.value
      c.remove_under.ensures.value;
  others = other_blocks c.args.self.now (record c.args.self.now { by_block = c.remove_under.new.stored }) c.args.place.now c.krate.result
      c.krate.ensures.value c.remove_under.ensures.value (λ j k. refl) (λ k. refl);
}
