-- It goes from what is stored under the crate that calls.
use Rattle.std.proofs.Common.{refl}
use Rattle.hir_session_sources.proofs.TreeLemmas.{expansion_gone, other_expansions}
use Rattle.hir_session_sources.proofs.source_trees.SourceTrees.remove.Goals as goal

pub returns : goal.returns
returns c = record {
  gone = expansion_gone c.args.self.now (record c.args.self.now { by_key = c.remove_under.new.stored }) c.args.key.now c.remove_under.ensures.value;
  others = other_expansions c.args.self.now (record c.args.self.now { by_key = c.remove_under.new.stored }) c.args.key.now c.remove_under.ensures.value
      (λ j k. refl) (λ k. refl);
}
