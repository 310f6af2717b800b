-- What is kept of the file is what it has under a crate that lists it.
use Rattle.std.proofs.Common.{refl}
use Rattle.hir_session_sources.specs.SourceTrees.{file_tree, is_listed}
use Rattle.hir_session_sources.proofs.TreeLemmas.{in_listed, others_stay}
use Rattle.hir_session_sources.proofs.source_trees.SourceTrees.replace.Goals as goal

pub returns : goal.returns
returns c = record {
  here = λ k t is. c.replace_trees.ensures.here k t
      (in_listed (is_listed c.args.self.now.paths c.args.path.now k) (file_tree c.replace_trees.new.files c.args.path.now k) t is);
  others = others_stay c.args.self.now (record c.args.self.now { by_path = c.replace_trees.new.files }) c.args.path.now (λ k. refl) (λ k. refl) refl
      c.replace_trees.ensures.others;
}
