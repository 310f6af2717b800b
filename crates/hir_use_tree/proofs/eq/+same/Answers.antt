use Rattle.std.proofs.Common.{ap}
use Rattle.hir_use_tree.specs.UseTree.{trees_of}
use Rattle.hir_use_tree.proofs.UseTreeLemmas.{same_list}
use Rattle.hir_use_tree.proofs.eq.+same.Goals as goal

-- equal lists are made of equal trees
pub same_use_trees-returns : goal.same_use_trees-returns
same_use_trees-returns t c = record { exact = (λ same. ap trees_of (c.same_each.ensures.exact.0 same), λ e. c.same_each.ensures.exact.1 (same_list _ _ e)) }
