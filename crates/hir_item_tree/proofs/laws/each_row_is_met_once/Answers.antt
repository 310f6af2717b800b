use Rattle.hir_item_tree.proofs.Walks.{determined, each_row_met_once}
use Rattle.hir_item_tree.proofs.laws.each_row_is_met_once.Goals as goal

-- by recursion on the forest: the rows of each item are those that the walk from it meets
pub returns : goal.returns
returns c = record { one_walk = determined; each_once = each_row_met_once }
