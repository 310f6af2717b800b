use Rattle.hir_item_tree.proofs.Sides.{side_lists_leave_the_tree}
use Rattle.hir_item_tree.proofs.laws.side_lists_leave_the_tree.Goals as goal

-- nothing that is kept beside a tree is kept in it
pub returns : goal.returns
returns c = record { law = side_lists_leave_the_tree }
