use Rattle.hir_item_tree.proofs.AttributeLemmas.{joined_as_merged}
use Rattle.hir_item_tree.proofs.laws.joined_lists_collect_as_merged.Goals as goal

-- by recursion on the first list: no attribute's number is read
pub returns : goal.returns
returns c = record { always = joined_as_merged }
