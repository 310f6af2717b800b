use Rattle.hir_item_tree.specs.Rows.{rows_view, numbers_of}
use Rattle.hir_item_tree.proofs.Walked.{IsWhole-laid, AreBelow-rows}
use Rattle.hir_item_tree.proofs.item_tree.ItemTree.pretty_print.Goals as goal

-- rows that are laid out hold items of rows before them
pub page_of-requires-clause-whole : goal.page_of-requires-clause-whole
page_of-requires-clause-whole c = IsWhole-laid (rows_view c.self.inside.rows.items) (numbers_of c.self.inside.top.items) c.self.invariant

-- and the numbers of the forest are those of rows
pub page_of-requires-clause-numbers : goal.page_of-requires-clause-numbers
page_of-requires-clause-numbers c = AreBelow-rows c.self.inside.rows.items (numbers_of c.self.inside.top.items) c.self.invariant
