use Rattle.hir_item_tree.proofs.Walked.{row_at_shown}
use Rattle.hir_item_tree.proofs.pretty.row_at.Goals as goal

-- the row at the index stands for the item that has its number
pub returns : goal.returns
returns c =
    let e = row_at_shown c.args.rows.now.items c.args.id.0 c.index.result.now c.requires.whole c.requires.within c.index.ensures in
    record { found = e.0; below = e.1 }
