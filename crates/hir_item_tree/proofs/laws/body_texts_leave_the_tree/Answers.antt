use Rattle.hir_item_tree.proofs.Bodies.{body_texts_leave_the_tree, body_texts_leave_the_sides}
use Rattle.hir_item_tree.proofs.laws.body_texts_leave_the_tree.Goals as goal

-- no text of a body is kept
pub returns : goal.returns
returns c = record { law = body_texts_leave_the_tree; sides = body_texts_leave_the_sides }
