use Rattle.std.proofs.Common.{rules}
use Rattle.hir_item_tree.proofs.Repeats.{IsDistinct-from_no_repeat}
use Rattle.hir_item_tree.specs.contracts.check.NodeIdPartialEq.TheImpl.{ghosts}
use Rattle.hir_item_tree.specs.contracts.check.NodeIdPartialEq.TheImpl.Laws.{lawful}
use Rattle.hir_item_tree.proofs.check.check_unit.Goals as goal

-- no node stood before, so all are distinct
pub returns-clause-unique : goal.returns-clause-unique
returns-clause-unique c = IsDistinct-from_no_repeat ghosts.eq lawful.laws.symm _ (search rules)
