use Rattle.std.proofs.Common.{◌≡◌, length}
use Rattle.std.specs.Vec.Iter.{into_iter_items, into_iter_len}
use Rattle.hir_session_state.specs.Crates.{CrateValue}
use Rattle.hir_session_state.specs.SourceTable.{SourceTable}
use Rattle.hir_session_sources.specs.LoweredTrees.{AreLowered}
use Rattle.hir_session_sources.proofs.Lowering.{IsReplacing}
use Rattle.hir_session_sources.proofs.source_trees.SourceTrees.replace_lowered.Given as goal

-- those that are left are still to be put in place
abbrev pub invariant-loop-tree : goal.invariant-loop-tree
invariant-loop-tree l = record {
  replacing : (c : CrateValue) (t : SourceTable) → AreLowered c t l.krate l.initial.self (into_iter_items l.initial.tree-iterator)
      → IsReplacing c t l.krate l.initial.self (into_iter_items l.tree-iterator) l.self;
  counted : into_iter_len l.tree-iterator ≡ length (into_iter_items l.tree-iterator);
}
