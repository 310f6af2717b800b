use Rattle.std.proofs.Common.{◌≡◌, ◌+◌, ◌≤◌, ◌++◌, length, reverse, ℕ}
use Rattle.hir_scope_table.proofs.gap_list.lengthen.Given as goal

abbrev pub invariant-moves : goal.invariant-moves
invariant-moves g l = record {
  same : l.front.items ++ reverse l.back.items ≡ l.initial.front.items ++ reverse l.initial.back.items;
  within : l.to ≤ length l.front.items + length l.back.items;
  enough : length l.initial.front.items ≤ l.to → length l.front.items ≤ l.to;
}

abbrev pub decreases-moves : goal.decreases-moves
decreases-moves g l = length l.back.items
