use Rattle.std.proofs.Common.{◌≡◌, ◌↔◌, length, drop}
use Rattle.hir_use_tree.proofs.eq.same_names.Given as goal

-- all are alike exactly where those that are left are
abbrev pub invariant-loop-i : goal.invariant-loop-i
invariant-loop-i l = (length l.a ≡ length l.b) × ((drop l.i l.a ≡ drop l.i l.b) ↔ (l.a ≡ l.b))
