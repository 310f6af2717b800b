use Rattle.std.proofs.Common.{◌≡◌, ◌↔◌, length, drop, map}
use Rattle.hir_item_tree.specs.Collected.{numbered}
use Rattle.hir_item_tree.proofs.same_attrs.same_attrs.Given as goal

-- all are alike exactly where those that are left are
abbrev pub invariant-loop-i : goal.invariant-loop-i
invariant-loop-i l = (length l.a ≡ length l.b) × ((map numbered (drop l.i l.a) ≡ map numbered (drop l.i l.b)) ↔ (map numbered l.a ≡ map numbered l.b))
