use Rattle.std.proofs.Common.{◌≡◌, ◌↔◌, vec_len, drop, map}
use Rattle.hir_use_tree.specs.UseTree.{use_tree_view}
use Rattle.hir_use_tree.proofs.eq.+same.Given as goal

-- all are alike exactly where those that are left are
abbrev pub invariant-same_each-loop-i : goal.invariant-same_each-loop-i
invariant-same_each-loop-i l =
    (vec_len l.a ≡ vec_len l.b)
    × ((map use_tree_view (drop l.i l.a.items) ≡ map use_tree_view (drop l.i l.b.items)) ↔ (map use_tree_view l.a.items ≡ map use_tree_view l.b.items))
