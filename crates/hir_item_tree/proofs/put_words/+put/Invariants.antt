use Rattle.std.proofs.Common.{◌≡◌, ◌++◌, drop, string_bytes, false}
use Rattle.hir_use_tree.specs.UseTree.{use_trees_view}
use Rattle.hir_item_tree.specs.Page.{uses_text}
use Rattle.hir_item_tree.proofs.put_words.+put.Given as goal

-- the text so far, and that of the trees that are left, are the whole
abbrev pub invariant-put_use_trees-loop-tree : goal.invariant-put_use_trees-loop-tree
invariant-put_use_trees-loop-tree l =
    string_bytes l.out ++ uses_text l.edition (use_trees_view (drop l.tree-index l.tree-items)) l.later
    ≡ string_bytes l.initial.out ++ uses_text l.edition (use_trees_view l.tree-items) false
