-- Which use trees do references point to?
use Rattle.std.specs.Prelude.{List, map}
use Rattle.std.specs.Borrow.{Bor}
use Rattle.hir_use_tree.specs.UseTree.{UseTree, use_tree_view}
use Rattle.hir_use_tree.specs.declared.use_tree.UseTree.{UseTree as WrittenTree}

-- the plain values of the trees that these references point to
abbrev pub trees_at : List (Bor WrittenTree) → List UseTree
trees_at positions = map (λ position. use_tree_view position.now) positions
