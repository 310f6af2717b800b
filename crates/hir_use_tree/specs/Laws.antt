-- What holds of all use trees?
use Rattle.std.specs.Prelude.{◌≡◌, ◌≤◌, List, [], ◌∷◌, Option, Some}
use Rattle.std.specs.List.{slice_get, All}
use Rattle.hir_base.specs.ModPath.{Path}
use Rattle.hir_use_tree.specs.UseTree.{UseTree, single, glob, prefixed, tree_size, parts}
use Rattle.hir_use_tree.specs.Imports.{Import, imports_of, joined_path, single_imports, glob_imports}

-- a leaf alone, behind some prefix, means this import
abbrev pub Writes : UseTree → Import → Type 0
Writes (single path alias) i = (prefix : Option Path) × single_imports i.place (joined_path prefix path) alias ≡ i ∷ []
Writes (glob path) i = (prefix : Option Path) × glob_imports i.place prefix path ≡ i ∷ []
Writes (prefixed path ts) i = ⊥

-- at the import's place in the preorder of the tree stands a leaf that writes it
pub record HasLeaf (t : UseTree) (i : Import) : Type 0 where
  pub leaf : UseTree
  pub there : slice_get (parts t) i.place ≡ Some leaf
  pub writes : Writes leaf i

-- each import of a tree that can be counted stands at the place of the leaf that writes it
abbrev pub PlaceHoldsItsLeaf : Type 0
PlaceHoldsItsLeaf = (t : UseTree) → tree_size t ≤ 4294967295 → All (HasLeaf t) (imports_of t)
