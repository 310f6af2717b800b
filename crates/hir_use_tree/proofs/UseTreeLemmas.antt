-- Lists of use trees, one by one.
use Rattle.std.proofs.Common.{◌≡◌, List, [], ◌∷◌, refl, ap, sym, ◌∙◌}
use Rattle.hir_use_tree.specs.UseTree.{UseTree, UseTrees, no_trees, tree, trees_of}

-- the trees one after another
abbrev pub trees_in : UseTrees → List UseTree
trees_in no_trees = []
trees_in (tree t ts) = t ∷ trees_in ts

trees_in-trees_of : (ts : List UseTree) → trees_in (trees_of ts) ≡ ts
trees_in-trees_of [] = refl
trees_in-trees_of (t ∷ ts) = ap (λ rest. t ∷ rest) (trees_in-trees_of ts)

-- equal trees are made of equal lists
pub same_list : (ts us : List UseTree) → trees_of ts ≡ trees_of us → ts ≡ us
same_list ts us h = sym (trees_in-trees_of ts) ∙ (ap trees_in h ∙ trees_in-trees_of us)
