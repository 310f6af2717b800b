-- Words of the body of `expand`: which imports are still to be handed out?
use Rattle.std.specs.Prelude.{ℕ, ◌+◌, ◌*◌, List, [], ◌∷◌, ◌++◌}
use Rattle.hir_use_tree.specs.UseTree.{use_trees_view, trees_size}
use Rattle.hir_use_tree.specs.Imports.{Import, all_imports_at}
use Rattle.hir_use_tree.specs.SharedPath.{path_before}
use Rattle.hir_use_tree.specs.declared.expand.Level.{Level}
use Rattle.hir_use_tree.specs.declared.expand.Step.{Step}
use Rattle.hir_use_tree.specs.declared.expand.Step.TheVariants as steps

-- the imports of the trees that are left of a list
abbrev pub level_imports : Level → List Import
level_imports l = all_imports_at l.place (path_before l.prefix) (use_trees_view l.trees.now)

-- those of the trees that are left of lists, the innermost first
abbrev pub pending : List Level → List Import
pending [] = []
pending (l ∷ ls) = level_imports l ++ pending ls

-- the imports of a tree, of which its list perhaps is still to be gone over
abbrev pub step_imports : Step → List Import
step_imports steps.Nothing = []
step_imports (steps.Leaf i) = i ∷ []
step_imports (steps.List l) = level_imports l

-- how much there is left to do: a step more than two for each tree
abbrev pub level_weight : Level → ℕ
level_weight l = 1 + 2 * trees_size (use_trees_view l.trees.now)

abbrev pub weight : List Level → ℕ
weight [] = 0
weight (l ∷ ls) = level_weight l + weight ls

abbrev pub step_weight : Step → ℕ
step_weight steps.Nothing = 0
step_weight (steps.Leaf i) = 0
step_weight (steps.List l) = level_weight l
