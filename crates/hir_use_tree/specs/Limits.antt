-- Which limits does a use tree pass?
use Rattle.std.specs.Prelude.{◌≡◌, ℕ, ◌+◌, ◌<◌, Bool, false, ◌||◌, nat_lt, length, Option, Some, None}
use Rattle.hir_base.specs.ModPath.{Path}
use Rattle.hir_use_tree.specs.UseTree.{UseTree, single, glob, prefixed, UseTrees, no_trees, tree}

-- a path with more than 64 segments
abbrev pub is_long : Path → Bool
is_long p = nat_lt 64 (length p.segments)

-- a long path, where there is one
abbrev pub is_long_if_some : Option Path → Bool
is_long_if_some None = false
is_long_if_some (Some p) = is_long p

abbrev mutual
  -- a use tree with a long path in it
  pub has_long_tree : UseTree → Bool
  has_long_tree (single p alias) = is_long p
  has_long_tree (glob p) = is_long_if_some p
  has_long_tree (prefixed p ts) = is_long_if_some p || have_long_tree ts

  -- trees with a long path in one of them
  pub have_long_tree : UseTrees → Bool
  have_long_tree no_trees = false
  have_long_tree (tree t ts) = has_long_tree t || have_long_tree ts

-- what is left when so much is taken from a number, if it is that much
abbrev pub Spent : Option ℕ → (much from : ℕ) → Type 0
Spent None much from = from < much
Spent (Some left) much from = left + much ≡ from
