-- What does a use tree write?
use Rattle.std.specs.Prelude.{ℕ, suc, ◌+◌, min, max, List, [], ◌∷◌, ◌++◌, map, Option}
use Rattle.hir_base.specs.ModPath.{Path}
use Rattle.hir_use_tree.specs.declared.imports.ImportAlias.{ImportAlias}
use Rattle.hir_use_tree.specs.declared.use_tree.UseTree.{UseTree as WrittenTree, fold-UseTree}
use Rattle.hir_use_tree.specs.declared.use_tree.UseTreeKind.{UseTreeKind, fold-UseTreeKind}
use Rattle.hir_use_tree.specs.declared.use_tree.UseTreeKind.TheOpen.{UseTreeKind-F, UseTree-F}

mutual
  -- what a `use` item writes
  pub data UseTree : Type 0 where
    -- a path, perhaps under another name
    single : Path → Option ImportAlias → UseTree
    -- all names of what stands at a path, or at the prefix
    glob : Option Path → UseTree
    -- trees behind a path
    prefixed : Option Path → UseTrees → UseTree

  -- trees, one after another
  pub data UseTrees : Type 0 where
    no_trees : UseTrees
    tree : UseTree → UseTrees → UseTrees

-- trees one after another
abbrev pub trees_of : List UseTree → UseTrees
trees_of [] = no_trees
trees_of (t ∷ ts) = tree t (trees_of ts)

-- one kind, with the trees inside already seen
abbrev pub kind_step : UseTreeKind-F UseTree UseTree → UseTree
kind_step (UseTreeKind-F.Single path alias) = single path alias
kind_step (UseTreeKind-F.Glob path) = glob path
kind_step (UseTreeKind-F.Prefixed prefix list) = prefixed prefix (trees_of list.items)

-- one tree, with its kind already seen
abbrev pub tree_step : UseTree-F UseTree UseTree → UseTree
tree_step t = t.kind

-- the plain value of a use tree
abbrev pub use_tree_view : WrittenTree → UseTree
use_tree_view = fold-UseTree UseTree UseTree kind_step tree_step

-- the plain value of trees
abbrev pub use_trees_view : List WrittenTree → UseTrees
use_trees_view ts = trees_of (map use_tree_view ts)

-- the plain value of a tree of this kind
abbrev pub kind_view : UseTreeKind → UseTree
kind_view = fold-UseTreeKind UseTree UseTree kind_step tree_step

abbrev mutual
  -- how many trees there are in one, itself included
  pub tree_size : UseTree → ℕ
  tree_size (single path alias) = 1
  tree_size (glob path) = 1
  tree_size (prefixed prefix ts) = suc (trees_size ts)

  -- how many there are in trees
  pub trees_size : UseTrees → ℕ
  trees_size no_trees = 0
  trees_size (tree t ts) = tree_size t + trees_size ts

abbrev mutual
  -- how deep lists nest in a tree
  pub tree_depth : UseTree → ℕ
  tree_depth (single path alias) = 0
  tree_depth (glob path) = 0
  tree_depth (prefixed prefix ts) = suc (trees_depth ts)

  -- how deep they nest in trees
  pub trees_depth : UseTrees → ℕ
  trees_depth no_trees = 0
  trees_depth (tree t ts) = max (tree_depth t) (trees_depth ts)

abbrev mutual
  -- a tree and those inside, in preorder
  pub parts : UseTree → List UseTree
  parts (single path alias) = single path alias ∷ []
  parts (glob path) = glob path ∷ []
  parts (prefixed prefix ts) = prefixed prefix ts ∷ all_parts ts

  -- trees and those inside, in preorder
  pub all_parts : UseTrees → List UseTree
  all_parts no_trees = []
  all_parts (tree t ts) = parts t ++ all_parts ts

-- a number as it is counted: no further than 4,294,967,295
abbrev pub count_of : ℕ → ℕ
count_of n = min n 4294967295
