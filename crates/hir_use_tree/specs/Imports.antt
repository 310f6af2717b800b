-- What does a `use` item mean: which imports?
use Rattle.std.specs.Prelude.{ℕ, zero, suc, ◌+◌, List, [], ◌∷◌, ◌++◌, Option, Some, None, nat_lt, if◌then◌else◌}
use Rattle.hir_base.specs.ModPath.{Path}
use Rattle.hir_base.specs.declared.mod_path.PathKind.{PathKind}
use Rattle.hir_base.specs.declared.mod_path.PathKind.TheVariants as roots
use Rattle.hir_use_tree.specs.declared.imports.ImportAlias.{ImportAlias}
use Rattle.hir_use_tree.specs.declared.imports.ImportKind.TheVariants as kinds
use Rattle.hir_use_tree.specs.declared.joined_path.JoinedPath.{JoinedPath}
use Rattle.hir_use_tree.specs.declared.joined_path.JoinedPath.TheVariants as joins
use Rattle.hir_use_tree.specs.UseTree.{UseTree, single, glob, prefixed, UseTrees, no_trees, tree, tree_size, count_of}
-- one import: the leaf's place among the use tree's parts in preorder, and what it names
pub use Rattle.hir_use_tree.specs.declared.imports.Import.{Import}

-- so many levels of `super` behind a prefix, which is itself only levels of `super`
abbrev pub levels_behind : PathKind → (before : List (List ℕ)) → (more : ℕ) → List (List ℕ) → JoinedPath
levels_behind (roots.Super levels) [] more segments =
    if nat_lt 255 (levels + more) then joins.Nothing
    else joins.Whole (record { kind = roots.Super (levels + more); segments = segments })
levels_behind (roots.Super levels) (s ∷ ss) more segments = joins.Nothing
levels_behind roots.Plain before more segments = joins.Nothing
levels_behind roots.Crate before more segments = joins.Nothing
levels_behind roots.Abs before more segments = joins.Nothing
levels_behind (roots.DollarCrate c) before more segments = joins.Nothing

-- `self` behind a prefix is the prefix itself, and nothing may follow it
abbrev pub super_behind : Path → ℕ → List (List ℕ) → JoinedPath
super_behind prefix zero [] = joins.Itself prefix
super_behind prefix zero (s ∷ ss) = joins.Nothing
super_behind prefix (suc n) segments = levels_behind prefix.kind prefix.segments (suc n) segments

abbrev pub rooted_behind : Path → PathKind → List (List ℕ) → JoinedPath
rooted_behind prefix roots.Plain segments = joins.Whole (record { kind = prefix.kind; segments = prefix.segments ++ segments })
rooted_behind prefix (roots.Super n) segments = super_behind prefix n segments
rooted_behind prefix roots.Crate segments = joins.Nothing
rooted_behind prefix roots.Abs segments = joins.Nothing
rooted_behind prefix (roots.DollarCrate c) segments = joins.Nothing

-- a path as it goes on behind a prefix; without one it stands as it is written
abbrev pub joined_path : Option Path → Path → JoinedPath
joined_path None path = joins.Whole path
joined_path (Some prefix) path = rooted_behind prefix path.kind path.segments

-- the import of one path: `self` in a list takes types alone
abbrev pub single_imports : ℕ → JoinedPath → Option ImportAlias → List Import
single_imports place joins.Nothing alias = []
single_imports place (joins.Whole path) alias = record { place = place; path = path; kind = kinds.Plain; alias = alias } ∷ []
single_imports place (joins.Itself path) alias = record { place = place; path = path; kind = kinds.TypeOnly; alias = alias } ∷ []

-- the import of all names at a path
abbrev pub glob_import : ℕ → Path → Import
glob_import place path = record { place = place; path = path; kind = kinds.Glob; alias = None }

-- the import of all names at a path behind a prefix
abbrev pub joined_glob : ℕ → JoinedPath → List Import
joined_glob place joins.Nothing = []
joined_glob place (joins.Whole path) = glob_import place path ∷ []
joined_glob place (joins.Itself path) = glob_import place path ∷ []

-- the import of all names: at the path where there is one, else at the prefix
abbrev pub glob_imports : ℕ → (prefix : Option Path) → Option Path → List Import
glob_imports place prefix (Some path) = joined_glob place (joined_path prefix path)
glob_imports place (Some prefix) None = glob_import place prefix ∷ []
glob_imports place None None = []

-- what is imported behind a path that was joined; nothing where it names the prefix itself
abbrev pub behind_joined : JoinedPath → (Option Path → List Import) → List Import
behind_joined joins.Nothing imports = []
behind_joined (joins.Whole path) imports = imports (Some path)
behind_joined (joins.Itself path) imports = []

-- what is imported behind a prefix of a list
abbrev pub behind : (prefix : Option Path) → Option Path → (Option Path → List Import) → List Import
behind prefix None imports = imports prefix
behind prefix (Some path) imports = behind_joined (joined_path prefix path) imports

abbrev mutual
  -- the imports of a tree at a place, behind a prefix
  pub imports_at : ℕ → Option Path → UseTree → List Import
  imports_at place prefix (single path alias) = single_imports place (joined_path prefix path) alias
  imports_at place prefix (glob path) = glob_imports place prefix path
  imports_at place prefix (prefixed path ts) = behind prefix path (λ p. all_imports_at (count_of (place + 1)) p ts)

  -- the imports of trees from a place on, behind a prefix
  pub all_imports_at : ℕ → Option Path → UseTrees → List Import
  all_imports_at place prefix no_trees = []
  all_imports_at place prefix (tree t ts) = imports_at place prefix t ++ all_imports_at (count_of (place + tree_size t)) prefix ts

-- the imports that a use tree writes, in the order of its leaves
abbrev pub imports_of : UseTree → List Import
imports_of t = imports_at 0 None t
