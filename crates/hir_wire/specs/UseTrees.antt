-- What does a JSON value mean as a use tree?
use Rattle.std.specs.Prelude.{ℕ, List, [], Option, Some, None, Ok, Err, if◌then◌else◌, codes}
use Rattle.std.specs.Ordering.{nat_cmp, match_ordering}
use Rattle.std.specs.Cmp.Lexicographic.{slice_cmp}
use Rattle.std.specs.Str.{bytes_eq}
use Rattle.serde_json.specs.Data.{Data, null, boolean, number, string, array, object, Items, no_items, item, Members, no_members, member}
use Rattle.serde_json.specs.Find.{as_str}
use Rattle.hir_base.specs.ModPath.{Path}
use Rattle.hir_use_tree.specs.declared.imports.ImportAlias.{ImportAlias}
use Rattle.hir_use_tree.specs.declared.imports.ImportAlias.TheVariants.{Underscore, Alias}
use Rattle.hir_item_tree.specs.UseTree.{UseTree, single, glob, prefixed, trees_of as forest}
use Rattle.hir_wire.specs.declared.read_error.ReadError.TheVariants.{Command}
use Rattle.hir_wire.specs.Paths.{name_meant, path_of, text_as}
use Rattle.hir_wire.specs.Reading.{Reading, made, paired, listed, required, maybe, has_member}

-- the alias that a text is
abbrev pub alias_meant : List ℕ → Reading ImportAlias
alias_meant text = if bytes_eq text (codes "_") then Ok Underscore else made Alias (name_meant text)

-- a value as an alias
abbrev pub alias_of : Data → Reading ImportAlias
alias_of d = text_as alias_meant (as_str d)

-- a value as the path of a glob; null is the prefix
abbrev pub glob_path_of : Data → Reading (Option Path)
glob_path_of null = Ok None
glob_path_of (boolean b) = Err Command
glob_path_of (number n) = Err Command
glob_path_of (string s) = made Some (path_of (string s))
glob_path_of (array ds) = Err Command
glob_path_of (object ms) = Err Command

-- a tree of a path, perhaps under another name
unfoldable pub single_in : Members → Reading UseTree
single_in ms = made (λ p. single p.0 p.1) (paired (required path_of (codes "single") ms) (maybe alias_of (codes "as") ms))

-- a tree of all names of what stands at a path, or at the prefix
unfoldable pub glob_in : Members → Reading UseTree
glob_in ms = made glob (required glob_path_of (codes "glob") ms)

-- a tree without a list: a path or a glob, and not both
abbrev pub leaf_in : Members → Reading UseTree
leaf_in ms = if has_member (codes "glob") ms then (if has_member (codes "single") ms then Err Command else glob_in ms) else single_in ms

-- these trees, perhaps behind a path
unfoldable pub prefixed_in : Members → Reading (List UseTree) → Reading UseTree
prefixed_in ms trees = made (λ p. prefixed p.0 (forest p.1)) (paired (maybe path_of (codes "path") ms) trees)

-- a tree with a list, which is neither a path nor a glob
abbrev pub branch_in : Members → Reading (List UseTree) → Reading UseTree
branch_in ms trees = if has_member (codes "single") ms then Err Command else (if has_member (codes "glob") ms then Err Command else prefixed_in ms trees)

-- a tree, once the trees of its list, if it has one, are read
abbrev pub tree_with : Members → Reading (List UseTree) → Reading UseTree
tree_with ms trees = if has_member (codes "list") ms then branch_in ms trees else leaf_in ms

abbrev mutual
  -- a value as a use tree
  pub tree_of : Data → Reading UseTree
  tree_of null = Err Command
  tree_of (boolean b) = Err Command
  tree_of (number n) = Err Command
  tree_of (string s) = Err Command
  tree_of (array ds) = Err Command
  tree_of (object ms) = tree_with ms (trees_in ms)

  -- the trees in the member `list`, which has to be there
  pub trees_in : Members → Reading (List UseTree)
  trees_in no_members = Err Command
  trees_in (member k d ms) = match_ordering (slice_cmp nat_cmp (codes "list") k) (trees_in ms) (tree_list_of d) (trees_in ms)

  -- a value as a list of use trees
  pub tree_list_of : Data → Reading (List UseTree)
  tree_list_of null = Err Command
  tree_list_of (boolean b) = Err Command
  tree_list_of (number n) = Err Command
  tree_list_of (string s) = Err Command
  tree_list_of (array ds) = trees_of ds
  tree_list_of (object ms) = Err Command

  -- each tree of a list
  pub trees_of : Items → Reading (List UseTree)
  trees_of no_items = Ok []
  trees_of (item d ds) = listed (tree_of d) (trees_of ds)
