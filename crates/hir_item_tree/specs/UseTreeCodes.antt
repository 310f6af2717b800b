-- Codes of use trees: how each is stored as a tree of numbers.
use Rattle.std.specs.Prelude.{◌≡◌, Option}
use Rattle.std.specs.Coded.{Coded, coded_option}
use Rattle.std.proofs.Common.{refl, ap, ap₂, arith}
use base.Stored.{Gv, gnil, gnum, gcons}
use Rattle.hir_base.specs.ModPath.{Path}
use Rattle.hir_use_tree.specs.declared.imports.ImportAlias.{ImportAlias}
use Rattle.hir_use_tree.specs.UseTree.{UseTree, single, glob, prefixed, UseTrees, no_trees, tree}
use Rattle.hir_item_tree.specs.ValueCodes.{coded_path, coded_alias, number, halves}

-- a path, where there is one
abbrev pub coded_optional_path : Coded (Option Path)
coded_optional_path = coded_option coded_path

-- an alias, where there is one
abbrev pub coded_optional_alias : Coded (Option ImportAlias)
coded_optional_alias = coded_option coded_alias

abbrev mutual
  -- the number tree of a use tree
  pub tree_code : UseTree → Gv
  tree_code (single path alias) = gcons (gnum 0) (gcons (coded_path.code path) (coded_optional_alias.code alias))
  tree_code (glob path) = gcons (gnum 1) (coded_optional_path.code path)
  tree_code (prefixed path ts) = gcons (gnum 2) (gcons (coded_optional_path.code path) (trees_code ts))

  -- the number tree of trees
  pub trees_code : UseTrees → Gv
  trees_code no_trees = gnil
  trees_code (tree t ts) = gcons (tree_code t) (trees_code ts)

mutual
  pub tree_code_inj : (x y : UseTree) → tree_code x ≡ tree_code y → x ≡ y
  tree_code_inj (single p a) (single q b) e =
      let h = halves (coded_path.code p) (coded_optional_alias.code a) (coded_path.code q) (coded_optional_alias.code b) (halves (gnum 0) _ (gnum 0) _ e).1 in
      ap₂ single (coded_path.inj p q h.0) (coded_optional_alias.inj a b h.1)
  tree_code_inj (single p a) (glob q) e = absurd (omega (arith, number 0 1 (halves (gnum 0) _ (gnum 1) _ e).0))
  tree_code_inj (single p a) (prefixed q us) e = absurd (omega (arith, number 0 2 (halves (gnum 0) _ (gnum 2) _ e).0))
  tree_code_inj (glob p) (single q b) e = absurd (omega (arith, number 1 0 (halves (gnum 1) _ (gnum 0) _ e).0))
  tree_code_inj (glob p) (glob q) e = ap glob (coded_optional_path.inj p q (halves (gnum 1) _ (gnum 1) _ e).1)
  tree_code_inj (glob p) (prefixed q us) e = absurd (omega (arith, number 1 2 (halves (gnum 1) _ (gnum 2) _ e).0))
  tree_code_inj (prefixed p ts) (single q b) e = absurd (omega (arith, number 2 0 (halves (gnum 2) _ (gnum 0) _ e).0))
  tree_code_inj (prefixed p ts) (glob q) e = absurd (omega (arith, number 2 1 (halves (gnum 2) _ (gnum 1) _ e).0))
  tree_code_inj (prefixed p ts) (prefixed q us) e =
      let h = halves (coded_optional_path.code p) (trees_code ts) (coded_optional_path.code q) (trees_code us) (halves (gnum 2) _ (gnum 2) _ e).1 in
      ap₂ prefixed (coded_optional_path.inj p q h.0) (trees_code_inj ts us h.1)

  pub trees_code_inj : (x y : UseTrees) → trees_code x ≡ trees_code y → x ≡ y
  trees_code_inj no_trees no_trees e = refl
  trees_code_inj no_trees (tree u us) e = cc
  trees_code_inj (tree t ts) no_trees e = cc
  trees_code_inj (tree t ts) (tree u us) e =
      let h = halves (tree_code t) (trees_code ts) (tree_code u) (trees_code us) e in
      ap₂ tree (tree_code_inj t u h.0) (trees_code_inj ts us h.1)

-- a use tree
abbrev pub coded_use_tree : Coded UseTree
coded_use_tree = record { code = tree_code; inj = tree_code_inj }
