-- Codes of kept items: how each is stored as a tree of numbers.
use Rattle.std.specs.Prelude.{◌≡◌}
use Rattle.std.specs.Coded.{Coded, codes}
use Rattle.std.proofs.Common.{refl, ap₂, arith}
use base.Stored.{Gv, gnil, gnum, gcons}
use Rattle.hir_ids.specs.declared.macro_kind.MacroExpander.{MacroExpander}
use Rattle.hir_base.specs.declared.shape.ExternCrateName.{ExternCrateName}
use Rattle.hir_item_tree.specs.KeptForest.{Head, Leaf, Holder, KeptItem, leaf, holder, KeptForest, no_items, item}
use Rattle.hir_item_tree.specs.ValueCodes.{number, halves, coded_name, coded_id, coded_path, coded_visibility, coded_shape, coded_alias}
use Rattle.hir_item_tree.specs.UseTreeCodes.{coded_use_tree}
use Rattle.hir_item_tree.specs.CollectedCodes.{coded_collected}

-- what expands a macro
pub coded_expander : Coded MacroExpander
coded_expander = hlevel (codes)

-- the name of an extern crate
pub coded_crate_name : Coded ExternCrateName
coded_crate_name = hlevel (codes)

-- what every item has
pub coded_head : Coded Head
coded_head = hlevel (codes, coded_id, coded_visibility, coded_collected)

-- an item that holds no others
pub coded_leaf : Coded Leaf
coded_leaf = hlevel (codes, coded_name, coded_use_tree, coded_crate_name, coded_alias, coded_shape, coded_visibility, coded_path, coded_expander)

-- what an item that holds others is
pub coded_holder : Coded Holder
coded_holder = hlevel (codes, coded_name)

abbrev mutual
  -- the number tree of an item
  pub item_code : KeptItem → Gv
  item_code (leaf h l) = gcons (gnum 0) (gcons (coded_head.code h) (coded_leaf.code l))
  item_code (holder h k f) = gcons (gnum 1) (gcons (gcons (coded_head.code h) (coded_holder.code k)) (forest_code f))

  -- the number tree of a forest
  pub forest_code : KeptForest → Gv
  forest_code no_items = gnil
  forest_code (item i is) = gcons (item_code i) (forest_code is)

mutual
  pub item_code_inj : (x y : KeptItem) → item_code x ≡ item_code y → x ≡ y
  item_code_inj (leaf h l) (leaf i m) e =
      let p = halves (coded_head.code h) (coded_leaf.code l) (coded_head.code i) (coded_leaf.code m) (halves (gnum 0) _ (gnum 0) _ e).1 in
      ap₂ leaf (coded_head.inj h i p.0) (coded_leaf.inj l m p.1)
  item_code_inj (leaf h l) (holder i k f) e = absurd (omega (arith, number 0 1 (halves (gnum 0) _ (gnum 1) _ e).0))
  item_code_inj (holder h k f) (leaf i m) e = absurd (omega (arith, number 1 0 (halves (gnum 1) _ (gnum 0) _ e).0))
  item_code_inj (holder h k f) (holder i m g) e =
      let p = halves (gcons (coded_head.code h) (coded_holder.code k)) (forest_code f) (gcons (coded_head.code i) (coded_holder.code m)) (forest_code g)
      (halves (gnum 1) _ (gnum 1) _ e).1 in
      let q = halves (coded_head.code h) (coded_holder.code k) (coded_head.code i) (coded_holder.code m) p.0 in
      let same_head = coded_head.inj h i q.0 in
      let same_kind = coded_holder.inj k m q.1 in
      let same_items = forest_code_inj f g p.1 in
      cc

  pub forest_code_inj : (x y : KeptForest) → forest_code x ≡ forest_code y → x ≡ y
  forest_code_inj no_items no_items e = refl
  forest_code_inj no_items (item k f) e = cc
  forest_code_inj (item k f) no_items e = cc
  forest_code_inj (item k f) (item l g) e =
      let p = halves (item_code k) (forest_code f) (item_code l) (forest_code g) e in
      ap₂ item (item_code_inj k l p.0) (forest_code_inj f g p.1)

-- items in their order
abbrev pub coded_forest : Coded KeptForest
coded_forest = record { code = forest_code; inj = forest_code_inj }
