-- How is a source stored?
use Rattle.std.specs.Prelude.{◌≡◌}
use Rattle.std.specs.Coded.{Coded, codes}
use Rattle.std.proofs.Common.{refl, ap, ap₂, arith}
use base.Stored.{Gv, gnil, gnum, gcons}
use Rattle.hir_collector_rules.specs.HirItemTree.Attributes.{Attribute, meta, cfg, cfg_attr, Attributes, no_attributes, attribute}
use Rattle.hir_collector_rules.specs.HirItemTree.Source.{NodeHead, MacroValue, VariantValue, Plain, Holder, Item}
use Rattle.hir_collector_rules.specs.HirItemTree.Source.{plain, holder, Items, no_items, item, SourceValue}
use Rattle.hir_collector_rules.specs.HirItemTree.ValueCodes.{number, halves, coded_name, coded_id, coded_path, coded_visibility, coded_shape, coded_alias}
use Rattle.hir_collector_rules.specs.HirItemTree.UseTreeCodes.{coded_use_tree}
use Rattle.hir_collector_rules.specs.HirItemTree.CollectedCodes.{coded_cfg, coded_meta}
use Rattle.hir_collector_rules.specs.HirItemTree.Codes.{coded_expander, coded_crate_name}

-- ---- attributes

abbrev mutual
  -- the number tree of an attribute
  pub attribute_code : Attribute → Gv
  attribute_code (meta m) = gcons (gnum 0) (coded_meta.code m)
  attribute_code (cfg c) = gcons (gnum 1) (coded_cfg.code c)
  attribute_code (cfg_attr c inner) = gcons (gnum 2) (gcons (coded_cfg.code c) (attributes_code inner))

  -- the number tree of attributes
  pub attributes_code : Attributes → Gv
  attributes_code no_attributes = gnil
  attributes_code (attribute a rest) = gcons (attribute_code a) (attributes_code rest)

mutual
  pub attribute_code_inj : (x y : Attribute) → attribute_code x ≡ attribute_code y → x ≡ y
  attribute_code_inj (meta m) (meta n) e = ap meta (coded_meta.inj m n (halves (gnum 0) _ (gnum 0) _ e).1)
  attribute_code_inj (meta m) (cfg c) e = absurd (omega (arith, number 0 1 (halves (gnum 0) _ (gnum 1) _ e).0))
  attribute_code_inj (meta m) (cfg_attr c inner) e = absurd (omega (arith, number 0 2 (halves (gnum 0) _ (gnum 2) _ e).0))
  attribute_code_inj (cfg c) (meta m) e = absurd (omega (arith, number 1 0 (halves (gnum 1) _ (gnum 0) _ e).0))
  attribute_code_inj (cfg c) (cfg d) e = ap cfg (coded_cfg.inj c d (halves (gnum 1) _ (gnum 1) _ e).1)
  attribute_code_inj (cfg c) (cfg_attr d inner) e = absurd (omega (arith, number 1 2 (halves (gnum 1) _ (gnum 2) _ e).0))
  attribute_code_inj (cfg_attr c inner) (meta m) e = absurd (omega (arith, number 2 0 (halves (gnum 2) _ (gnum 0) _ e).0))
  attribute_code_inj (cfg_attr c inner) (cfg d) e = absurd (omega (arith, number 2 1 (halves (gnum 2) _ (gnum 1) _ e).0))
  attribute_code_inj (cfg_attr c inner) (cfg_attr d more) e =
      let h = halves (coded_cfg.code c) (attributes_code inner) (coded_cfg.code d) (attributes_code more) (halves (gnum 2) _ (gnum 2) _ e).1 in
      ap₂ cfg_attr (coded_cfg.inj c d h.0) (attributes_code_inj inner more h.1)

  pub attributes_code_inj : (x y : Attributes) → attributes_code x ≡ attributes_code y → x ≡ y
  attributes_code_inj no_attributes no_attributes e = refl
  attributes_code_inj no_attributes (attribute b more) e = cc
  attributes_code_inj (attribute a rest) no_attributes e = cc
  attributes_code_inj (attribute a rest) (attribute b more) e =
      let h = halves (attribute_code a) (attributes_code rest) (attribute_code b) (attributes_code more) e in
      ap₂ attribute (attribute_code_inj a b h.0) (attributes_code_inj rest more h.1)

-- attributes in their order
abbrev pub coded_attributes : Coded Attributes
coded_attributes = record { code = attributes_code; inj = attributes_code_inj }

-- ---- items

-- what every node has
pub coded_node_head : Coded NodeHead
coded_node_head = hlevel (codes, coded_name, coded_id, coded_attributes, coded_visibility)

-- a macro
pub coded_macro : Coded MacroValue
coded_macro = hlevel (codes, coded_name, coded_expander)

-- a variant
pub coded_variant : Coded VariantValue
coded_variant = hlevel (codes, coded_name, coded_id, coded_attributes, coded_shape)

-- a kind without nodes inside
pub coded_plain : Coded Plain
coded_plain = hlevel (codes, coded_name, coded_use_tree, coded_crate_name, coded_alias, coded_shape, coded_visibility, coded_variant, coded_path, coded_macro)

-- a kind with nodes inside
pub coded_node_holder : Coded Holder
coded_node_holder = hlevel (codes, coded_name)

abbrev mutual
  -- the number tree of an item
  pub item_code : Item → Gv
  item_code (plain h k) = gcons (gnum 0) (gcons (coded_node_head.code h) (coded_plain.code k))
  item_code (holder h k is) = gcons (gnum 1) (gcons (gcons (coded_node_head.code h) (coded_node_holder.code k)) (items_code is))

  -- the number tree of items
  pub items_code : Items → Gv
  items_code no_items = gnil
  items_code (item i is) = gcons (item_code i) (items_code is)

mutual
  pub item_code_inj : (x y : Item) → item_code x ≡ item_code y → x ≡ y
  item_code_inj (plain h k) (plain i l) e =
      let p = halves (coded_node_head.code h) (coded_plain.code k) (coded_node_head.code i) (coded_plain.code l) (halves (gnum 0) _ (gnum 0) _ e).1 in
      ap₂ plain (coded_node_head.inj h i p.0) (coded_plain.inj k l p.1)
  item_code_inj (plain h k) (holder i l is) e = absurd (omega (arith, number 0 1 (halves (gnum 0) _ (gnum 1) _ e).0))
  item_code_inj (holder h k is) (plain i l) e = absurd (omega (arith, number 1 0 (halves (gnum 1) _ (gnum 0) _ e).0))
  item_code_inj (holder h k is) (holder i l js) e =
      let p = halves (gcons (coded_node_head.code h) (coded_node_holder.code k)) (items_code is) (gcons (coded_node_head.code i) (coded_node_holder.code l))
      (items_code js) (halves (gnum 1) _ (gnum 1) _ e).1 in
      let q = halves (coded_node_head.code h) (coded_node_holder.code k) (coded_node_head.code i) (coded_node_holder.code l) p.0 in
      let same_head = coded_node_head.inj h i q.0 in
      let same_kind = coded_node_holder.inj k l q.1 in
      let same_items = items_code_inj is js p.1 in
      cc

  pub items_code_inj : (x y : Items) → items_code x ≡ items_code y → x ≡ y
  items_code_inj no_items no_items e = refl
  items_code_inj no_items (item j js) e = cc
  items_code_inj (item i is) no_items e = cc
  items_code_inj (item i is) (item j js) e =
      let p = halves (item_code i) (items_code is) (item_code j) (items_code js) e in
      ap₂ item (item_code_inj i j p.0) (items_code_inj is js p.1)

-- items in their order
abbrev pub coded_items : Coded Items
coded_items = record { code = items_code; inj = items_code_inj }

-- a source
pub coded_source : Coded SourceValue
coded_source = hlevel (codes, coded_attributes, coded_items)
