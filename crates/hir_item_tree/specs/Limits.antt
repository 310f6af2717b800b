-- How large is a source, and which limits does it pass?
use Rattle.std.specs.Prelude.{◌≡◌, ℕ, suc, ◌+◌, ◌<◌, max, Bool, false, ◌||◌, nat_lt, length, Option, Some, None}
use Rattle.std.specs.List.{list_any}
use Rattle.hir_base.specs.ModPath.{Path}
use Rattle.hir_raw_visibility.specs.declared.raw_visibility.RawVisibility.{RawVisibility}
use Rattle.hir_raw_visibility.specs.declared.raw_visibility.RawVisibility.TheVariants as raw
use Rattle.hir_item_tree.specs.declared.check.NodeId.{NodeId}
use Rattle.hir_base.specs.Cfg.{Cfg, invalid, constant as constant_cfg, atom, all, any, unless, Cfgs, no_cfgs, cfg as next_cfg}
use Rattle.hir_item_tree.specs.Attributes.{Tokens, paths, tokens, derive, Input, literal, parentheses, Attribute, meta, cfg, cfg_attr, Attributes}
use Rattle.hir_item_tree.specs.Attributes.{no_attributes, attribute}
use Rattle.hir_use_tree.specs.UseTree.{UseTree, tree_depth}
pub use Rattle.hir_use_tree.specs.UseTree.{tree_size}
pub use Rattle.hir_use_tree.specs.Limits.{is_long, has_long_tree, Spent}
use Rattle.hir_item_tree.specs.Source.{NodeHead, VariantValue, Plain, import, extern_crate, function, structure, union_structure, enumeration, constant}
use Rattle.hir_item_tree.specs.Source.{static_item, type_alias, outline_module, macro_call, macro_rules, macro_def, Holder, extern_block, trait_item}
use Rattle.hir_item_tree.specs.Source.{implementation, inline_module, Item, plain, holder, Items, no_items, item}

-- a visibility with a long path
abbrev pub has_long_visibility : RawVisibility → Bool
has_long_visibility (raw.Module p e) = is_long p
has_long_visibility _ = false

-- parentheses with a long path in them
abbrev pub has_long_tokens : Tokens → Bool
has_long_tokens (paths ps) = list_any is_long ps
has_long_tokens (tokens text) = false
has_long_tokens (derive name helpers) = false

-- what stands behind an attribute's path, with a long path in it
abbrev pub has_long_input : Option Input → Bool
has_long_input None = false
has_long_input (Some (literal text)) = false
has_long_input (Some (parentheses ts)) = has_long_tokens ts

abbrev mutual
  -- an attribute with a long path in it
  pub has_long_attribute : Attribute → Bool
  has_long_attribute (meta m) = is_long m.path || has_long_input m.input
  has_long_attribute (cfg c) = false
  has_long_attribute (cfg_attr c inner) = have_long_attribute inner

  -- attributes with a long path in one of them
  pub have_long_attribute : Attributes → Bool
  have_long_attribute no_attributes = false
  have_long_attribute (attribute a rest) = has_long_attribute a || have_long_attribute rest

-- a variant with a long path
abbrev pub has_long_variant : VariantValue → Bool
has_long_variant v = have_long_attribute v.attributes

-- what every node has, with a long path in it
abbrev pub has_long_head : NodeHead → Bool
has_long_head h = has_long_visibility h.visibility || have_long_attribute h.attributes

-- a kind with a long path in it
abbrev pub has_long_plain : Plain → Bool
has_long_plain (import t) = has_long_tree t
has_long_plain (structure name shape fields) = list_any has_long_visibility fields
has_long_plain (union_structure name fields) = list_any has_long_visibility fields
has_long_plain (enumeration name variants) = list_any has_long_variant variants
has_long_plain (macro_call path) = is_long path
has_long_plain _ = false

abbrev mutual
  -- a node with a long path in it
  pub has_long_path : Item → Bool
  has_long_path (plain h p) = has_long_head h || has_long_plain p
  has_long_path (holder h k is) = has_long_head h || have_long_path is

  -- nodes with a long path in one of them
  pub have_long_path : Items → Bool
  have_long_path no_items = false
  have_long_path (item i is) = has_long_path i || have_long_path is

-- a syntax id with an index above 2,047
abbrev pub has_large_index : NodeId → Bool
has_large_index n = nat_lt 2047 n.id.index

-- how many variants, fields and use trees there are in a kind
abbrev pub plain_size : Plain → ℕ
plain_size (import t) = tree_size t
plain_size (structure name shape fields) = length fields
plain_size (union_structure name fields) = length fields
plain_size (enumeration name variants) = length variants
plain_size _ = 0

abbrev mutual
  -- how many nodes, variants, fields and use trees there are in a node, itself included
  pub item_size : Item → ℕ
  item_size (plain h p) = suc (plain_size p)
  item_size (holder h k is) = suc (size is)

  -- how many there are in nodes
  pub size : Items → ℕ
  size no_items = 0
  size (item i is) = item_size i + size is

-- how many modules a kind without nodes nests: one, where it is a module
abbrev pub plain_depth : Plain → ℕ
plain_depth (outline_module name) = 1
plain_depth _ = 0

-- how deep modules nest in a node of this kind, if they nest so deep inside
abbrev pub holder_depth : Holder → ℕ → ℕ
holder_depth (inline_module name) inside = suc inside
holder_depth _ inside = inside

abbrev mutual
  -- how deep modules nest in a node
  pub item_depth : Item → ℕ
  item_depth (plain h p) = plain_depth p
  item_depth (holder h k is) = holder_depth k (depth is)

  -- how deep they nest in nodes
  pub depth : Items → ℕ
  depth no_items = 0
  depth (item i is) = max (item_depth i) (depth is)

-- a use tree whose lists nest more than 24 deep
abbrev pub is_deep_tree : UseTree → Bool
is_deep_tree t = nat_lt 24 (tree_depth t)

-- a kind with such a use tree
abbrev pub has_deep_tree_in : Plain → Bool
has_deep_tree_in (import t) = is_deep_tree t
has_deep_tree_in _ = false

abbrev mutual
  -- a node with such a use tree in it
  pub has_deep_tree : Item → Bool
  has_deep_tree (plain h p) = has_deep_tree_in p
  has_deep_tree (holder h k is) = have_deep_tree is

  -- nodes with such a use tree in one of them
  pub have_deep_tree : Items → Bool
  have_deep_tree no_items = false
  have_deep_tree (item i is) = has_deep_tree i || have_deep_tree is

abbrev mutual
  -- how deep `all`, `any` and `not` nest in a condition
  pub cfg_depth : Cfg → ℕ
  cfg_depth (all cs) = suc (cfgs_depth cs)
  cfg_depth (any cs) = suc (cfgs_depth cs)
  cfg_depth (unless c) = suc (cfg_depth c)
  cfg_depth _ = 0

  -- how deep they nest in conditions
  pub cfgs_depth : Cfgs → ℕ
  cfgs_depth no_cfgs = 0
  cfgs_depth (next_cfg c cs) = max (cfg_depth c) (cfgs_depth cs)

abbrev mutual
  -- how deep conditions and `cfg_attr` nest in an attribute
  pub attribute_depth : Attribute → ℕ
  attribute_depth (meta m) = 0
  attribute_depth (cfg c) = cfg_depth c
  attribute_depth (cfg_attr c inner) = suc (max (cfg_depth c) (attributes_depth inner))

  -- how deep they nest in attributes
  pub attributes_depth : Attributes → ℕ
  attributes_depth no_attributes = 0
  attributes_depth (attribute a rest) = max (attribute_depth a) (attributes_depth rest)

-- attributes in which they nest more than 16 deep
abbrev pub are_deep : Attributes → Bool
are_deep attributes = nat_lt 16 (attributes_depth attributes)

-- a variant with such attributes
abbrev pub is_deep_variant : VariantValue → Bool
is_deep_variant v = are_deep v.attributes

-- a kind with such attributes inside
abbrev pub has_deep_variant : Plain → Bool
has_deep_variant (enumeration name variants) = list_any is_deep_variant variants
has_deep_variant _ = false

abbrev mutual
  -- a node with such attributes in it
  pub has_deep_cfg : Item → Bool
  has_deep_cfg (plain h p) = are_deep h.attributes || has_deep_variant p
  has_deep_cfg (holder h k is) = are_deep h.attributes || have_deep_cfg is

  -- nodes with such attributes in one of them
  pub have_deep_cfg : Items → Bool
  have_deep_cfg no_items = false
  have_deep_cfg (item i is) = has_deep_cfg i || have_deep_cfg is
