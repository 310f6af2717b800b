-- What do handed-in attributes say?
use Rattle.std.specs.Prelude.{ℕ, suc, ◌+◌, List, [], ◌∷◌, map, string_bytes, Option, option_map}
use Rattle.hir_base.specs.ModPath.{Path}
use Rattle.hir_base.specs.Cfg.{Cfg, cfg_view}
use Rattle.hir_item_tree.specs.declared.raw_attr.TokenTree.{TokenTree}
use Rattle.hir_item_tree.specs.declared.raw_attr.TokenTree.TheVariants as trees
use Rattle.hir_item_tree.specs.declared.raw_attr.AttrInput.{AttrInput}
use Rattle.hir_item_tree.specs.declared.raw_attr.AttrInput.TheVariants as inputs
use Rattle.hir_item_tree.specs.declared.raw_attr.Meta.{Meta}
use Rattle.hir_item_tree.specs.declared.raw_attr.RawAttr.{RawAttr, fold-RawAttr}
use Rattle.hir_item_tree.specs.declared.raw_attr.RawAttr.TheOpen.{RawAttr-F}

-- what stands in the parentheses of an attribute
pub data Tokens : Type 0 where
  paths : List Path → Tokens
  -- of which only the text is known
  tokens : List ℕ → Tokens
  -- a derive macro's name, and its helpers
  derive : (name : List ℕ) → (helpers : List (List ℕ)) → Tokens

-- what stands behind the path of an attribute
pub data Input : Type 0 where
  literal : List ℕ → Input
  parentheses : Tokens → Input

-- an attribute that is no condition
pub record MetaValue : Type 0 where
  pub path : Path
  pub input : Option Input

mutual
  pub data Attribute : Type 0 where
    meta : MetaValue → Attribute
    cfg : Cfg → Attribute
    cfg_attr : Cfg → Attributes → Attribute

  -- attributes, one after another
  pub data Attributes : Type 0 where
    no_attributes : Attributes
    attribute : Attribute → Attributes → Attributes

-- attributes one after another
abbrev pub attributes_of : List Attribute → Attributes
attributes_of [] = no_attributes
attributes_of (a ∷ rest) = attribute a (attributes_of rest)

-- the plain value of what stands in parentheses
abbrev pub token_tree_view : TokenTree → Tokens
token_tree_view (trees.Paths ps) = paths ps.items
token_tree_view (trees.Tokens text) = tokens (string_bytes text)
token_tree_view (trees.Derive name helpers) = derive name helpers.items

-- the plain value of what stands behind a path
abbrev pub input_view : AttrInput → Input
input_view (inputs.Literal text) = literal (string_bytes text)
input_view (inputs.TokenTree tree) = parentheses (token_tree_view tree)

-- the plain value of an attribute that is no condition
abbrev pub meta_view : Meta → MetaValue
meta_view m = record { path = m.path; input = option_map input_view m.input }

-- one attribute, with those inside already seen
abbrev pub attribute_step : RawAttr-F Attribute → Attribute
attribute_step (RawAttr-F.Meta m) = meta (meta_view m)
attribute_step (RawAttr-F.Cfg c) = cfg (cfg_view c)
attribute_step (RawAttr-F.CfgAttr c inner) = cfg_attr (cfg_view c) (attributes_of inner.items)

-- the plain value of an attribute
abbrev pub attribute_view : RawAttr → Attribute
attribute_view = fold-RawAttr Attribute attribute_step

-- the plain value of attributes
abbrev pub attributes_view : List RawAttr → Attributes
attributes_view attrs = attributes_of (map attribute_view attrs)

abbrev mutual
  -- how many attributes there are in one, itself included
  pub attribute_size : Attribute → ℕ
  attribute_size (meta m) = 1
  attribute_size (cfg c) = 1
  attribute_size (cfg_attr c inner) = suc (attributes_size inner)

  -- how many there are in attributes
  pub attributes_size : Attributes → ℕ
  attributes_size no_attributes = 0
  attributes_size (attribute a rest) = attribute_size a + attributes_size rest
