-- What does a source hand in? Plain values: two sources say the same exactly where these are equal.
use Rattle.std.specs.Prelude.{ℕ, Bool, List, [], ◌∷◌, map, string_bytes, Option, Some, None}
use Rattle.hir_base.specs.ModPath.{Path}
use Rattle.hir_ids.specs.declared.macro_kind.MacroExpander.{MacroExpander}
use Rattle.hir_ids.specs.declared.ast_id.SyntaxId.{SyntaxId}
use Rattle.hir_item_tree.specs.Attributes.{Attributes, attributes_view}
use Rattle.hir_use_tree.specs.UseTree.{UseTree, use_tree_view}
use Rattle.hir_raw_visibility.specs.declared.raw_visibility.RawVisibility.{RawVisibility}
use Rattle.hir_base.specs.declared.shape.FieldsShape.{FieldsShape}
use Rattle.hir_use_tree.specs.declared.imports.ImportAlias.{ImportAlias}
use Rattle.hir_base.specs.declared.shape.ExternCrateName.{ExternCrateName}
use Rattle.hir_item_tree.specs.declared.source.MacroDefinition.{MacroDefinition}
use Rattle.hir_item_tree.specs.declared.source.Variant.{Variant}
use Rattle.hir_item_tree.specs.declared.source.Node.{Node, fold-Node}
use Rattle.hir_item_tree.specs.declared.source.NodeKind.TheOpen.{NodeKind-F, Node-F}
use Rattle.hir_item_tree.specs.declared.source.Source.{Source}
use Rattle.hir_item_tree.specs.declared.source.Source.TheVariants as sources

-- what every node has
pub record NodeHead : Type 0 where
  pub id : SyntaxId
  pub attributes : Attributes
  pub visibility : RawVisibility
  pub input : List ℕ

-- a macro: its text, what expands it, and the names of its helpers
pub record MacroValue : Type 0 where
  pub text : List ℕ
  pub expander : MacroExpander
  pub helpers : List (List ℕ)

-- a variant of an enum
pub record VariantValue : Type 0 where
  pub id : SyntaxId
  pub attributes : Attributes
  pub name : List ℕ
  pub shape : FieldsShape

-- a kind without nodes inside
pub data Plain : Type 0 where
  -- what it imports
  import : UseTree → Plain
  extern_crate : ExternCrateName → Option ImportAlias → Plain
  function : (name body : List ℕ) → Plain
  -- with its fields' visibilities
  structure : (name : List ℕ) → FieldsShape → List RawVisibility → Plain
  union_structure : (name : List ℕ) → List RawVisibility → Plain
  enumeration : (name : List ℕ) → List VariantValue → Plain
  -- perhaps without a name
  constant : Option (List ℕ) → (body : List ℕ) → Plain
  static_item : (name body : List ℕ) → Plain
  type_alias : (name : List ℕ) → Plain
  -- a module whose items are in a file of its own
  outline_module : (name : List ℕ) → Plain
  macro_call : Path → Plain
  macro_rules : (name : List ℕ) → MacroValue → Plain
  macro_def : (name : List ℕ) → MacroValue → Plain

-- a kind with nodes inside
pub data Holder : Type 0 where
  extern_block : Holder
  trait_item : (name : List ℕ) → Holder
  -- whether it is of a trait
  implementation : Bool → Holder
  -- a module that is written where it is declared
  inline_module : (name : List ℕ) → Holder

mutual
  pub data Item : Type 0 where
    plain : NodeHead → Plain → Item
    holder : NodeHead → Holder → Items → Item

  -- nodes, in their order
  pub data Items : Type 0 where
    no_items : Items
    item : Item → Items → Items

-- a source: one that can't be read, or the attributes at its top, and its nodes
pub data SourceValue : Type 0 where
  broken : SourceValue
  unit : Attributes → Items → SourceValue

-- nodes one after another
abbrev pub items_of : List Item → Items
items_of [] = no_items
items_of (i ∷ is) = item i (items_of is)

-- the plain value of a macro
abbrev pub macro_view : MacroDefinition → MacroValue
macro_view m = record { text = string_bytes m.text; expander = m.expander; helpers = m.helpers.items }

-- the plain value of a variant
abbrev pub variant_view : Variant → VariantValue
variant_view v = record { id = v.id; attributes = attributes_view v.attrs.items; name = v.name; shape = v.shape }

-- one kind, once its head is known, with each node inside already seen as its item
abbrev pub kind_step : NodeKind-F (NodeHead → Item) Item → NodeHead → Item
kind_step (NodeKind-F.Use tree) h = plain h (import (use_tree_view tree))
kind_step (NodeKind-F.ExternCrate name alias) h = plain h (extern_crate name alias)
kind_step (NodeKind-F.ExternBlock nodes) h = holder h extern_block (items_of nodes.items)
kind_step (NodeKind-F.Fn name body) h = plain h (function name (string_bytes body))
kind_step (NodeKind-F.Struct name shape fields) h = plain h (structure name shape fields.items)
kind_step (NodeKind-F.Union name fields) h = plain h (union_structure name fields.items)
kind_step (NodeKind-F.Enum name variants) h = plain h (enumeration name (map variant_view variants.items))
kind_step (NodeKind-F.Const name body) h = plain h (constant name (string_bytes body))
kind_step (NodeKind-F.Static name body) h = plain h (static_item name (string_bytes body))
kind_step (NodeKind-F.Trait name items) h = holder h (trait_item name) (items_of items.items)
kind_step (NodeKind-F.Impl of_trait items) h = holder h (implementation of_trait) (items_of items.items)
kind_step (NodeKind-F.TypeAlias name) h = plain h (type_alias name)
kind_step (NodeKind-F.Module name None) h = plain h (outline_module name)
kind_step (NodeKind-F.Module name (Some nodes)) h = holder h (inline_module name) (items_of nodes.items)
kind_step (NodeKind-F.MacroCall path) h = plain h (macro_call path)
kind_step (NodeKind-F.MacroRules name definition) h = plain h (macro_rules name (macro_view definition))
kind_step (NodeKind-F.MacroDef name definition) h = plain h (macro_def name (macro_view definition))

-- one node, with its kind already seen
abbrev pub node_step : Node-F (NodeHead → Item) Item → Item
node_step n = n.kind (record { id = n.id; attributes = attributes_view n.attrs.items; visibility = n.vis; input = string_bytes n.input })

-- the plain value of a node
abbrev pub node_view : Node → Item
node_view = fold-Node (NodeHead → Item) Item kind_step node_step

-- the plain value of nodes
abbrev pub nodes_view : List Node → Items
nodes_view ns = items_of (map node_view ns)

-- the plain value of a source
abbrev pub source_view : Source → SourceValue
source_view (sources.Unit u) = unit (attributes_view u.attrs.items) (nodes_view u.nodes.items)
source_view sources.Broken = broken
