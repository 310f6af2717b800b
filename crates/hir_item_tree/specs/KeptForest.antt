-- What is kept of a source? Its items, without bodies, variants, texts of macros, inputs and associated items.
use Rattle.std.specs.Prelude.{ℕ, Bool, true, false, List, [], ◌∷◌, ◌++◌, Option, if◌then◌else◌}
use Rattle.hir_base.specs.ModPath.{Path}
use Rattle.hir_base.specs.declared.cfg.CfgAtom.{CfgAtom}
use Rattle.hir_ids.specs.declared.macro_kind.MacroExpander.{MacroExpander}
use Rattle.hir_ids.specs.declared.ast_id.SyntaxId.{SyntaxId}
use Rattle.hir_raw_visibility.specs.declared.raw_visibility.RawVisibility.{RawVisibility}
use Rattle.hir_raw_visibility.specs.declared.raw_visibility.RawVisibility.TheVariants as raw
use Rattle.hir_ids.specs.declared.explicitness.VisibilityExplicitness.TheVariants as explicitness
use Rattle.hir_base.specs.declared.shape.FieldsShape.{FieldsShape}
use Rattle.hir_use_tree.specs.declared.imports.ImportAlias.{ImportAlias}
use Rattle.hir_base.specs.declared.shape.ExternCrateName.{ExternCrateName}
use Rattle.hir_item_tree.specs.Attributes.{Attributes}
use Rattle.hir_item_tree.specs.Collected.{Collected, collect_all}
use Rattle.hir_use_tree.specs.UseTree.{UseTree}
use Rattle.hir_item_tree.specs.Source as written
use Rattle.hir_item_tree.specs.Source.{NodeHead, Plain, Holder as WrittenHolder, Item, Items}

-- what every item has; a kind without visibility has the implicit one
pub record Head : Type 0 where
  pub id : SyntaxId
  pub visibility : RawVisibility
  pub attributes : Collected

-- an item that holds no others
pub data Leaf : Type 0 where
  -- what it imports
  import : UseTree → Leaf
  extern_crate : ExternCrateName → Option ImportAlias → Leaf
  function : (name : List ℕ) → Leaf
  -- with its fields' visibilities
  structure : (name : List ℕ) → FieldsShape → List RawVisibility → Leaf
  union_structure : (name : List ℕ) → List RawVisibility → Leaf
  enumeration : (name : List ℕ) → Leaf
  constant : Option (List ℕ) → Leaf
  static_item : (name : List ℕ) → Leaf
  trait_item : (name : List ℕ) → Leaf
  -- whether it is of a trait
  implementation : Bool → Leaf
  type_alias : (name : List ℕ) → Leaf
  -- a module whose items are in a file of its own
  outline_module : (name : List ℕ) → Leaf
  macro_call : Path → Leaf
  macro_rules : (name : List ℕ) → MacroExpander → (helpers : List (List ℕ)) → Leaf
  macro_def : (name : List ℕ) → MacroExpander → (helpers : List (List ℕ)) → Leaf

-- what an item that holds others is
pub data Holder : Type 0 where
  extern_block : Holder
  -- a module that is written where it is declared
  inline_module : (name : List ℕ) → Holder

mutual
  pub data KeptItem : Type 0 where
    leaf : Head → Leaf → KeptItem
    holder : Head → Holder → KeptForest → KeptItem

  -- items in the order of the source
  pub data KeptForest : Type 0 where
    no_items : KeptForest
    item : KeptItem → KeptForest → KeptForest

-- no visibility is written
abbrev pub implicit_visibility : RawVisibility
implicit_visibility = raw.PubSelf explicitness.Implicit

-- the visibility that is kept of a kind without nodes, where this one is written
abbrev pub plain_visibility : Plain → RawVisibility → RawVisibility
plain_visibility (written.macro_call path) v = implicit_visibility
plain_visibility (written.macro_rules name definition) v = implicit_visibility
plain_visibility _ v = v

-- the visibility that is kept of a kind with nodes inside, where this one is written
abbrev pub holder_visibility : WrittenHolder → RawVisibility → RawVisibility
holder_visibility written.extern_block v = implicit_visibility
holder_visibility (written.trait_item name) v = v
holder_visibility (written.implementation of_trait) v = implicit_visibility
holder_visibility (written.inline_module name) v = v

-- what is kept of a kind without nodes inside
abbrev pub kept_leaf : Plain → Leaf
kept_leaf (written.import tree) = import tree
kept_leaf (written.extern_crate name alias) = extern_crate name alias
kept_leaf (written.function name body) = function name
kept_leaf (written.structure name shape fields) = structure name shape fields
kept_leaf (written.union_structure name fields) = union_structure name fields
kept_leaf (written.enumeration name variants) = enumeration name
kept_leaf (written.constant name body) = constant name
kept_leaf (written.static_item name body) = static_item name
kept_leaf (written.type_alias name) = type_alias name
kept_leaf (written.outline_module name) = outline_module name
kept_leaf (written.macro_call path) = macro_call path
kept_leaf (written.macro_rules name definition) = macro_rules name definition.expander definition.helpers
kept_leaf (written.macro_def name definition) = macro_def name definition.expander definition.helpers

-- whether an extern block keeps a node of this kind
abbrev pub is_foreign_kind : Plain → Bool
is_foreign_kind (written.function name body) = true
is_foreign_kind (written.static_item name body) = true
is_foreign_kind (written.type_alias name) = true
is_foreign_kind (written.macro_call path) = true
is_foreign_kind _ = false

-- whether an extern block keeps a node
abbrev pub is_foreign : Item → Bool
is_foreign (written.plain h p) = is_foreign_kind p
is_foreign (written.holder h k is) = false

-- what is left of handed-in attributes under the options that are set
abbrev pub kept_attributes : (CfgAtom → Bool) → Attributes → Collected
kept_attributes set attributes = collect_all set attributes 0

-- what is kept of what every node has, under the options that are set
abbrev pub kept_head : (CfgAtom → Bool) → NodeHead → RawVisibility → Head
kept_head set h visibility = record { id = h.id; visibility = visibility; attributes = kept_attributes set h.attributes }

-- an item of this kind, with what is kept of its nodes as items of a module, and as those of an extern block
abbrev pub kept_holder : Head → WrittenHolder → KeptForest → KeptForest → KeptItem
kept_holder h written.extern_block items foreign = holder h extern_block foreign
kept_holder h (written.trait_item name) items foreign = leaf h (trait_item name)
kept_holder h (written.implementation of_trait) items foreign = leaf h (implementation of_trait)
kept_holder h (written.inline_module name) items foreign = holder h (inline_module name) items

-- an item before others, if it is kept
abbrev pub and_item : Bool → KeptItem → KeptForest → KeptForest
and_item kept i is = if kept then item i is else is

abbrev mutual
  -- what is kept of a node, under the options that are set
  pub kept_item : (CfgAtom → Bool) → Item → KeptItem
  kept_item set (written.plain h p) = leaf (kept_head set h (plain_visibility p h.visibility)) (kept_leaf p)
  kept_item set (written.holder h k is) =
      kept_holder (kept_head set h (holder_visibility k h.visibility)) k (kept_items set is) (kept_foreign set is)

  -- what is kept of nodes, in their order
  pub kept_items : (CfgAtom → Bool) → Items → KeptForest
  kept_items set written.no_items = no_items
  kept_items set (written.item i is) = item (kept_item set i) (kept_items set is)

  -- what is kept of the nodes of an extern block, in their order
  pub kept_foreign : (CfgAtom → Bool) → Items → KeptForest
  kept_foreign set written.no_items = no_items
  kept_foreign set (written.item i is) = and_item (is_foreign i) (kept_item set i) (kept_foreign set is)

abbrev mutual
  -- an item and those inside, each after those that it holds
  pub item_and_inside : KeptItem → List KeptItem
  item_and_inside (leaf h l) = leaf h l ∷ []
  item_and_inside (holder h k f) = all_items f ++ holder h k f ∷ []

  -- the items of a forest and those inside, each after those that it holds
  pub all_items : KeptForest → List KeptItem
  all_items no_items = []
  all_items (item i is) = item_and_inside i ++ all_items is
