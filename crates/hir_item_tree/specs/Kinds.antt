-- What is an item as a tree lends it?
use Rattle.std.specs.Prelude.{Option, Some, None}
use Rattle.hir_ids.specs.declared.ast_id.AstKind.{AstKind}
use Rattle.hir_ids.specs.declared.ast_id.AstKind.TheVariants as nodes
use Rattle.hir_use_tree.specs.UseTree.{use_tree_view}
use Rattle.hir_item_tree.specs.KeptForest.{Head, Leaf, import, extern_crate, function, structure, union_structure, enumeration, constant, static_item}
use Rattle.hir_item_tree.specs.KeptForest.{trait_item, implementation, type_alias, outline_module, macro_call, macro_rules, macro_def, Holder, extern_block}
use Rattle.hir_item_tree.specs.KeptForest.{inline_module, KeptItem, leaf, holder}
use Rattle.hir_item_tree.specs.Rows.{Content, alone, with_items, numbers_of}
use Rattle.hir_item_tree.specs.declared.kinds.RawVisibilityId.{RawVisibilityId}
use Rattle.hir_item_tree.specs.declared.kinds.ModKind.{ModKind}
use Rattle.hir_item_tree.specs.declared.kinds.ModKind.TheVariants.{Inline, Outline}
use Rattle.hir_item_tree.specs.declared.kinds.Mod.{Mod}
use Rattle.hir_item_tree.specs.declared.kinds.ModItemKind.{ModItemKind}
use Rattle.hir_item_tree.specs.declared.kinds.ModItemKind.TheVariants as kinds

-- what every item has
abbrev pub item_head : KeptItem → Head
item_head (leaf h l) = h
item_head (holder h k f) = h

-- what a module is
abbrev pub module_content : ModKind → Mod → Content
module_content (Inline items) m = with_items (inline_module m.name.now) (numbers_of items.now)
module_content Outline m = alone (outline_module m.name.now)

-- what a kind is, with the numbers of those that it holds
abbrev pub kind_content : ModItemKind → Content
kind_content (kinds.Use i) = alone (import (use_tree_view i.use_tree.now))
kind_content (kinds.ExternCrate i) = alone (extern_crate i.name.now i.alias.now)
kind_content (kinds.ExternBlock i) = with_items extern_block (numbers_of i.children.now)
kind_content (kinds.Function i) = alone (function i.name.now)
kind_content (kinds.Struct i) = alone (structure i.name.now i.shape i.fields.now)
kind_content (kinds.Union i) = alone (union_structure i.name.now i.fields.now)
kind_content (kinds.Enum i) = alone (enumeration i.name.now)
kind_content (kinds.Const i) = alone (constant i.name.now)
kind_content (kinds.Static i) = alone (static_item i.name.now)
kind_content (kinds.Trait i) = alone (trait_item i.name.now)
kind_content (kinds.Impl i) = alone (implementation i.of_trait)
kind_content (kinds.TypeAlias i) = alone (type_alias i.name.now)
kind_content (kinds.Mod i) = module_content i.kind i
kind_content (kinds.MacroCall i) = alone (macro_call i.path.now)
kind_content (kinds.MacroRules i) = alone (macro_rules i.name.now i.expander i.helpers.now)
kind_content (kinds.Macro2 i) = alone (macro_def i.name.now i.expander i.helpers.now)

-- the visibility that a kind names, where it has one
abbrev pub kind_visibility : ModItemKind → Option RawVisibilityId
kind_visibility (kinds.Use i) = Some i.visibility
kind_visibility (kinds.ExternCrate i) = Some i.visibility
kind_visibility (kinds.Function i) = Some i.visibility
kind_visibility (kinds.Struct i) = Some i.visibility
kind_visibility (kinds.Union i) = Some i.visibility
kind_visibility (kinds.Enum i) = Some i.visibility
kind_visibility (kinds.Const i) = Some i.visibility
kind_visibility (kinds.Static i) = Some i.visibility
kind_visibility (kinds.Trait i) = Some i.visibility
kind_visibility (kinds.TypeAlias i) = Some i.visibility
kind_visibility (kinds.Mod i) = Some i.visibility
kind_visibility (kinds.Macro2 i) = Some i.visibility
kind_visibility _ = None

-- the kind of a node that a kind of item comes from
abbrev pub kind_of : ModItemKind → AstKind
kind_of (kinds.Use i) = nodes.Use
kind_of (kinds.ExternCrate i) = nodes.ExternCrate
kind_of (kinds.ExternBlock i) = nodes.ExternBlock
kind_of (kinds.Function i) = nodes.Fn
kind_of (kinds.Struct i) = nodes.Struct
kind_of (kinds.Union i) = nodes.Union
kind_of (kinds.Enum i) = nodes.Enum
kind_of (kinds.Const i) = nodes.Const
kind_of (kinds.Static i) = nodes.Static
kind_of (kinds.Trait i) = nodes.Trait
kind_of (kinds.Impl i) = nodes.Impl
kind_of (kinds.TypeAlias i) = nodes.TypeAlias
kind_of (kinds.Mod i) = nodes.Module
kind_of (kinds.MacroCall i) = nodes.MacroCall
kind_of (kinds.MacroRules i) = nodes.MacroRules
kind_of (kinds.Macro2 i) = nodes.MacroDef

-- the kind of the node of an item that holds no others
abbrev pub leaf_kind : Leaf → AstKind
leaf_kind (import tree) = nodes.Use
leaf_kind (extern_crate name alias) = nodes.ExternCrate
leaf_kind (function name) = nodes.Fn
leaf_kind (structure name shape fields) = nodes.Struct
leaf_kind (union_structure name fields) = nodes.Union
leaf_kind (enumeration name) = nodes.Enum
leaf_kind (constant name) = nodes.Const
leaf_kind (static_item name) = nodes.Static
leaf_kind (trait_item name) = nodes.Trait
leaf_kind (implementation of_trait) = nodes.Impl
leaf_kind (type_alias name) = nodes.TypeAlias
leaf_kind (outline_module name) = nodes.Module
leaf_kind (macro_call path) = nodes.MacroCall
leaf_kind (macro_rules name expander helpers) = nodes.MacroRules
leaf_kind (macro_def name expander helpers) = nodes.MacroDef

-- the kind of the node of an item that holds others
abbrev pub holder_kind : Holder → AstKind
holder_kind extern_block = nodes.ExternBlock
holder_kind (inline_module name) = nodes.Module

-- the kind of the node of an item
abbrev pub item_kind : KeptItem → AstKind
item_kind (leaf h l) = leaf_kind l
item_kind (holder h k f) = holder_kind k
