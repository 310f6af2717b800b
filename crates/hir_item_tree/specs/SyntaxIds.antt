-- Which nodes does a source have, by kind and id, and which of them stood before?
use Rattle.std.specs.Prelude.{Bool, List, [], ◌∷◌, ◌++◌, map, Option, Some, None, if◌then◌else◌}
use Rattle.std.specs.List.{list_any}
use Rattle.hir_ids.specs.declared.ast_id.AstKind.{AstKind}
use Rattle.hir_ids.specs.declared.ast_id.SyntaxId.{SyntaxId}
use Rattle.hir_ids.specs.declared.ast_id.AstKind.TheVariants as kinds
use Rattle.hir_item_tree.specs.declared.check.NodeId.{NodeId}
use Rattle.hir_item_tree.specs.Source.{VariantValue, Plain, import, extern_crate, function, structure, union_structure, enumeration, constant, static_item}
use Rattle.hir_item_tree.specs.Source.{type_alias, outline_module, macro_call, macro_rules, macro_def, Holder, extern_block, trait_item, implementation}
use Rattle.hir_item_tree.specs.Source.{inline_module, Item, plain, holder, Items, no_items, item}

-- a node of a kind
abbrev pub node_id : AstKind → SyntaxId → NodeId
node_id kind id = record { kind = kind; id = id }

-- the kind of a node without nodes inside
abbrev pub plain_kind : Plain → AstKind
plain_kind (import tree) = kinds.Use
plain_kind (extern_crate name alias) = kinds.ExternCrate
plain_kind (function name body) = kinds.Fn
plain_kind (structure name shape fields) = kinds.Struct
plain_kind (union_structure name fields) = kinds.Union
plain_kind (enumeration name variants) = kinds.Enum
plain_kind (constant name body) = kinds.Const
plain_kind (static_item name body) = kinds.Static
plain_kind (type_alias name) = kinds.TypeAlias
plain_kind (outline_module name) = kinds.Module
plain_kind (macro_call path) = kinds.MacroCall
plain_kind (macro_rules name definition) = kinds.MacroRules
plain_kind (macro_def name definition) = kinds.MacroDef

-- the kind of a node with nodes inside
abbrev pub holder_kind : Holder → AstKind
holder_kind extern_block = kinds.ExternBlock
holder_kind (trait_item name) = kinds.Trait
holder_kind (implementation of_trait) = kinds.Impl
holder_kind (inline_module name) = kinds.Module

-- the kind of a node
abbrev pub node_kind : Item → AstKind
node_kind (plain h p) = plain_kind p
node_kind (holder h k is) = holder_kind k

-- a variant
abbrev pub variant_id : VariantValue → NodeId
variant_id v = node_id kinds.Variant v.id

-- the variants in a kind
abbrev pub variant_ids : Plain → List NodeId
variant_ids (enumeration name variants) = map variant_id variants
variant_ids _ = []

abbrev mutual
  -- a node, its variants and those inside, in preorder
  pub item_ids : Item → List NodeId
  item_ids (plain h p) = node_id (plain_kind p) h.id ∷ variant_ids p
  item_ids (holder h k is) = node_id (holder_kind k) h.id ∷ ids is

  -- nodes, their variants and those inside, in preorder
  pub ids : Items → List NodeId
  ids no_items = []
  ids (item i is) = item_ids i ++ ids is

-- of those that are left, the first that is among those before it
abbrev pub repeat_after : {K : Type 0} → (K → K → Bool) → List K → List K → Option K
repeat_after eq before [] = None
repeat_after eq before (k ∷ ks) = if list_any (eq k) before then Some k else repeat_after eq (before ++ k ∷ []) ks
