-- Which items of a tree may traits and impls have?
use Rattle.std.specs.Prelude.{ℕ, List, [], ◌∷◌, ◌++◌, Option, None, Some, option_map}
use Rattle.hir_collector_rules.specs.HirBase.Cfg.{Cfg, cfg_view}
use Rattle.hir_collector_rules.specs.HirBase.ModPath.{Path}
use Rattle.hir_collector_rules.specs.HirIds.declared.ast_id.AstId.{AstId}
use Rattle.hir_collector_rules.specs.HirIds.declared.ast_id.AstKind.{AstKind}
use Rattle.hir_collector_rules.specs.HirIds.declared.ast_id.SyntaxId.{SyntaxId}
use Rattle.hir_collector_rules.specs.HirIds.declared.ast_id.AstKind.TheVariants as nodes
use Rattle.hir_collector_rules.specs.HirItemTree.KeptForest.{Leaf, function, constant, type_alias, macro_call}
use Rattle.hir_collector_rules.specs.HirItemTree.KeptForest.{KeptItem, leaf, holder, KeptForest, no_items, item}
use Rattle.hir_collector_rules.specs.HirItemTree.Rows.{Content, alone, with_items}
use Rattle.hir_collector_rules.specs.HirBase.declared.tree_id.TreeId.{TreeId}
use Rattle.hir_assoc_items.specs.declared.written.AssocKind.{AssocKind}
use Rattle.hir_assoc_items.specs.declared.written.AssocKind.TheVariants as kinds
use Rattle.hir_assoc_items.specs.declared.written.Written.{Written}

-- what an item is, if traits and impls have such items
abbrev pub assoc_kind : Leaf → Option AssocKind
assoc_kind (function name) = Some (kinds.Function name)
assoc_kind (constant name) = Some (kinds.Const name)
assoc_kind (type_alias name) = Some (kinds.TypeAlias name)
assoc_kind (macro_call path) = Some (kinds.MacroCall path)
assoc_kind _ = None

-- an item where it is written: in this tree, within so many expansions
pub record WrittenValue : Type 0 where
  pub tree : TreeId
  pub level : ℕ
  pub id : SyntaxId
  -- the first condition that doesn't hold, if one doesn't
  pub disabled : Option Cfg
  pub kind : AssocKind

abbrev pub written_as : TreeId → ℕ → SyntaxId → Option Cfg → Option AssocKind → List WrittenValue
written_as tree level id disabled None = []
written_as tree level id disabled (Some kind) = record { tree = tree; level = level; id = id; disabled = disabled; kind = kind } ∷ []

-- an item of a tree, if traits and impls have such items
abbrev pub written_item : TreeId → ℕ → KeptItem → List WrittenValue
written_item tree level (leaf h l) = written_as tree level h.id h.attributes.disabled (assoc_kind l)
written_item tree level (holder h k f) = []

-- those of the items of a tree that traits and impls have
abbrev pub written : TreeId → ℕ → List KeptItem → List WrittenValue
written tree level [] = []
written tree level (i ∷ is) = written_item tree level i ++ written tree level is

-- the items of a source, without those that they hold
abbrev pub top_items : KeptForest → List KeptItem
top_items no_items = []
top_items (item i is) = i ∷ top_items is

-- the path of a call
abbrev pub path_called : AssocKind → Option Path
path_called (kinds.Function name) = None
path_called (kinds.Const name) = None
path_called (kinds.TypeAlias name) = None
path_called (kinds.MacroCall path) = Some path

-- the kind of its node
abbrev pub node_kind : AssocKind → AstKind
node_kind (kinds.Function name) = nodes.Fn
node_kind (kinds.Const name) = nodes.Const
node_kind (kinds.TypeAlias name) = nodes.TypeAlias
node_kind (kinds.MacroCall path) = nodes.MacroCall

-- the node of an item
abbrev pub item_node : WrittenValue → AstId
item_node i = record { file_id = i.tree.file; block = i.tree.block; kind = node_kind i.kind; id = i.id }

-- ---- as the code keeps them

abbrev pub written_view : Written → WrittenValue
written_view i = record { tree = i.tree; level = i.level; id = i.id; disabled = option_map cfg_view i.disabled; kind = i.kind }

-- what a row is, if traits and impls have such items
abbrev pub content_kind : Content → Option AssocKind
content_kind (alone l) = assoc_kind l
content_kind (with_items k ns) = None

abbrev pub written_content : TreeId → ℕ → SyntaxId → Option Cfg → Content → List WrittenValue
written_content tree level id disabled content = written_as tree level id disabled (content_kind content)

-- an item, if there is one, and if traits and impls have such items
abbrev pub written_found : TreeId → ℕ → Option KeptItem → List WrittenValue
written_found tree level None = []
written_found tree level (Some i) = written_item tree level i
