-- What does a source have under a crate?
use Rattle.std.specs.Prelude.{◌≡◌, Bool, List, Option, is_some, unwrap_or}
use Rattle.std.specs.Option.{option_and_then}
use Rattle.hir_ids.specs.declared.ast_id.AstKind.TheVariants.{Enum}
use Rattle.hir_base.specs.declared.cfg.CfgAtom.{CfgAtom}
use Rattle.hir_ids.specs.declared.ast_id.SyntaxId.{SyntaxId}
use Rattle.hir_item_tree.specs.declared.check.NodeId.{NodeId}
use Rattle.hir_item_tree.specs.declared.side_lists.VariantItem.{VariantItem}
use Rattle.hir_item_tree.specs.Attributes.{Attributes}
use Rattle.hir_item_tree.specs.ItemTree.{Tree, tree_of}
use Rattle.hir_item_tree.specs.SideLists.{SideEntry, entry_of, entry_variants, side_lists}
use Rattle.hir_item_tree.specs.Source.{SourceValue, broken}
use Rattle.hir_item_tree.specs.SyntaxIds.{node_id}

-- whether it is there, its tree, and the entries beside the tree in preorder
pub record SourceTreeValue : Type 0 where
  pub present : Bool
  pub tree : Tree
  pub sides : List SideEntry

-- what a source has under the options that are set, behind attributes of the crate; one that is absent has what a
-- broken one has
abbrev pub source_tree_of : (CfgAtom → Bool) → Attributes → Option SourceValue → SourceTreeValue
source_tree_of set front source = record {
  present = is_some source;
  tree = tree_of set front (unwrap_or source broken);
  sides = side_lists set (unwrap_or source broken);
}

-- the entry of a node, where there is one
abbrev pub side_of : SourceTreeValue → NodeId → Option SideEntry
side_of t node = entry_of node t.sides

-- the variants of the enum with this id, where it is there
abbrev pub variants_of : SourceTreeValue → SyntaxId → Option (List VariantItem)
variants_of t id = option_and_then entry_variants (side_of t (node_id Enum id))

-- both are there or both absent, with equal trees
pub record HasSameTree (a b : SourceTreeValue) : Type 0 where
  pub present : a.present ≡ b.present
  pub tree : a.tree ≡ b.tree
