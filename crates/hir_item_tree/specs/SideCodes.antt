-- Codes of what a source has under a crate: how each part is stored as a tree of numbers.
use Rattle.std.specs.Coded.{Coded, codes, code_by, coded×, coded_bool, coded_list}
use Rattle.std.specs.Prelude.{Bool, List}
use Rattle.std.proofs.Common.{refl}
use Rattle.hir_ids.specs.declared.ast_id.AstKind.{AstKind}
use Rattle.hir_item_tree.specs.declared.check.NodeId.{NodeId}
use Rattle.hir_item_tree.specs.declared.side_lists.VariantItem.{VariantItem}
use Rattle.hir_item_tree.specs.Codes.{item_code, item_code_inj}
use Rattle.hir_item_tree.specs.ItemTree.{Tree, coded_tree}
use Rattle.hir_item_tree.specs.KeptForest.{KeptItem}
use Rattle.hir_item_tree.specs.SideLists.{Side, SideEntry}
use Rattle.hir_item_tree.specs.SourceTree.{SourceTreeValue}
use Rattle.hir_item_tree.specs.ValueCodes.{coded_name, coded_id, coded_shape}

-- an item
abbrev pub coded_item : Coded KeptItem
coded_item = record { code = item_code; inj = item_code_inj }

-- the kind of a node
pub coded_kind : Coded AstKind
coded_kind = hlevel (codes)

-- a node
pub coded_node : Coded NodeId
coded_node = hlevel (codes, coded_kind, coded_id)

-- a variant
pub coded_variant : Coded VariantItem
coded_variant = hlevel (codes, coded_name, coded_id, coded_shape)

-- what is kept beside an item
pub coded_side : Coded Side
coded_side = hlevel (codes, coded_name, coded_variant, coded_item)

-- an entry
pub coded_entry : Coded SideEntry
coded_entry = hlevel (codes, coded_name, coded_node, coded_side)

-- what a source has is stored as its parts
abbrev pub coded_source_tree : Coded SourceTreeValue
coded_source_tree =
    code_by (Bool × (Tree × List SideEntry)) (coded× coded_bool (coded× coded_tree (coded_list coded_entry))) (λ t. (t.present, (t.tree, t.sides)))
    (λ p. record { present = p.0; tree = p.1.0; sides = p.1.1 }) (λ _. refl)
