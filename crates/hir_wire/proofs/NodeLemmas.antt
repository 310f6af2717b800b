-- The nodes inside a node, and the trees of a list, however they are looked for.
use Rattle.std.proofs.Common.{◌≡◌, ℕ, Some, List, Vec, map, codes, refl, sym, ap, ◌∙◌}
use Rattle.std.specs.declared.alloc.Global.{Global}
use Rattle.std.specs.Ordering.{nat_cmp}
use Rattle.std.specs.Cmp.Lexicographic.{slice_cmp}
use Rattle.serde_json.specs.Data.{Members, no_members, member}
use Rattle.serde_json.specs.Find.{get_member}
use Rattle.hir_item_tree.specs.Source.{NodeHead, Item, plain, holder, structure, union_structure, inline_module, items_of, kind_step, node_step, node_view}
use Rattle.hir_base.specs.declared.shape.FieldsShape.{FieldsShape}
use Rattle.hir_item_tree.specs.declared.source.Node.{Node}
use Rattle.hir_raw_visibility.specs.declared.raw_visibility.RawVisibility.{RawVisibility}
use Rattle.hir_item_tree.specs.declared.source.NodeKind.TheFolds.{fold-roll-NodeKind}
use Rattle.hir_item_tree.specs.declared.source.NodeKind.TheOpen.{NodeKind-F}
use Rattle.hir_item_tree.specs.declared.source.NodeKind.TheVariants as kinds
use Rattle.hir_wire.specs.ItemParts.{kind_view}
use Rattle.hir_wire.specs.Reading.{if_there}
use Rattle.hir_wire.specs.Nodes.{nodes_in, node_list_of}
use Rattle.hir_wire.specs.UseTrees.{trees_in, tree_list_of}
use Rattle.hir_wire.proofs.FieldLemmas.{meant_at}

-- the nodes in the member of this name, however it is looked for
pub nodes_in-get_member : (name : List ℕ) (ms : Members) → nodes_in name ms ≡ if_there node_list_of (get_member name ms)
nodes_in-get_member name no_members = refl
nodes_in-get_member name (member k d ms) = meant_at node_list_of (slice_cmp nat_cmp name k) d _ _ (nodes_in-get_member name ms)

-- the trees in the member `list`, however it is looked for
pub trees_in-get_member : (ms : Members) → trees_in ms ≡ if_there tree_list_of (get_member (codes "list") ms)
trees_in-get_member no_members = refl
trees_in-get_member (member k d ms) = meant_at tree_list_of (slice_cmp nat_cmp (codes "list") k) d _ _ (trees_in-get_member ms)

-- the plain value of a module that is written where it is declared
pub inline_module-view : (name : List ℕ) (nodes : Vec Node Global) → (λ (h : NodeHead). holder h (inline_module name) (items_of (map node_view nodes.items)))
    ≡ kind_view (kinds.Module name (Some nodes))
inline_module-view name nodes =
    sym (ap kind_view (sym (kinds.rolls-Module name (Some nodes))) ∙ fold-roll-NodeKind (NodeHead → Item) Item kind_step node_step
    (NodeKind-F.Module name (Some nodes)))

-- the plain value of a struct
pub struct-view : (name : List ℕ) (shape : FieldsShape) (fields : Vec RawVisibility Global) → (λ (h : NodeHead). plain h (structure name shape fields.items))
    ≡ kind_view (kinds.Struct name shape fields)
struct-view name shape fields =
    sym (ap kind_view (sym (kinds.rolls-Struct name shape fields)) ∙ fold-roll-NodeKind (NodeHead → Item) Item kind_step node_step
    (NodeKind-F.Struct name shape fields))

-- the plain value of a union
pub union-view : (name : List ℕ) (fields : Vec RawVisibility Global) → (λ (h : NodeHead). plain h (union_structure name fields.items))
    ≡ kind_view (kinds.Union name fields)
union-view name fields =
    sym (ap kind_view (sym (kinds.rolls-Union name fields)) ∙ fold-roll-NodeKind (NodeHead → Item) Item kind_step node_step (NodeKind-F.Union name fields))
