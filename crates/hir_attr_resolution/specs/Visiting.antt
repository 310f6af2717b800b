-- What is visited.
use Rattle.std.specs.Prelude.{◌≡◌, map, true, Some, slice_get}
use Rattle.hir_collector_state.specs.HirItemTree.Collected.{is_enabled, numbered}
use Rattle.hir_collector_state.specs.HirItemTree.KeptForest.{KeptItem, all_items}
use Rattle.hir_collector_state.specs.HirItemTree.Kinds.{item_head}
use Rattle.hir_attr_resolution.specs.declared.attributes.Visited.{Visited}
use Rattle.hir_collector_state.specs.HirDefMapRules.State.{Map}
use Rattle.hir_collector_state.specs.HirCollectorRules.Attributes.{adt_of, item_node}

-- this is what the item that is visited is: the item of a number in a tree, with its node, its attributes, and the struct, union or enum that it is
pub record IsVisited (m : Map) (visited : Visited) (item : KeptItem) : Type 0 where
  pub kept : slice_get (all_items visited.source.now.value.tree.items) visited.id.0 ≡ Some item
  pub node : visited.node ≡ item_node visited.site.now item
  pub enabled : is_enabled (item_head item).attributes ≡ true
  pub attributes : map numbered visited.attrs.now ≡ (item_head item).attributes.attributes
  pub adt : visited.adt ≡ adt_of m visited.site.now item
