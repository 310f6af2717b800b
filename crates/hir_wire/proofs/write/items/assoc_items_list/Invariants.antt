use Rattle.std.proofs.Common.{◌≡◌, map, take}
use Rattle.serde_json.specs.View.{view}
use Rattle.hir_wire.specs.Replies.{assoc_item_data}
use Rattle.hir_wire.proofs.write.items.assoc_items_list.Given as goal

-- the items so far
abbrev pub invariant-loop-item : goal.invariant-loop-item
invariant-loop-item l = map view l.values.items ≡ map assoc_item_data (take l.item-index l.items)
