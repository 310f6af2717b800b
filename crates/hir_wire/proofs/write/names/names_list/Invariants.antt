use Rattle.std.proofs.Common.{◌≡◌, map, take}
use Rattle.serde_json.specs.View.{view}
use Rattle.hir_wire.specs.Replies.{bound_name_data}
use Rattle.hir_wire.proofs.write.names.names_list.Given as goal

-- the names so far
abbrev pub invariant-loop-bound : goal.invariant-loop-bound
invariant-loop-bound l = map view l.values.items ≡ map bound_name_data (take l.bound-index l.names)
