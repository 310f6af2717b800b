use Rattle.std.proofs.Common.{◌≡◌, map, take}
use Rattle.serde_json.specs.View.{view}
use Rattle.hir_wire.specs.Replies.{called_data}
use Rattle.hir_wire.proofs.write.items.calls_list.Given as goal

-- the calls so far
abbrev pub invariant-loop-call : goal.invariant-loop-call
invariant-loop-call l = map view l.values.items ≡ map called_data (take l.call-index l.calls)
