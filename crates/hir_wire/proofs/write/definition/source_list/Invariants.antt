use Rattle.std.proofs.Common.{◌≡◌, map, ◌∷◌, take}
use Rattle.serde_json.specs.View.{view}
use Rattle.hir_wire.specs.Replies.{call_data}
use Rattle.hir_wire.proofs.write.definition.source_list.Given as goal

-- what was handed in, and the calls so far
abbrev pub invariant-loop-call : goal.invariant-loop-call
invariant-loop-call l = map view l.values.items ≡ view l.fn.root ∷ map call_data (take l.call-index l.calls)
