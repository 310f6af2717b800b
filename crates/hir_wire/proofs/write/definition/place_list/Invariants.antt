use Rattle.std.proofs.Common.{◌≡◌, map, ◌∷◌, take}
use Rattle.serde_json.specs.View.{view}
use Rattle.hir_wire.specs.Replies.{element_data, number_data}
use Rattle.hir_wire.proofs.write.definition.place_list.Given as goal

-- the crate's number, and the elements so far
abbrev pub invariant-loop-element : goal.invariant-loop-element
invariant-loop-element l = map view l.values.items ≡ number_data l.fn.krate.0 ∷ map element_data (take l.element-index l.elements)
