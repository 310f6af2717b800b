use Rattle.std.proofs.Common.{◌≡◌, map, take}
use Rattle.serde_json.specs.View.{view}
use Rattle.hir_wire.specs.Replies.{place_data}
use Rattle.hir_wire.proofs.write.reply.places_list.Given as goal

-- the places so far
abbrev pub invariant-loop-place : goal.invariant-loop-place
invariant-loop-place l = map view l.values.items ≡ map place_data (take l.place-index l.places)
