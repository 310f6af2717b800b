use Rattle.std.proofs.Common.{◌≡◌, length, []}
use Rattle.hir_scope.specs.Scope.Reads.{calls_among, calls_of_attributes, calls_of_items}
use Rattle.hir_scope.proofs.item_scope.iter.calls.DeriveCallIds.advance.Given as goal

abbrev pub invariant-next : goal.invariant-next
invariant-next l =
    (calls_of_items l.initial.self-inside.items ≡ calls_of_items l.self-inside.items)
    × (calls_among l.self-inside.slots.now ≡ []) × (calls_of_attributes l.self-inside.attributes.now ≡ [])

abbrev pub decreases-next : goal.decreases-next
decreases-next l = length l.self-inside.items
