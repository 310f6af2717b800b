-- Those that are left have the same first.
use Rattle.std.proofs.Common.{◌≡◌, length}
use Rattle.hir_assoc_items.specs.Readers.{as_function, first_named}
use Rattle.hir_assoc_items.proofs.assoc.first_function.Given as goal

abbrev pub invariant-next : goal.invariant-next
invariant-next l = first_named as_function l.name l.left ≡ first_named as_function l.name l.items

abbrev pub decreases-next : goal.decreases-next
decreases-next l = length l.left
