-- Those that are left have the same first.
use Rattle.std.proofs.Common.{◌≡◌, length}
use Rattle.hir_assoc_items.specs.Readers.{as_type, first_named}
use Rattle.hir_assoc_items.proofs.assoc.first_type.Given as goal

abbrev pub invariant-next : goal.invariant-next
invariant-next l = first_named as_type l.name l.left ≡ first_named as_type l.name l.items

abbrev pub decreases-next : goal.decreases-next
decreases-next l = length l.left
