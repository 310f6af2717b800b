use Rattle.std.proofs.Common.{◌≡◌, length}
use Rattle.hir_assoc_items.specs.AssocItems.{first_missing}
use Rattle.hir_assoc_items.specs.Steps.{container_view}
use Rattle.hir_assoc_items.proofs.flatten.first_missing.Given as goal

-- those before the ones that are left reach macros
abbrev pub invariant-next : goal.invariant-next
invariant-next l = first_missing (container_view l.container) l.left ≡ first_missing (container_view l.container) l.paths

abbrev pub decreases-next : goal.decreases-next
decreases-next l = length l.left
