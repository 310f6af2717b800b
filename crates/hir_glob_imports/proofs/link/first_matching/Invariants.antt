use Rattle.std.proofs.Common.{◌≡◌, length}
use Rattle.hir_glob_imports.specs.Inner.{first_matching}
use Rattle.hir_glob_imports.proofs.link.first_matching.Given as goal

-- what is left has the same first edge
abbrev pub invariant-next : goal.invariant-next
invariant-next l = first_matching l.edge l.edges l.listed ≡ first_matching l.edge l.edges l.left

abbrev pub decreases-next : goal.decreases-next
decreases-next l = length l.left
