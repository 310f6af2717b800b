-- What is left decides.
use Rattle.std.proofs.Common.{◌≡◌, length, option_copied}
use Rattle.hir_nameres.specs.WorldParts.{are_within}
use Rattle.hir_nameres.proofs.world.part.WorldPart.are_each_within.Given as goal

abbrev pub invariant-next : goal.invariant-next
invariant-next l = are_within (option_copied l.self.crates) l.self.holders.now l.fn.modules ≡ are_within (option_copied l.self.crates) l.self.holders.now l.left

abbrev pub decreases-next : goal.decreases-next
decreases-next l = length l.left
