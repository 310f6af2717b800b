use Rattle.std.proofs.Common.{◌≡◌, ℕ, ◌-◌, ◌<◌, ◌≤◌, false}
use Rattle.hir_crate_graph.specs.Bits.{has_bit}
use Rattle.hir_crate_graph.proofs.words.first_from.Given as goal

-- no bit is set at the places that are passed
abbrev pub invariant-next : goal.invariant-next
invariant-next l = (l.from ≤ l.at) × ((n : ℕ) → l.from ≤ n → n < l.at → has_bit l.words n ≡ false)

abbrev pub decreases-next : goal.decreases-next
decreases-next l = l.to - l.at
