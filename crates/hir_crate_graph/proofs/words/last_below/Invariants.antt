use Rattle.std.proofs.Common.{◌≡◌, ℕ, ◌<◌, ◌≤◌, false}
use Rattle.hir_crate_graph.specs.Bits.{has_bit}
use Rattle.hir_crate_graph.proofs.words.last_below.Given as goal

-- no bit is set at the places that are passed
abbrev pub invariant-next : goal.invariant-next
invariant-next l = (l.at ≤ l.to) × ((n : ℕ) → l.at ≤ n → n < l.to → has_bit l.words n ≡ false)

abbrev pub decreases-next : goal.decreases-next
decreases-next l = l.at
