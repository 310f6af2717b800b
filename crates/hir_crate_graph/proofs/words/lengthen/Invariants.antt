use Rattle.std.proofs.Common.{◌≡◌, ℕ, ◌-◌, ◌≤◌, vec_len}
use Rattle.hir_crate_graph.specs.Bits.{has_bit}
use Rattle.hir_crate_graph.proofs.words.lengthen.Given as goal

-- the row has no other bits, and is no longer than it has to be
abbrev pub invariant-grow : goal.invariant-grow
invariant-grow l =
    ((n : ℕ) → has_bit l.words.items n ≡ has_bit l.initial.words.items n)
    × ((most : ℕ) → vec_len l.initial.words ≤ most → l.len ≤ most → vec_len l.words ≤ most)

abbrev pub decreases-grow : goal.decreases-grow
decreases-grow l = l.len - vec_len l.words
