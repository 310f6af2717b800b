use Rattle.std.proofs.Common.{◌≡◌, ℕ, ◌<◌, ◌≤◌, get_or}
use Rattle.std.specs.Int.RustNames.{bit_or}
use Rattle.hir_crate_graph.proofs.words.set_all.Given as goal

-- the words so far are joined, and the others as they were
abbrev pub invariant-loop-at : goal.invariant-loop-at
invariant-loop-at l =
    ((k : ℕ) → k < l.at → get_or l.words k 0 ≡ bit_or (get_or l.initial.words k 0) (get_or l.others k 0))
    × ((k : ℕ) → l.at ≤ k → get_or l.words k 0 ≡ get_or l.initial.words k 0)
