use Rattle.std.proofs.Common.{◌<◌, ◌≤◌, ℕ, length, slice_index}
use Rattle.std.specs.Prelude.{Contains}
use Rattle.hir_glob_imports.specs.Types.{Key}
use Rattle.hir_glob_imports.proofs.pending.add_each.Given as goal

-- the edges from `left` on are pending at the key
abbrev pub invariant-next : goal.invariant-next
invariant-next l = record {
  in_range : l.left ≤ length l.edges;
  kept : (j : ℕ) (other : Key) → Contains l.initial.pending.items (j, other) → Contains l.pending.items (j, other);
  each : (i : ℕ) → l.left ≤ i → i < length l.edges → Contains l.pending.items (slice_index l.edges i, l.key);
}

abbrev pub decreases-next : goal.decreases-next
decreases-next l = l.left
