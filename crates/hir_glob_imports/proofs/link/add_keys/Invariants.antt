use Rattle.std.proofs.Common.{ℕ, ◌⊎◌, length}
use Rattle.std.specs.Prelude.{Contains}
use Rattle.hir_glob_imports.specs.Types.{Key}
use Rattle.hir_glob_imports.proofs.link.add_keys.Given as goal

-- each key is left, or pending at the edge
abbrev pub invariant-next : goal.invariant-next
invariant-next l = record {
  kept : (j : ℕ) (other : Key) → Contains l.initial.pending.items (j, other) → Contains l.pending.items (j, other);
  each : (key : Key) → Contains l.fn.keys.items key → Contains l.left.items key ⊎ Contains l.pending.items (l.edge, key);
}

abbrev pub decreases-next : goal.decreases-next
decreases-next l = length l.left.items
