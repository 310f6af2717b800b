use Rattle.std.proofs.Common.{◌≡◌, ◌≤◌, ℕ, Some, slice_get}
use Rattle.std.specs.Prelude.{Contains, IsSome}
use Rattle.hir_glob_imports.specs.Types.{Edge, Key}
use Rattle.hir_glob_imports.proofs.pending.open_each.Given as goal

-- the edges from `j` on are pending at the keys of their sources
abbrev pub invariant-next : goal.invariant-next
invariant-next g l = record {
  each : (k : ℕ) (e : Edge) (key : Key) → l.j ≤ k → slice_get l.edges k ≡ Some e → IsSome ((g.N.Names.table.view l.names).bound e.source key)
      → Contains l.pending.items (k, key);
}

abbrev pub decreases-next : goal.decreases-next
decreases-next g l = l.j
