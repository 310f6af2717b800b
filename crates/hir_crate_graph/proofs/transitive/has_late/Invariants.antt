use Rattle.std.proofs.Common.{◌≡◌, drop}
use Rattle.hir_crate_graph.specs.Dependencies.{has_late}
use Rattle.hir_crate_graph.proofs.transitive.has_late.Given as goal

-- the answer lies in what is left
abbrev pub invariant-loop-krate : goal.invariant-loop-krate
invariant-loop-krate l = has_late l.k (drop l.krate-index l.dependencies) ≡ has_late l.k l.dependencies
