use Rattle.std.proofs.Common.{◌≡◌, map, take}
use Rattle.hir_session_sources.proofs.crates.named_crates.Given as goal

abbrev pub invariant-loop-dependency : goal.invariant-loop-dependency
invariant-loop-dependency l = l.crates.items ≡ map (λ d. d.krate) (take l.dependency-index l.dependencies)
