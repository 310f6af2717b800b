use Rattle.hir_crate_graph.proofs.Closure.{transitive_agree, IsAscending-transitive}
use Rattle.hir_crate_graph.proofs.laws.transitive_dependencies_are_listed.Goals as goal

pub returns : goal.returns
returns c = record { lists = transitive_agree; ascend = IsAscending-transitive }
