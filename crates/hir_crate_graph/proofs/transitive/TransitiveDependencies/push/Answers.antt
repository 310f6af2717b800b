use Rattle.std.proofs.Common.{arith, rules}
use Rattle.std.proofs.lemmas.Grind.{common_steps}
use Rattle.hir_crate_graph.proofs.Closure.{AreTransitive-adds}
use Rattle.hir_crate_graph.proofs.transitive.TransitiveDependencies.push.Goals as goal

pub returns-clause-transitive : goal.returns-clause-transitive
returns-clause-transitive c = λ direct are now. AreTransitive-adds direct _ _ _ are now (first_of (search rules, grind (arith, common_steps)))
