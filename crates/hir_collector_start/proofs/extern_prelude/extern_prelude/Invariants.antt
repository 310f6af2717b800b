use Rattle.std.proofs.Common.{◌≡◌, [], drop}
use Rattle.hir_collector_rules.specs.Preludes.{extern_prelude}
use Rattle.hir_collector_start.proofs.extern_prelude.extern_prelude.Given as goal

-- with those that are left, all join
abbrev pub invariant-loop-dependency : goal.invariant-loop-dependency
invariant-loop-dependency l = extern_prelude l.crate_data l.local (drop l.dependency-index l.dependencies) ≡ extern_prelude l.crate_data [] l.dependencies
