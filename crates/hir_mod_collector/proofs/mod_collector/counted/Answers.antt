use Rattle.std.proofs.Common.{rules, arith}
use Rattle.hir_mod_collector.proofs.mod_collector.counted.Goals as goal

pub returns-clause-below : goal.returns-clause-below
returns-clause-below c = first_of (omega (arith, c.ranges.number), omega arith, search rules, grind arith)
