use Rattle.std.proofs.Common.{◌≡◌, ◌++◌, drop}
use Rattle.hir_collector_rules.specs.Derivation.{leftover_among}
use Rattle.hir_collector_start.proofs.leftovers.untaken.Given as goal

abbrev pub invariant-loop-i : goal.invariant-loop-i
invariant-loop-i l = l.leftover.items ++ leftover_among (drop l.i l.imports) (drop l.i l.taken) ≡ leftover_among l.imports l.taken
