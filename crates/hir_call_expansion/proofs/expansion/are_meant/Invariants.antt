use Rattle.std.proofs.Common.{drop}
use Rattle.std.specs.List.{All}
use Rattle.hir_collector_state.specs.HirCollectorRules.Keys.{IsMeant}
use Rattle.hir_call_expansion.proofs.expansion.are_meant.Given as goal

-- where the sources of those that are left have numbers, those of all have
abbrev pub invariant-loop-makro : goal.invariant-loop-makro
invariant-loop-makro l = All (IsMeant l.locations) (drop l.makro-index l.macros) → All (IsMeant l.locations) l.macros
