use Rattle.std.proofs.Common.{drop}
use Rattle.hir_collector_state.specs.HirCollectorRules.State.{core_in}
use Rattle.hir_collector_state.specs.Waiting.{IsNoted}
use Rattle.hir_call_expansion.proofs.Texts.{AsksLeft}
use Rattle.hir_call_expansion.proofs.expansion.ask_texts.Given as goal

-- those asked for so far, with those that are left, are all
abbrev pub invariant-loop-makro : goal.invariant-loop-makro
invariant-loop-makro l = record {
  asked : AsksLeft (drop l.makro-index l.macros) l.macros (core_in l.initial.run) (core_in l.run);
  noted : IsNoted l.initial.run l.run;
}
