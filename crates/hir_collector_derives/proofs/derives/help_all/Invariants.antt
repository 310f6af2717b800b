use Rattle.std.proofs.Common.{drop, map}
use Rattle.hir_collector_state.specs.HirCollectorRules.Calls.{helper_by}
use Rattle.hir_collector_state.specs.HirCollectorRules.State.{core_in}
use Rattle.hir_collector_state.specs.Waiting.{IsNoted}
use Rattle.hir_collector_derives.proofs.Helping.{MakesWithLeft}
use Rattle.hir_collector_derives.proofs.derives.help_all.Given as goal

-- those brought so far, with those that are left, are all
abbrev pub invariant-loop-name : goal.invariant-loop-name
invariant-loop-name l = record {
  brought : MakesWithLeft l.node (map (helper_by l.makro l.became) (drop l.name-index l.names)) (map (helper_by l.makro l.became) l.names)
      (core_in l.initial.run) (core_in l.run);
  noted : IsNoted l.initial.run l.run;
}
