use Rattle.std.proofs.Common.{◌≡◌, drop}
use Rattle.hir_collector_state.specs.HirCollectorRules.State.{core_in, with_calls}
use Rattle.hir_collector_state.specs.HirCollectorRules.Steps.{derives_from}
use Rattle.hir_collector_state.specs.Waiting.{IsNoted}
use Rattle.hir_attr_resolution.proofs.attributes.await_derives.Given as goal

-- those listed so far, with those that are left, are all
abbrev pub invariant-loop-path : goal.invariant-loop-path
invariant-loop-path l = record {
  all : with_calls (core_in l.run) (derives_from l.site l.node l.attr l.adt l.index (drop l.path-index l.paths))
      ≡ with_calls (core_in l.initial.run) (derives_from l.site l.node l.attr l.adt 0 l.paths);
  noted : IsNoted l.initial.run l.run;
}
