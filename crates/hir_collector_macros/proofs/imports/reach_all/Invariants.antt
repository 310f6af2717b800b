use Rattle.std.proofs.Common.{◌≡◌, length, map}
use Rattle.hir_collector_state.specs.HirCollectorRules.State.{core_in, with_imports}
use Rattle.hir_collector_state.specs.HirCollectorRules.Imports.{reached_import}
use Rattle.hir_collector_state.specs.Waiting.{IsNoted}
use Rattle.hir_collector_macros.proofs.imports.reach_all.Given as goal

-- those noted so far, with those that are left, are all
abbrev pub invariant-loop-import : goal.invariant-loop-import
invariant-loop-import l = record {
  all : with_imports (core_in l.run) (map (reached_import l.home l.use_ l.visibility) l.imports.items)
      ≡ with_imports (core_in l.initial.run) (map (reached_import l.home l.use_ l.visibility) l.initial.imports.items);
  noted : IsNoted l.initial.run l.run;
}

abbrev pub decreases-loop-import : goal.decreases-loop-import
decreases-loop-import l = length l.imports.items
