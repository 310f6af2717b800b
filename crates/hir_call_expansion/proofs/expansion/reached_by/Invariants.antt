use Rattle.std.proofs.Common.{◌≡◌, ◌++◌, Some, drop, map}
use Rattle.hir_collector_state.specs.HirIds.declared.macro_kind.MacroId.{MacroId}
use Rattle.hir_collector_state.specs.HirNameres.WorldParts.{part_of}
use Rattle.hir_collector_state.specs.HirCollectorRules.Calls.{first_missing, inner_macro}
use Rattle.hir_collector_state.specs.HirCollectorRules.State.{core_in}
use Rattle.hir_call_expansion.proofs.expansion.reached_by.Given as goal

-- those before the ones that are left reach the macros that were found
abbrev pub invariant-loop-path : goal.invariant-loop-path
invariant-loop-path l = record {
  found : map (λ (makro : MacroId). Some makro) l.macros.items ++ map (inner_macro (part_of l.world) (core_in l.run).local (core_in l.run).map l.home)
      (drop l.path-index l.paths)
      ≡ map (inner_macro (part_of l.world) (core_in l.run).local (core_in l.run).map l.home) l.paths;
  missing : first_missing (part_of l.world) (core_in l.run).local (core_in l.run).map l.home (drop l.path-index l.paths)
      ≡ first_missing (part_of l.world) (core_in l.run).local (core_in l.run).map l.home l.paths;
}
