use Rattle.std.proofs.Common.{◌≤◌, ◌-◌}
use Rattle.std.specs.Prelude.{Contains}
use Rattle.hir_glob_imports.specs.Types.{Slot}
use Rattle.hir_glob_imports.specs.declared.step.TheConstants.{MAX_STEPS}
use Rattle.hir_glob_imports.specs.Rules.{StepsIn}
use Rattle.hir_glob_imports.specs.Waves.{IsKept, state_of}
use Rattle.hir_glob_imports.proofs.glob_imports.GlobImports.wave.Given as goal

-- steps were taken, each in a slot that was reported
abbrev pub invariant-steps : goal.invariant-steps
invariant-steps g l = record {
  steps : StepsIn g.N.Names.table l.changes.items (state_of l.initial.names l.initial.self l.initial.count) (state_of l.names l.self l.count);
  listed : (slot : Slot) → Contains l.initial.changes.items slot → Contains l.changes.items slot;
  kept : IsKept (g.N.Names.table.view l.initial.names) l.initial.self → IsKept (g.N.Names.table.view l.names) l.self;
  small : l.count ≤ MAX_STEPS;
}

abbrev pub decreases-steps : goal.decreases-steps
decreases-steps g l = MAX_STEPS - l.count
