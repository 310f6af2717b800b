use Rattle.std.proofs.Common.{◌≤◌, false, length}
use Rattle.hir_glob_imports.specs.declared.step.TheConstants.{MAX_STEPS}
use Rattle.hir_glob_imports.specs.Inner.{Looks}
use Rattle.hir_glob_imports.specs.Waves.{IsKept}
use Rattle.hir_glob_imports.proofs.glob_imports.GlobImports.advance.Given as goal

-- only pairs were taken out at which nothing was to be done
abbrev pub invariant-pending : goal.invariant-pending
invariant-pending g l = record {
  looks : Looks g.N.Names.table false l.initial.names l.initial.self l.initial.count l.initial.changes.items l.names l.self l.count l.changes.items;
  kept : IsKept (g.N.Names.table.view l.initial.names) l.initial.self → IsKept (g.N.Names.table.view l.names) l.self;
  small : l.count ≤ MAX_STEPS;
}

abbrev pub decreases-pending : goal.decreases-pending
decreases-pending g l = length l.self.pending
