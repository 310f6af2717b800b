use Rattle.std.proofs.Common.{sym, subst, List}
use Rattle.hir_ids.specs.declared.ids.ModuleId.{ModuleId}
use Rattle.hir_scope_table.specs.Inner.Places.{Names, AreNamesSorted}
use Rattle.hir_scope_table.proofs.globs.Globs.new.Goals as goal

pub invariant_of-result : goal.invariant_of-result
invariant_of-result c = subst (λ (es : List (ModuleId × Names)). AreNamesSorted es) (sym c.new.ensures.empty) tt
