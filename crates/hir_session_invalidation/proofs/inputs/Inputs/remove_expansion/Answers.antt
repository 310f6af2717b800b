-- What is kept of the other sources stays; of this one nothing is.
use Rattle.std.proofs.Common.{ap, sym, None}
use Rattle.hir_session_state.specs.HirTables.SourcePlaces.{expansion_value}
use Rattle.hir_session_state.specs.SourceEdits.{of_expansion}
use Rattle.hir_session_state.specs.SourceTable.{workspace_in}
use Rattle.hir_session_invalidation.proofs.Current.{current_over, dropped_current}
use Rattle.hir_session_invalidation.proofs.inputs.Inputs.remove_expansion.Goals as goal

pub invariant_of-self : goal.invariant_of-self
invariant_of-self c =
    current_over _ _ c.remove.new.self (ap (workspace_in c.self.inside.crates) (sym c.remove_expansion.ensures.value))
    (dropped_current c.self.inside.crates c.self.inside.sources (of_expansion (expansion_value c.args.key.now) None) c.self.inside.trees c.remove.new.self
    c.self.invariant
    c.remove.ensures.gone c.remove.ensures.others)
