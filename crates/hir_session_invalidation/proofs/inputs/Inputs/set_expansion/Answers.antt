-- What is kept of the other sources stays; of this one nothing is.
use Rattle.std.proofs.Common.{ap, sym, Some}
use Rattle.hir_session_state.specs.HirTables.SourcePlaces.{expansion, expansion_value}
use Rattle.hir_session_sources.specs.EditValues.{entry_value}
use Rattle.hir_session_state.specs.SourceEdits.{of_expansion}
use Rattle.hir_session_state.specs.SourceTable.{workspace_in}
use Rattle.hir_session_invalidation.proofs.Current.{current_over, dropped_current, dropped_same}
use Rattle.hir_session_state.proofs.Truth.{on_either}
use Rattle.hir_session_invalidation.proofs.inputs.Inputs.set_expansion.Goals as goal

pub invariant_of-self : goal.invariant_of-self
invariant_of-self c =
    on_either c.set_expansion.result c.set_expansion.ensures.ok c.set_expansion.ensures.err
    (λ becomes. current_over _ _ c.remove.new.self (ap (workspace_in c.self.inside.crates) (sym becomes))
    (dropped_current c.self.inside.crates c.self.inside.sources (of_expansion (expansion_value c.args.key) (Some (entry_value c.args.entry))) c.self.inside.trees
    c.remove.new.self c.self.invariant
    c.remove.ensures.gone c.remove.ensures.others))
    (λ same. current_over _ _ c.remove.new.self (ap (workspace_in c.self.inside.crates) (sym same))
    (dropped_same _ (expansion (expansion_value c.args.key)) c.self.inside.trees c.remove.new.self c.self.invariant c.remove.ensures.gone
    c.remove.ensures.others))
