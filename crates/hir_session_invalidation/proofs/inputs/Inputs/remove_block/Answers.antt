-- What is kept of the other sources stays; of this one nothing is.
use Rattle.std.proofs.Common.{ap, sym, None}
use Rattle.hir_session_state.specs.HirTables.SourcePlaces.{block}
use Rattle.hir_session_state.specs.SourceEdits.{of_block}
use Rattle.hir_session_state.specs.SourceTable.{workspace_in}
use Rattle.hir_session_invalidation.proofs.Current.{current_over, dropped_current, dropped_same}
use Rattle.hir_session_state.proofs.Truth.{on_either}
use Rattle.hir_session_invalidation.proofs.inputs.Inputs.remove_block.Goals as goal

pub invariant_of-self : goal.invariant_of-self
invariant_of-self c =
    on_either c.remove_block-2.result c.remove_block-2.ensures.ok c.remove_block-2.ensures.err
    (λ becomes. current_over _ _ c.remove_block.new.self (ap (workspace_in c.self.inside.crates) (sym becomes))
    (dropped_current c.self.inside.crates c.self.inside.sources (of_block c.args.place.now None) c.self.inside.trees c.remove_block.new.self c.self.invariant
    c.remove_block.ensures.gone c.remove_block.ensures.others))
    (λ same. current_over _ _ c.remove_block.new.self (ap (workspace_in c.self.inside.crates) (sym same))
    (dropped_same _ (block c.args.place.now) c.self.inside.trees c.remove_block.new.self c.self.invariant c.remove_block.ensures.gone
    c.remove_block.ensures.others))
