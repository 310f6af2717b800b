-- What is kept of sources stays but under the crate; under it that is kept which they have under the crate as it is handed in.
use Rattle.hir_session_state.specs.HirCollectorRules.Workspace.{config_view}
use Rattle.hir_session_invalidation.proofs.Current.{handed_current}
use Rattle.hir_session_invalidation.proofs.inputs.Inputs.set_crate.Goals as goal

pub invariant_of-self : goal.invariant_of-self
invariant_of-self c =
    handed_current c.hand_in.result c.self.inside.crates c.hand_in.new.crates c.args.krate (config_view c.args.config) c.self.inside.sources
    c.self.inside.trees c.hand_in.new.trees c.self.invariant c.hand_in.ensures.ok c.hand_in.ensures.lowered c.hand_in.ensures.err c.hand_in.ensures.kept
