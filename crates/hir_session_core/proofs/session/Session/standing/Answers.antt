-- It is gone down over what is kept.
use Rattle.std.proofs.Common.{◌∙◌, ap}
use Rattle.hir_session_state.specs.SessionState.{SessionState, standing_of}
use Rattle.hir_session_state.specs.SourceTable.{SourceTable}
use Rattle.hir_session_state.specs.Standing.{standing_in}
use Rattle.hir_session_core.proofs.session.Session.standing.Goals as goal

pub returns : goal.returns
returns c =
    let blocks = c.blocks-blocks.ensures.value ∙ ap (λ (t : SourceTable). t.blocks) c.sources.ensures.value in
    record {
      value = c.standing_at.ensures.value
          ∙ (λ i. standing_in c.self.inside.tables (blocks i) c.self.inside.kept
          (record { krate = c.krate.ensures.value i; elements = c.elements.ensures.value i }))
          ∙ ap (λ (s : SessionState). standing_of s c.args.place.now) c.self.view_is;
    }
