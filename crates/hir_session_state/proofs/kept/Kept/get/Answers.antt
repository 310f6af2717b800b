-- What is kept of a place stands under its id.
use Rattle.std.proofs.Common.{◌∙◌, ap}
use Rattle.hir_session_state.specs.Kept.{Resolutions, kept_in}
use Rattle.hir_session_state.proofs.KeptLemmas.{kept_found}
use Rattle.hir_session_state.proofs.kept.Kept.get.Goals as goal

pub returns : goal.returns
returns c = record {
  value = c.joined.ensures.value
      ∙ kept_found c.self.inside.world.maps c.self.inside.runs.by_place c.args.id _ _ c.finished_at.ensures.value c.get.ensures.value
      ∙ ap (λ (kept : Resolutions). kept_in kept c.args.id) c.self.view_is;
}
