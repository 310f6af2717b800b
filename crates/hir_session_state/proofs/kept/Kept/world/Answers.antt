-- The maps in the world are those of which the list tells.
use Rattle.std.proofs.Common.{◌∙◌, ap}
use Rattle.hir_session_state.specs.Kept.{finished_by}
use Rattle.hir_session_state.proofs.KeptLemmas.{told}
use Rattle.hir_session_state.proofs.kept.Kept.world.Goals as goal

pub returns : goal.returns
returns c = record { value = told c.self.inside.world.maps c.self.inside.runs.by_place ∙ ap finished_by c.self.view_is }
