use Rattle.hir_import_resolution.proofs.Soundness.{steps_keep_sound}
use Rattle.hir_import_resolution.proofs.laws.steps_keep_sound.Goals as goal

pub returns : goal.returns
returns c = record { steps = steps_keep_sound }
