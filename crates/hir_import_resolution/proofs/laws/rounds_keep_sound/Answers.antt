use Rattle.hir_import_resolution.proofs.Soundness.{growth_keeps_sound, local_keeps_sound, pushes_keep_sound, reached_keep_sound}
use Rattle.hir_import_resolution.proofs.laws.rounds_keep_sound.Goals as goal

pub returns : goal.returns
returns c = record { growth = growth_keeps_sound; pushes = pushes_keep_sound; reached = reached_keep_sound; local = local_keeps_sound }
