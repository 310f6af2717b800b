use Rattle.hir_import_resolution.proofs.GlobsLasting.{globs_at_rest}
use Rattle.hir_import_growth.proofs.GlobsLasting.{globs_pushed, globs_still}
use Rattle.hir_import_resolution.proofs.laws.rounds_keep_globs.Goals as goal

pub returns : goal.returns
returns c = record { resting = globs_at_rest; growth = globs_still; pushes = globs_pushed }
