use Rattle.std.proofs.Common.{length}
use Rattle.hir_mod_resolution.proofs.mod_resolution.+find_file.Given as goal

abbrev pub decreases-find_file : goal.decreases-find_file
decreases-find_file g l = length l.candidates.now
