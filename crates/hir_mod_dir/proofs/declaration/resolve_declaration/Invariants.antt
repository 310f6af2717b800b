use Rattle.std.proofs.Common.{◌≡◌, ◌≤◌, ◌<◌, ◌-◌, ◌++◌, ℕ, false, length, drop, get_or}
use Rattle.hir_mod_dir.specs.Declaration.{asked_files, is_there}
use Rattle.hir_mod_dir.specs.Types.{Candidate}
use Rattle.hir_mod_dir.proofs.declaration.resolve_declaration.Given as goal

-- the candidates before this place aren't there, and their files were asked for
abbrev pub invariant-candidates : goal.invariant-candidates
invariant-candidates g l = record {
  low : l.place ≤ length l.candidates;
  before : (k : ℕ) (d : Candidate) → k < l.place → is_there (g.F.PresentFiles.present l.files) l.file (get_or l.candidates k d) ≡ false;
  so_far : l.asked.items ++ asked_files (g.F.PresentFiles.present l.files) l.file (drop l.place l.candidates)
      ≡ asked_files (g.F.PresentFiles.present l.files) l.file l.candidates;
}

abbrev pub decreases-candidates : goal.decreases-candidates
decreases-candidates g l = length l.candidates - l.place
