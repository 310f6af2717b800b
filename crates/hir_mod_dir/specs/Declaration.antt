-- Which file is that of an outline module, and which files are asked for?
use Rattle.std.specs.Prelude.{Bool, false, ℕ, List, [], ◌∷◌, Option, Some, None, if◌then◌else◌}
use Rattle.std.specs.List.{position}
use Rattle.std.specs.Option.{option_map_or}
use Rattle.hir_mod_dir.specs.ModuleFiles.{file_beside}
use Rattle.hir_mod_dir.specs.declared.candidate.Candidate.{Candidate}

-- whether a candidate's file is there, as seen from the file that declares the module
abbrev pub is_there : (List ℕ → Bool) → List ℕ → Candidate → Bool
is_there present file candidate = option_map_or present (file_beside file candidate.text) false

-- the place of the candidate that is the module's: the first whose file is there
abbrev pub found_place : (List ℕ → Bool) → List ℕ → List Candidate → Option ℕ
found_place present file candidates = position (is_there present file) candidates

-- the files that are asked for, in order: each candidate's up to the first that is there
abbrev pub asked_up_to : (List ℕ → Bool) → Option (List ℕ) → List (List ℕ) → List (List ℕ)
asked_up_to present None later = later
asked_up_to present (Some path) later = if present path then path ∷ [] else path ∷ later

abbrev pub asked_files : (List ℕ → Bool) → List ℕ → List Candidate → List (List ℕ)
asked_files present file [] = []
asked_files present file (candidate ∷ candidates) =
    asked_up_to present (file_beside file candidate.text) (asked_files present file candidates)
