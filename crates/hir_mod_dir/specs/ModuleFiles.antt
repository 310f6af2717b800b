-- In which files may an outline module be? The Rust reference's "Module source filenames" and "The path attribute".
use Rattle.std.specs.Prelude.{ℕ, ◌+◌, nat_lt, nat_eq, Bool, true, false, ◌||◌, List, [], ◌∷◌, ◌++◌, codes, Option, Some, None, if◌then◌else◌}
use Rattle.std.specs.List.{ends_with}
use Rattle.std.specs.Result.{result_ok}
use Rattle.hir_base.specs.ParseFile.{folded_path}
use Rattle.hir_mod_dir.specs.Directory.{Directory, max_depth}
use Rattle.hir_mod_dir.specs.PathText.{directory_of, joined, with_slash}
use Rattle.hir_mod_dir.specs.declared.candidate.Candidate.{Candidate}

-- the directory of a crate's root file
abbrev pub root : Directory
root = record { path = []; root_non_dir_owner = false; depth = 0 }

-- the directory of a module in this one, where it isn't too deep
abbrev pub child : Directory → List ℕ → Bool → Option Directory
child directory path root_non_dir_owner =
    if nat_lt directory.depth max_depth
    then Some (record { path = path; root_non_dir_owner = root_non_dir_owner; depth = directory.depth + 1 })
    else None

-- the path of `mod name { .. }`: its name as a directory, or what its `path` attribute says
abbrev pub inline_path : Directory → List ℕ → Option (List ℕ) → List ℕ
inline_path directory name None = directory.path ++ name ++ codes "/"
inline_path directory name (Some text) = with_slash (joined directory text)

-- the directory of `mod name { .. }`
abbrev pub inline_directory : Directory → List ℕ → Option (List ℕ) → Option Directory
inline_directory directory name path_attr = child directory (inline_path directory name path_attr) false

-- whether the text of a file is that of a `mod.rs`, in a directory that the text names
abbrev pub is_mod_rs : List ℕ → Bool
is_mod_rs text = ends_with nat_eq text (codes "/mod.rs")

-- the directory of `mod name;` in its file, which stands in that directory, or beside it
abbrev pub file_directory : Directory → List ℕ → Bool → Option Directory
file_directory directory name is_dir_owner =
    if is_dir_owner then child directory [] false else child directory (name ++ codes "/") true

-- a file that may be that of `mod name;`: a `mod.rs`, or what a `path` attribute names, stands in its directory
abbrev pub candidate : Directory → List ℕ → Bool → List ℕ → Candidate
candidate directory name has_path_attr text = record {
  text = text;
  is_mod_rs = is_mod_rs text;
  dir = file_directory directory name (is_mod_rs text || has_path_attr);
}

-- the files that may be that of `mod name;`, in the order in which they are tried
abbrev pub candidates_of : Directory → List ℕ → Option (List ℕ) → List Candidate
candidates_of directory name None =
    candidate directory name false (directory.path ++ name ++ codes ".rs")
    ∷ candidate directory name false (directory.path ++ name ++ codes "/mod.rs")
    ∷ []
candidates_of directory name (Some text) = candidate directory name true (joined directory text) ∷ []

-- the file that a text names in the directory of another file: none where it climbs past the root or has too many segments
abbrev pub file_beside : List ℕ → List ℕ → Option (List ℕ)
file_beside file text = result_ok (folded_path (directory_of file ++ text))
