-- Where are the files of a module's submodules?
use Rattle.std.specs.Prelude.{◌≡◌, ◌<◌, ◌≤◌, ℕ, ◌-◌, ◌==◌, ◌||◌, Bool, true, List, length, slice_index}

-- the directory of a module's submodules: its path from the directory of the file in which they are declared; whether
-- that file stands beside its own directory, as `n.rs` beside `n/`, and the path is that directory's; and the number of
-- modules around it
pub record Directory : Type 0 where
  pub path : List ℕ
  pub root_non_dir_owner : Bool
  pub depth : ℕ

-- whether a text is empty or ends with `/`
abbrev pub is_directory_path : List ℕ → Bool
is_directory_path text = length text == 0 || slice_index text (length text - 1) == 47

-- the deepest directory
abbrev pub max_depth : ℕ
max_depth = 32

-- what holds of each directory
pub record IsDirectory (directory : Directory) : Type 0 where
  pub slash : is_directory_path directory.path ≡ true
  pub owned : directory.root_non_dir_owner ≡ true → 0 < length directory.path
  pub deep : directory.depth ≤ max_depth
