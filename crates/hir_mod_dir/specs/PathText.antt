-- How are the texts of paths cut and joined?
use Rattle.std.specs.Prelude.{ℕ, ◌-◌, ◌==◌, nat_eq, not, List, ◌++◌, length, take, drop, map, codes, if◌then◌else◌}
use Rattle.std.specs.List.{starts_with, suffix_len}
use Rattle.hir_mod_dir.specs.Directory.{Directory, is_directory_path}

-- a text up to its last `/`, that one included: of a file's path its directory's
abbrev pub directory_of : List ℕ → List ℕ
directory_of text = take (length text - suffix_len (λ b. not (b == 47)) text) text

-- the path of the directory above
abbrev pub parent_of : List ℕ → List ℕ
parent_of path = directory_of (take (length path - 1) path)

-- a text that ends with `/`, unless it is empty
abbrev pub with_slash : List ℕ → List ℕ
with_slash text = if is_directory_path text then text else text ++ codes "/"

-- a text without its leading `./`
abbrev pub without_dot : List ℕ → List ℕ
without_dot text = if starts_with nat_eq text (codes "./") then drop 2 text else text

-- `/` for `\`
abbrev pub slash_for_backslash : ℕ → ℕ
slash_for_backslash b = if b == 92 then 47 else b

-- the text of a `path` attribute, behind the directory that it is relative to: where a file stands beside its own
-- directory, as `n.rs` beside `n/`, that is the directory in which the file stands
abbrev pub joined : Directory → List ℕ → List ℕ
joined directory text = (if directory.root_non_dir_owner then parent_of directory.path else directory.path)
    ++ map slash_for_backslash (without_dot text)
