-- What has a session of each file?
use Rattle.std.specs.Prelude.{ℕ, not, List, filter, Option, Some, None}
use Rattle.std.specs.Ordering.{nat_cmp}
use Rattle.std.specs.Cmp.Lexicographic.{slice_cmp}
use Rattle.std.specs.BTreeMap.{is_at, insert_entry}
use Rattle.std.specs.Map.{lookup}
use Rattle.hir_collector_rules.specs.HirItemTree.Source.{SourceValue}

-- the sources of the files that are there, as they were handed in, in the order of their paths
abbrev pub Files : Type 0
Files = List (List ℕ × SourceValue)

-- the source of the file at a path, if it is there
abbrev pub file_at : Files → List ℕ → Option SourceValue
file_at files path = lookup (is_at (slice_cmp nat_cmp path)) files

-- the files with this one set
abbrev pub with_file : Files → List ℕ → SourceValue → Files
with_file files path source = insert_entry (slice_cmp nat_cmp) files path source

-- the files without the one at this path
abbrev pub without_file : Files → List ℕ → Files
without_file files path = filter (λ f. not (is_at (slice_cmp nat_cmp path) f.0)) files

-- the files where the one at this path has this source, or isn't there
abbrev pub edited_at : Files → List ℕ → Option SourceValue → Files
edited_at files path (Some source) = with_file files path source
edited_at files path None = without_file files path
