-- Which names stand before a path?
use Rattle.std.specs.Prelude.{◌≡◌, ℕ, ◌-◌, ◌<◌, List, [], Option, Some, None, length, slice_get}
use Rattle.std.specs.declared.rc.Rc.{Rc}
use Rattle.std.specs.declared.alloc.Global.{Global}
use Rattle.hir_base.specs.ModPath.{Path}
use Rattle.hir_base.specs.declared.mod_path.PathKind.{PathKind}
use Rattle.hir_use_tree.specs.declared.shared_path.Prefix.{Prefix}

-- the names of what stands before, if something does
abbrev pub names_before : Option (Rc Prefix Global) → List (List ℕ)
names_before None = []
names_before (Some prefix) = prefix.value.segments

-- behind another part stands at least one name
abbrev pub GoesOn : Option (Rc Prefix Global) → List (List ℕ) → Type 0
GoesOn None names = Unit {0}
GoesOn (Some prefix) names = 0 < length names

-- a path begins as what stands before it
abbrev pub BeginsAs : Option (Rc Prefix Global) → PathKind → Type 0
BeginsAs None kind = Unit {0}
BeginsAs (Some prefix) kind = prefix.value.kind ≡ kind

-- the whole path of what stands before, if something does
abbrev pub path_before : Option (Rc Prefix Global) → Option Path
path_before None = None
path_before (Some prefix) = Some prefix.value

-- the last of names, if there is one
abbrev pub last_name : List (List ℕ) → Option (List ℕ)
last_name names = slice_get names (length names - 1)
