-- Which path do a root that was read and the parts after it stand for?
use Rattle.std.specs.Prelude.{ℕ, List}
use Rattle.std.specs.Borrow.{Bor}
use Rattle.hir_base.specs.declared.mod_path.PathKind.{PathKind}
use Rattle.hir_base.specs.declared.mod_path.PathKind.TheVariants as kind
use Rattle.hir_base.specs.declared.parse_path.Root.{Root}
use Rattle.hir_base.specs.declared.parse_path.Root.TheVariants.{Plain, Super, Crate, Abs, DollarCrate}
use Rattle.hir_base.specs.ModPath.{Path}
use Rattle.hir_ids.specs.Text.{nows}

-- the kind of a path with this root, however many levels it climbs
abbrev pub kind_of_root : Root → PathKind
kind_of_root Plain = kind.Plain
kind_of_root (Super levels) = kind.Super levels
kind_of_root Crate = kind.Crate
kind_of_root Abs = kind.Abs
kind_of_root (DollarCrate krate) = kind.DollarCrate krate

-- the path that a root and the parts after it spell
abbrev pub path_read : Root × Bor (List (Bor (List ℕ))) → Path
path_read read = record { kind = kind_of_root read.0; segments = nows read.1.now }
