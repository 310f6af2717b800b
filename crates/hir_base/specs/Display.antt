-- How do paths print?
use Rattle.std.specs.Prelude.{ℕ, zero, suc, List, [], ◌++◌, replicate, codes, Option}
use Rattle.std.specs.List.{flat_map}
use Rattle.std.specs.Fmt.{decimal}
use Rattle.hir_ids.specs.declared.edition.Edition.{Edition}
use Rattle.hir_base.specs.declared.mod_path.PathKind.{PathKind}
use Rattle.hir_base.specs.declared.mod_path.PathKind.TheVariants.{Plain, Super, Crate, Abs, DollarCrate}
use Rattle.hir_base.specs.ModPath.{Path}
use Rattle.hir_ids.specs.Display.{behind, joined}

-- so many levels up; none is `self`
abbrev pub levels_text : ℕ → List ℕ
levels_text zero = codes "self"
levels_text (suc levels) = codes "super" ++ flat_map (λ part. part) (replicate levels (codes "::super"))

-- how a path begins
abbrev pub kind_text : PathKind → List ℕ
kind_text Plain = []
kind_text Abs = codes "::"
kind_text Crate = codes "crate"
kind_text (Super levels) = levels_text levels
kind_text (DollarCrate krate) = codes "$" ++ decimal krate.0

-- the names of a path of this kind
abbrev pub names_text : Option Edition → PathKind → List (List ℕ) → List ℕ
names_text edition Plain names = joined edition names
names_text edition Abs names = joined edition names
names_text edition Crate names = flat_map (behind edition) names
names_text edition (Super levels) names = flat_map (behind edition) names
names_text edition (DollarCrate krate) names = flat_map (behind edition) names

-- a path as it prints
abbrev pub path_shown : Option Edition → Path → List ℕ
path_shown edition p = kind_text p.kind ++ names_text edition p.kind p.segments
