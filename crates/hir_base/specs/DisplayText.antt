-- Which text does a path print that is to be printed?
use Rattle.std.specs.Prelude.{ℕ, List}
use Rattle.hir_base.specs.declared.display.ModPathDisplay.{ModPathDisplay}
use Rattle.hir_base.specs.Display.{path_shown}

-- the text of a path that is to be printed
abbrev pub path_display_text : ModPathDisplay → List ℕ
path_display_text d = path_shown d.edition d.path.now
