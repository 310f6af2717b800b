-- Which text does a name print that is to be printed?
use Rattle.std.specs.Prelude.{ℕ, List}
use Rattle.hir_ids.specs.declared.display.NameDisplay.{NameDisplay}
use Rattle.hir_ids.specs.Display.{shown}

-- the text of a name that is to be printed
abbrev pub name_display_text : NameDisplay → List ℕ
name_display_text d = shown d.edition d.name.now
