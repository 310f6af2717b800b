-- How does the alias of an import print?
use Rattle.std.specs.Prelude.{ℕ, List, codes, Some}
use Rattle.hir_ids.specs.Display.{shown}
use Rattle.hir_ids.specs.declared.edition.Edition.{Edition}
use Rattle.hir_use_tree.specs.Types.{ImportAlias}
use Rattle.hir_use_tree.specs.Types.import_aliases as aliases
use Rattle.hir_use_tree.specs.declared.alias_display.ImportAliasDisplay.{ImportAliasDisplay}

-- an alias as it is written in an edition
abbrev pub alias_shown : Edition → ImportAlias → List ℕ
alias_shown edition aliases.Underscore = codes "_"
alias_shown edition (aliases.Alias name) = shown (Some edition) name

-- the text of an alias that is to be printed
abbrev pub alias_display_text : ImportAliasDisplay → List ℕ
alias_display_text d = alias_shown d.edition d.alias.now
