-- Where does a source stand?
use Rattle.std.specs.Prelude.{ℕ, List}
use Rattle.hir_base.specs.declared.place.BlockPlace.{BlockPlace}
use Rattle.hir_base.specs.declared.macro_kind.CallStyle.{CallStyle}
use Rattle.hir_ids.specs.declared.ids.Crate.{Crate}
use Rattle.hir_base.specs.declared.macro_kind.ExpansionKey.{ExpansionKey}
use Rattle.hir_base.specs.declared.macro_kind.MacroText.{MacroText}
use Rattle.hir_tables.specs.declared.source_place.SourcePlace.{SourcePlace}
use Rattle.hir_tables.specs.declared.source_place.SourcePlace.TheVariants.{File, Block, Expansion}

-- what an expansion depends on
pub record ExpansionValue : Type 0 where
  pub caller : Crate
  pub called : MacroText
  pub call : CallStyle
  pub input : List ℕ
  pub reached : List MacroText

-- what a key says
abbrev pub expansion_value : ExpansionKey → ExpansionValue
expansion_value key = record { caller = key.caller; called = key.called; call = key.call; input = key.input; reached = key.reached.items }

-- a file by its path, a block by what holds it, or an expansion
pub data SourcePlaceValue : Type 0 where
  file : List ℕ → SourcePlaceValue
  block : BlockPlace → SourcePlaceValue
  expansion : ExpansionValue → SourcePlaceValue

-- where a source stands, as it is answered
abbrev pub source_value : SourcePlace → SourcePlaceValue
source_value (File path) = file path.now
source_value (Block place) = block place.now
source_value (Expansion key) = expansion (expansion_value key.now)
