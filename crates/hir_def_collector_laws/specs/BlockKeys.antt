-- Does a crate's run ask for something of a block?
use Rattle.std.specs.Prelude.{◌≡◌, false, is_some, Option, None, Some, Contains}
use Rattle.hir_collector_rules.specs.HirIds.declared.ast_id.BlockId.{BlockId}
use Rattle.hir_collector_rules.specs.HirIds.declared.macro_kind.MacroId.{MacroId}
use Rattle.hir_collector_rules.specs.HirIds.declared.macro_kind.MacroId.TheVariants as macros
use Rattle.hir_collector_rules.specs.HirDefMapRules.Overlay.{Maps}
use Rattle.hir_collector_rules.specs.HirDefMapRules.Sources.{HoldsNowhere, HoldsNowhereIn, SourceTest}
use Rattle.hir_collector_rules.specs.HirDefMapRules.WellFormed.{AreWellFormed}
use Rattle.hir_collector_rules.specs.HirTables.Tables.{TablesValue}
use Rattle.hir_collector_rules.specs.Derivation.{CollectedValue, Ends}
use Rattle.hir_collector_rules.specs.Start.{Beginning, block_of, read_by}
use Rattle.hir_collector_rules.specs.Workspace.{Workspace}
use Rattle.hir_collector_rules.specs.declared.source_database.Key.{Key}
use Rattle.hir_collector_rules.specs.declared.source_database.Key.TheVariants as keys
use Rattle.hir_def_collector_laws.specs.Whole.{StandsOnWhole}

-- the block in which a macro is written, if it is in one
abbrev pub block_of_macro : MacroId → Option BlockId
block_of_macro (macros.Macro2Id id) = id.loc.block
block_of_macro (macros.MacroRulesId id) = id.loc.block
block_of_macro (macros.ProcMacroId id) = id.loc.block

-- the block of which a key asks for something, if it asks for something of one
abbrev pub block_of_key : Key → Option BlockId
block_of_key (keys.Tree key) = key.id.block
block_of_key (keys.Variants id) = id.loc.block
block_of_key (keys.Text id) = block_of_macro id
block_of_key (keys.Input krate ast) = ast.block
block_of_key (keys.Expansion id) = None
block_of_key (keys.Map id) = None
block_of_key (keys.Config krate) = None

-- the test of what is written in a block
abbrev pub in_blocks : SourceTest
in_blocks = record { holder = λ file b. is_some b; shown = λ m. false }

-- a crate's run asks for nothing of a block, and its map binds nothing that is written in one, where the finished maps that it reads bind no such thing
abbrev pub CratesAskForNoBlock : Type 0
CratesAskForNoBlock = (tables : TablesValue) (w : Workspace) (finished : Maps) (from : Beginning) (answer : CollectedValue)
    → AreWellFormed (read_by w finished from.start) → StandsOnWhole w (read_by w finished from.start) from.start → Ends tables w finished from answer
    → block_of from.start ≡ None → from.tree.block ≡ None → HoldsNowhere in_blocks (read_by w finished from.start)
    → ((key : Key) → Contains answer.asked key → block_of_key key ≡ None) × HoldsNowhereIn in_blocks answer.map
