-- What does an edit make of the sources?
use Rattle.std.specs.Prelude.{◌≡◌, ℕ, ⊤, List, Option, Some, None}
use Rattle.hir_collector_rules.specs.HirItemTree.Source.{SourceValue}
use Rattle.hir_collector_rules.specs.HirTables.SourcePlaces.{ExpansionValue, SourcePlaceValue, file, block, expansion}
use Rattle.hir_messages.specs.Edits.{CrateDataValue, EditValue, EntryValue, set_file, remove_file, set_block, remove_block, set_expansion, remove_expansion}
use Rattle.hir_messages.specs.Edits.{set_crate}
use Rattle.hir_collector_rules.specs.HirIds.declared.ids.Crate.{Crate}
use Rattle.hir_collector_rules.specs.HirBase.declared.place.BlockPlace.{BlockPlace}
use Rattle.hir_session_state.specs.Blocks.{blocks_with, place_of_block}
use Rattle.hir_session_state.specs.Files.{edited_at}
use Rattle.hir_session_state.specs.Entries.{entries_with, entry_at, look_of, source_of}
use Rattle.hir_session_state.specs.SourceTable.{SourceTable}

-- a file, a block or an expansion, and what it gets; nothing where it is removed
pub data SourceEditValue : Type 0 where
  of_file : List ℕ → Option SourceValue → SourceEditValue
  of_block : BlockPlace → Option SourceValue → SourceEditValue
  of_expansion : ExpansionValue → Option EntryValue → SourceEditValue

-- a source, or a crate and what it is handed in with
pub data InputEdit : Type 0 where
  source_edit : SourceEditValue → InputEdit
  crate_edit : Crate → CrateDataValue → InputEdit

-- what an edit is, as it is handed in
abbrev pub edit_of : EditValue → InputEdit
edit_of (set_file path source) = source_edit (of_file path (Some source))
edit_of (remove_file path) = source_edit (of_file path None)
edit_of (set_block place source) = source_edit (of_block place (Some source))
edit_of (remove_block place) = source_edit (of_block place None)
edit_of (set_expansion key entry) = source_edit (of_expansion key (Some entry))
edit_of (remove_expansion key) = source_edit (of_expansion key None)
edit_of (set_crate krate given) = crate_edit krate given

-- the place of what it edits
abbrev pub place_of : SourceEditValue → SourcePlaceValue
place_of (of_file path new) = file path
place_of (of_block place new) = block place
place_of (of_expansion key new) = expansion key

-- the source that stands there then
abbrev pub source_by : SourceEditValue → Option SourceValue
source_by (of_file path new) = new
source_by (of_block place new) = new
source_by (of_expansion key new) = source_of new

-- the sources once the edit is made
abbrev pub edited : SourceTable → SourceEditValue → SourceTable
edited t (of_file path new) = record t { files = edited_at t.files path new }
edited t (of_block place new) = record t { blocks = blocks_with t.blocks (place_of_block place) new }
edited t (of_expansion key new) = record t { entries = entries_with t.entries key new }

-- what is seen of an expansion beside its items stays
abbrev pub IsSeenAlike : SourceTable → SourceEditValue → Type 0
IsSeenAlike t (of_file path new) = ⊤
IsSeenAlike t (of_block place new) = ⊤
IsSeenAlike t (of_expansion key new) = look_of (entry_at t.entries key) ≡ look_of new
