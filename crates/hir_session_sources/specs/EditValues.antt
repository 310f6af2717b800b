-- What is an edit of a source, as the code has it?
use Rattle.std.specs.Prelude.{option_map}
use Rattle.hir_session_state.specs.HirItemTree.Source.{source_view}
use Rattle.hir_session_state.specs.HirTables.SourcePlaces.{expansion_value}
use Rattle.hir_session_state.specs.HirMessages.Edits.{EntryValue}
use Rattle.hir_session_sources.specs.declared.entry.Entry.{Entry}
use Rattle.hir_session_sources.specs.declared.source_edit.SourceEdit.{SourceEdit}
use Rattle.hir_session_sources.specs.declared.source_edit.SourceEdit.TheVariants.{File, Block, Expansion}
use Rattle.hir_session_state.specs.SourceEdits.{SourceEditValue, of_file, of_block, of_expansion}

-- an expansion, as the code keeps it
abbrev pub entry_value : Entry → EntryValue
entry_value e = record { source = source_view e.source; error = e.error; inner = e.inner }

-- the value of what the code has
abbrev pub edit_value : SourceEdit → SourceEditValue
edit_value (File path new) = of_file path.now (option_map (λ s. source_view s.now) new)
edit_value (Block place new) = of_block place.now (option_map (λ s. source_view s.now) new)
edit_value (Expansion key new) = of_expansion (expansion_value key.now) (option_map (λ e. entry_value e.now) new)
