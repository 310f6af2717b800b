-- How are sources stored?
use Rattle.std.specs.Coded.{Coded, codes}
use Rattle.hir_collector_rules.specs.HirItemTree.ValueCodes.{coded_path}
use Rattle.hir_messages.specs.Edits.{EntryValue}
use Rattle.hir_session_state.specs.SourceCodes.{coded_source}
use Rattle.hir_session_state.specs.Entries.{Entries}
use Rattle.hir_session_state.specs.SourceTable.{SourceTable}

-- an expansion is stored as its source, its error and its inner paths
pub coded_entry : Coded EntryValue
coded_entry = hlevel (codes, coded_source, coded_path)

-- expansions are stored as the list of what they depend on, and of themselves
pub coded_entries : Coded Entries
coded_entries = hlevel (codes, coded_source, coded_path)

-- sources are stored as files, blocks and expansions
pub coded_table : Coded SourceTable
coded_table = hlevel (codes, coded_source, coded_path)
