-- What do the numbers of files, blocks, expansions and macro calls mean?
use Rattle.std.specs.Prelude.{ℕ, List, Option, Some, None, map, option_map, slice_get}
use Rattle.std.specs.Option.{option_and_then}
use Rattle.hir_ids.specs.declared.ast_id.BlockId.{BlockId}
use Rattle.hir_base.specs.declared.place.BlockPlace.{BlockPlace}
use Rattle.hir_ids.specs.declared.ast_id.EntryId.{EntryId}
use Rattle.hir_base.specs.declared.macro_kind.ExpansionKey.{ExpansionKey}
use Rattle.hir_ids.specs.declared.ast_id.FileId.{FileId}
use Rattle.hir_ids.specs.declared.ast_id.HirFileId.{HirFileId}
use Rattle.hir_ids.specs.declared.ast_id.MacroCallId.{MacroCallId}
use Rattle.hir_base.specs.declared.macro_kind.MacroCallLoc.{MacroCallLoc}
use Rattle.hir_ids.specs.declared.ast_id.HirFileId.TheVariants.{File, Macro}
use Rattle.hir_base.specs.Locations.{KeepsNumbers}
use Rattle.hir_base.specs.declared.tree_id.TreeId.{TreeId}
use Rattle.hir_tables.specs.Interning.{IsOnce}
use Rattle.hir_tables.specs.SourcePlaces.{ExpansionValue, expansion_value, SourcePlaceValue, file, block, expansion}

-- each file, block, expansion and macro call, in the order of their numbers
pub record TablesValue : Type 0 where
  pub files : List (List ℕ)
  pub blocks : List BlockPlace
  pub entries : List ExpansionValue
  pub calls : List MacroCallLoc

-- the tables of these lists
abbrev pub tables_value : List (List ℕ) → List BlockPlace → List ExpansionKey → List MacroCallLoc → TablesValue
tables_value files blocks entries calls = record { files = files; blocks = blocks; entries = map expansion_value entries; calls = calls }

-- what each number means
abbrev pub file_at : TablesValue → FileId → Option (List ℕ)
file_at t id = slice_get t.files id.0

abbrev pub block_at : TablesValue → BlockId → Option BlockPlace
block_at t id = slice_get t.blocks id.0

abbrev pub entry_at : TablesValue → EntryId → Option ExpansionValue
entry_at t id = slice_get t.entries id.0

abbrev pub call_at : TablesValue → MacroCallId → Option MacroCallLoc
call_at t id = slice_get t.calls id.0

-- what the expansion of a call depends on
abbrev pub expansion_of : TablesValue → MacroCallId → Option ExpansionValue
expansion_of t id = option_and_then (λ call. entry_at t call.entry) (call_at t id)

-- where a file, or what a call expands to, stands
abbrev pub file_source : TablesValue → HirFileId → Option SourcePlaceValue
file_source t (File id) = option_map file (file_at t id.file_id)
file_source t (Macro id) = option_map expansion (expansion_of t id)

-- where the block stands, and without one where the file does
abbrev pub source_under : TablesValue → HirFileId → Option BlockId → Option SourcePlaceValue
source_under t id None = file_source t id
source_under t id (Some b) = option_map block (block_at t b)

-- where a tree's source stands
abbrev pub source_of : TablesValue → TreeId → Option SourcePlaceValue
source_of t id = source_under t id.file id.block

-- each number that meant something still means it
pub record KeepsTables (old new : TablesValue) : Type 0 where
  pub files : KeepsNumbers old.files new.files
  pub blocks : KeepsNumbers old.blocks new.blocks
  pub entries : KeepsNumbers old.entries new.entries
  pub calls : KeepsNumbers old.calls new.calls

-- no two numbers mean the same file, block, expansion or macro call
pub record HasEachOnce (t : TablesValue) : Type 0 where
  pub files : IsOnce t.files
  pub blocks : IsOnce t.blocks
  pub entries : IsOnce t.entries
  pub calls : IsOnce t.calls
