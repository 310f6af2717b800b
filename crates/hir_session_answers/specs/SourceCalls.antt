-- What holds syntax, through the calls whose expansions lead to it?
use Rattle.std.specs.Prelude.{ℕ, zero, suc, List, [], ◌∷◌, ◌++◌, reverse, Option, None, Some, option_map}
use Rattle.std.specs.Option.{option_and_then}
use Rattle.hir_session_state.specs.HirIds.declared.ast_id.BlockId.{BlockId}
use Rattle.hir_session_state.specs.HirBase.declared.place.BlockPlace.{BlockPlace}
use Rattle.hir_session_state.specs.HirIds.declared.ast_id.HirFileId.{HirFileId}
use Rattle.hir_session_state.specs.HirBase.declared.macro_kind.MacroCallKind.{MacroCallKind}
use Rattle.hir_session_state.specs.HirBase.declared.macro_kind.MacroCallLoc.{MacroCallLoc}
use Rattle.hir_session_state.specs.HirIds.declared.ast_id.HirFileId.TheVariants.{File, Macro}
use Rattle.hir_session_state.specs.HirBase.declared.macro_kind.MacroCallKind.TheVariants as calls
use Rattle.hir_session_state.specs.HirTables.Tables.{TablesValue, block_at, call_at, file_at}
use Rattle.hir_session_state.specs.Blocks.{place_of_block}
use Rattle.hir_session_state.specs.Standing.{most_calls}
use Rattle.hir_session_state.specs.HirDefMapRules.Diagnostics.{call_node}
use Rattle.hir_session_state.specs.HirMessages.declared.answer.ItemSource.{ItemSource}
use Rattle.hir_session_state.specs.HirMessages.declared.answer.SourceCall.{SourceCall}
use Rattle.hir_session_state.specs.HirMessages.declared.answer.SourceCallKind.{SourceCallKind}
use Rattle.hir_session_state.specs.HirMessages.declared.answer.SourceRoot.{SourceRoot}
use Rattle.hir_session_state.specs.HirMessages.declared.answer.SourceCallKind.TheVariants as kind
use Rattle.hir_session_state.specs.HirMessages.declared.answer.SourceRoot.TheVariants as root

-- how a macro is called
abbrev pub call_kind : MacroCallKind → SourceCallKind
call_kind (calls.FnLike ast) = kind.FnLike
call_kind (calls.Derive ast attr index) = kind.Derive attr.0 index
call_kind (calls.Attr ast attr) = kind.Attr attr.0

-- a call, by its node in what holds it
abbrev pub source_call : MacroCallKind → SourceCall
source_call call = record { node = (call_node call).kind; id = (call_node call).id; kind = call_kind call }

-- the file at a path
abbrev pub file_source : List ℕ → ItemSource
file_source path = record { root = root.File path; calls = [] }

-- the block at a place
abbrev pub block_source : BlockPlace → ItemSource
block_source b = record { root = root.Block (place_of_block b); calls = [] }

-- the expansion of a call in it
abbrev pub and_call : SourceCall → ItemSource → ItemSource
and_call call held = record held { calls = held.calls ++ call ∷ [] }

-- what holds syntax: a file or a block of the tables, or what a call expands to, where at most so many stand in one another
abbrev pub source_within : ℕ → TablesValue → HirFileId → Option BlockId → Option ItemSource
source_within n t file (Some b) = option_map block_source (block_at t b)
source_within n t (File f) None = option_map file_source (file_at t f.file_id)
source_within zero t (Macro c) None = None
source_within (suc n) t (Macro c) None =
    option_and_then (λ (call : MacroCallLoc). option_map (and_call (source_call call.kind))
    (source_within n t (call_node call.kind).file_id (call_node call.kind).block)) (call_at t c)

-- what holds syntax
abbrev pub source_of : TablesValue → HirFileId → Option BlockId → Option ItemSource
source_of t id block = source_within (most_calls id) t id block

-- ---- how the code finds it; no public clause speaks of this

-- what holds syntax outside of all calls
abbrev pub root_in : TablesValue → HirFileId → Option BlockId → Option SourceRoot
root_in t file (Some b) = option_map (λ place. root.Block (place_of_block place)) (block_at t b)
root_in t (File f) None = option_map root.File (file_at t f.file_id)
root_in t (Macro c) None = None

abbrev pub rooted : Option SourceRoot → Option ItemSource
rooted r = option_map (λ x. record { root = x; calls = [] }) r

-- what stands in expansions of these calls, the innermost first
abbrev pub and_calls : List SourceCall → ItemSource → ItemSource
and_calls calls held = record held { calls = held.calls ++ reverse calls }
