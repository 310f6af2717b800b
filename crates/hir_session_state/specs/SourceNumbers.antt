-- Which numbers have sources in the tables? No public clause speaks of this.
use Rattle.std.specs.Prelude.{◌≡◌, Bool, false, Option, Some, None, option_map}
use Rattle.std.specs.Option.{option_and_then}
use Rattle.hir_collector_rules.specs.HirIds.declared.ast_id.BlockId.{BlockId}
use Rattle.hir_collector_rules.specs.HirIds.declared.ast_id.HirFileId.{HirFileId}
use Rattle.hir_collector_rules.specs.HirIds.declared.ast_id.HirFileId.TheVariants as syntax
use Rattle.hir_collector_rules.specs.HirBase.declared.tree_id.TreeKey.{TreeKey}
use Rattle.hir_collector_rules.specs.HirTables.SourcePlaces.{SourcePlaceValue, file, block, expansion}
use Rattle.hir_collector_rules.specs.HirTables.Tables.{TablesValue, HasEachOnce, block_at, call_at, entry_at, file_at}
use Rattle.hir_collector_rules.specs.Keys.{enum_key, node_key}
use Rattle.hir_collector_rules.specs.declared.source_database.Key.{Key}
use Rattle.hir_collector_rules.specs.declared.source_database.Key.TheVariants as keys
use Rattle.hir_session_state.specs.KeySources.{macro_source}
use Rattle.hir_session_state.specs.contracts.source_number.SourceNumberPartialEq.TheImpl as number_eq
use Rattle.hir_session_state.specs.declared.source_number.SourceNumber.{SourceNumber}
use Rattle.hir_session_state.specs.declared.source_number.SourceNumber.TheVariants.{File, Block, Expansion}

-- where the source of a number stands
abbrev pub place_at : TablesValue → SourceNumber → Option SourcePlaceValue
place_at t (File id) = option_map file (file_at t id)
place_at t (Block id) = option_map block (block_at t id)
place_at t (Expansion id) = option_map expansion (entry_at t id)

-- the number is that of the source at the place, and of no other
pub record IsNumberOf (tables : TablesValue) (place : SourcePlaceValue) (number : SourceNumber) : Type 0 where
  pub means : place_at tables number ≡ Some place
  pub once : HasEachOnce tables

-- the number of what holds syntax; calls that expand alike have one
abbrev pub number_under : TablesValue → HirFileId → Option BlockId → Option SourceNumber
number_under t id (Some b) = Some (Block b)
number_under t (syntax.File id) None = Some (File id.file_id)
number_under t (syntax.Macro id) None = option_map (λ call. Expansion call.entry) (call_at t id)

-- the number of a tree's source
abbrev pub number_of : TablesValue → Option TreeKey → Option SourceNumber
number_of t tree = option_and_then (λ (key : TreeKey). number_under t key.id.file key.id.block) tree

-- the number of the source for which a key asks, if it asks for one
abbrev pub asked_number : TablesValue → Key → Option SourceNumber
asked_number t (keys.Tree key) = number_of t (Some key)
asked_number t (keys.Variants id) = number_of t (Some (enum_key id))
asked_number t (keys.Text id) = number_of t (macro_source id)
asked_number t (keys.Input krate ast) = number_of t (Some (node_key krate ast))
asked_number t (keys.Expansion id) = Some (Expansion id)
asked_number t (keys.Map id) = None
asked_number t (keys.Config krate) = None

-- whether the number is this one
abbrev pub is_number : SourceNumber → Option SourceNumber → Bool
is_number number None = false
is_number number (Some other) = number_eq.ghosts.eq other number

-- whether a key asks for the source with the number
abbrev pub asks : TablesValue → SourceNumber → Key → Bool
asks tables number key = is_number number (asked_number tables key)
