-- Of what do a run's diagnostics speak?
use Rattle.std.specs.Prelude.{◌≡◌, ◌<◌, ℕ, length, Contains}
use Rattle.hir_collector_rules.specs.HirIds.declared.ast_id.AstId.{AstId}
use Rattle.hir_collector_rules.specs.HirItemTree.KeptForest.{KeptItem}
use Rattle.hir_collector_rules.specs.HirItemTree.Kinds.{item_head, item_kind}
use Rattle.hir_collector_rules.specs.HirTables.Tables.{TablesValue}
use Rattle.hir_collector_rules.specs.HirDefMapRules.Diagnostics.{DiagnosticValue, diagnostic_view, node_of}
use Rattle.hir_collector_rules.specs.HirDefMapRules.Overlay.{Maps}
use Rattle.hir_collector_rules.specs.HirDefMapRules.State.{numbered}
use Rattle.hir_collector_rules.specs.HirMapParts.declared.diagnostics.DefDiagnostic.{DefDiagnostic}
use Rattle.hir_collector_rules.specs.Derivation.{CollectedValue, Ends}
use Rattle.hir_collector_rules.specs.Start.{Beginning}
use Rattle.hir_collector_rules.specs.Workspace.{Workspace}
use Rattle.hir_def_collector_laws.specs.Written.{IsWritten, key_of}

-- a node is that of an item, which is written in the node's tree
pub record IsOfItem (tables : TablesValue) (w : Workspace) (answer : CollectedValue) (node : AstId) : Type 0 where
  pub item : KeptItem
  pub written : IsWritten tables w answer.asked (key_of answer (record { file = node.file_id; block = node.block })) item
  pub kind : item_kind item ≡ node.kind
  pub id : (item_head item).id ≡ node.id

-- a diagnostic names a module of the run's map, and an item that is written in a tree which the run asked for
pub record IsToldOfItem (tables : TablesValue) (w : Workspace) (answer : CollectedValue) (d : DiagnosticValue) : Type 0 where
  pub number : ℕ
  pub there : number < length answer.map.modules
  pub module_is : d.in_module ≡ numbered answer.map.id number
  pub of_item : IsOfItem tables w answer (node_of d.kind)

-- so does each diagnostic of a run's map
abbrev pub DiagnosticsAreOfItems : Type 0
DiagnosticsAreOfItems =
    (tables : TablesValue) (w : Workspace) (finished : Maps) (from : Beginning) (answer : CollectedValue) → Ends tables w finished from answer
    → (d : DefDiagnostic) → Contains answer.map.diagnostics d → IsToldOfItem tables w answer (diagnostic_view d)
