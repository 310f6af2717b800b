-- When does a run meet a source that has no number?
use Rattle.std.specs.Prelude.{◌≡◌, ◌<◌, ℕ, IsSome, Some}
use Rattle.hir_nameres.specs.HirBase.ModPath.{Path}
use Rattle.hir_nameres.specs.HirIds.declared.macro_kind.MacroId.{MacroId}
use Rattle.hir_tables.specs.Tables.{TablesValue, source_of}
use Rattle.hir_nameres.specs.HirDefMapRules.Overlay.{Maps}
use Rattle.hir_collector_rules.specs.declared.macro_directive.MacroDirective.{MacroDirective}
use Rattle.hir_collector_rules.specs.Workspace.{Workspace}
use Rattle.hir_collector_rules.specs.Calls.{inner_macro}
use Rattle.hir_collector_rules.specs.Keys.{Environment, IsMeant, environment}
use Rattle.hir_collector_rules.specs.ModuleFiles.{IsFileMeant, file_of_tree}
use Rattle.hir_collector_rules.specs.State.{State}
use Rattle.hir_collector_rules.specs.Start.{Beginning, begin_of, read_by}
use Rattle.hir_collector_rules.specs.Steps.{CallsMacro, Steps}

-- the source that writes a macro has no number, or that of one which a path reaches in a module
pub data IsUnknown (tables : TablesValue) (finished : Maps) (s : State) (home : ℕ) (makro : MacroId) : Type 0 where
  of_itself : ¬ IsMeant tables makro → IsUnknown tables finished s home makro
  of_inner : (path : Path) (inner : MacroId) → inner_macro finished s.core.local s.core.map home path ≡ Some inner → ¬ IsMeant tables inner
      → IsUnknown tables finished s home makro

-- a call, a path of a derive or an attribute reaches a macro that has an expansion, isn't too deep, and the source that writes the macro, or one of those
-- that it asks for first, has no number
pub record ReachesUnknownSource (tables : TablesValue) (finished : Maps) (s : State) : Type 0 where
  pub place : ℕ
  pub call : MacroDirective
  pub makro : MacroId
  pub called : CallsMacro finished s place call makro
  pub shallow : call.site.level < s.core.map.crate_data.recursion_limit
  pub unknown : IsUnknown tables finished s call.site.home makro

-- steps lead on from here to where that is so
pub record LeadsToUnknownSource (env : Environment) (finished : Maps) (from : State) : Type 0 where
  pub at : State
  pub steps : Steps env finished from at
  pub reaches : ReachesUnknownSource env.tables finished at

-- the tree with which a run begins has a number, and the file in which it is written has none; or steps lead from the start to such a macro
pub data MeetsUnknownSource (tables : TablesValue) (w : Workspace) (finished : Maps) (from : Beginning) : Type 0 where
  of_file : IsSome (source_of tables from.tree) → ¬ IsFileMeant tables (file_of_tree from.tree) → MeetsUnknownSource tables w finished from
  of_macro : LeadsToUnknownSource (environment tables w) (read_by w finished from.start) (begin_of tables w finished from)
      → MeetsUnknownSource tables w finished from
