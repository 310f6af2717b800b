-- What stays of a run's answer as tables grow?
use Rattle.std.specs.Prelude.{◌≡◌, Contains}
use Rattle.hir_tables.specs.Tables.{TablesValue, KeepsTables}
use Rattle.hir_nameres.specs.HirDefMapRules.Overlay.{Maps}
use Rattle.hir_collector_rules.specs.declared.source_database.Key.{Key}
use Rattle.hir_collector_rules.specs.Workspace.{Workspace}
use Rattle.hir_collector_rules.specs.Calls.{IsMeantAt}
use Rattle.hir_collector_rules.specs.Keys.{HasMeaning, look}
use Rattle.hir_collector_rules.specs.Start.{Beginning, root_site}
use Rattle.hir_collector_rules.specs.Derivation.{CollectedValue, Ends}

-- what is seen at a key whose numbers mean something
abbrev pub LooksStand : Type 0
LooksStand = (tables grown : TablesValue) (w : Workspace) (finished : Maps) (key : Key) → KeepsTables tables grown → HasMeaning tables key
    → look grown w finished key ≡ look tables w finished key

-- the numbers in the keys of a run mean something, where those of its tree do
abbrev pub AskedKeysHaveMeaning : Type 0
AskedKeysHaveMeaning = (tables : TablesValue) (w : Workspace) (finished : Maps) (from : Beginning) (answer : CollectedValue)
    → IsMeantAt tables (root_site from.tree) → Ends tables w finished from answer → (key : Key) → Contains answer.asked key → HasMeaning tables key

-- so a run's answer stands
abbrev pub AnswersStand : Type 0
AnswersStand = (tables grown : TablesValue) (w : Workspace) (finished : Maps) (from : Beginning) (answer : CollectedValue)
    → KeepsTables tables grown → IsMeantAt tables (root_site from.tree) → Ends tables w finished from answer → Ends grown w finished from answer
