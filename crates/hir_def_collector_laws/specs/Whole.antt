-- When does a run leave a map that names only what is there?
use Rattle.std.specs.Prelude.{◌≡◌, false, true, None}
use Rattle.std.specs.List.{list_any}
use Rattle.hir_collector_rules.specs.HirDefMapRules.WellFormed.{AreWellFormed, HasNoDanglingExtern, HasNoDanglingReference}
use Rattle.hir_collector_rules.specs.HirDefMapRules.References.{any_own_crate, is_holder_for, is_missing, test_crate}
use Rattle.hir_collector_rules.specs.HirDefMapRules.Overlay.{Maps, overlay}
use Rattle.hir_collector_rules.specs.HirTables.Tables.{TablesValue}
use Rattle.hir_collector_rules.specs.declared.source_database.Dependency.{Dependency}
use Rattle.hir_collector_rules.specs.declared.start.Start.{Start}
use Rattle.hir_collector_rules.specs.Derivation.{CollectedValue, Ends}
use Rattle.hir_collector_rules.specs.Start.{Beginning, holder_of, id_of, krate_of, read_by}
use Rattle.hir_collector_rules.specs.Workspace.{Workspace, dependencies_in, transitive_dependencies_in}

-- the maps of the crates on which a crate depends are there, and so are those of a block's crate and of the module that holds the block; its own isn't
pub record StandsOnWhole (w : Workspace) (finished : Maps) (start : Start) : Type 0 where
  pub apart : finished (id_of start) ≡ None
  pub behind : list_any (test_crate (is_missing finished)) (transitive_dependencies_in w (krate_of start)) ≡ false
  pub direct : list_any (λ (d : Dependency). test_crate (is_missing finished) d.krate) (dependencies_in w (krate_of start)) ≡ false
  pub own_crate : any_own_crate (is_missing finished) (id_of start) ≡ false
  pub held : is_holder_for finished (id_of start) (holder_of start) ≡ true

-- the map of a run, and the crates that its paths may begin with, name only what is there beside the maps that it read
abbrev pub RunsNameWhatIsThere : Type 0
RunsNameWhatIsThere = (tables : TablesValue) (w : Workspace) (finished : Maps) (from : Beginning) (answer : CollectedValue)
    → AreWellFormed (read_by w finished from.start) → StandsOnWhole w (read_by w finished from.start) from.start → Ends tables w finished from answer
    → HasNoDanglingReference (overlay (read_by w finished from.start) answer.map) answer.map
    × HasNoDanglingExtern (overlay (read_by w finished from.start) answer.map) answer.local
