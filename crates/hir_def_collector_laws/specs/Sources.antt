-- Where is written what a run binds?
use Rattle.std.specs.Prelude.{◌≡◌, false, List, Some, Contains, is_some, not, option_map}
use Rattle.hir_collector_rules.specs.HirIds.declared.ids.ModuleId.{ModuleId}
use Rattle.hir_collector_rules.specs.HirDefMapRules.Closed.{ModuleIsThere}
use Rattle.hir_collector_rules.specs.HirDefMapRules.WellFormed.{AreWellFormed}
use Rattle.hir_collector_rules.specs.HirDefMapRules.Sources.{HoldsNowhere, HoldsNowhereIn, HoldsOfNoExtern, SourceTest}
use Rattle.hir_collector_rules.specs.HirDefMapRules.State.{Map, crate_map}
use Rattle.hir_collector_rules.specs.HirDefMapRules.Overlay.{Maps, Placed, overlay}
use Rattle.hir_collector_rules.specs.HirDefMapRules.Scoping.Asking.{local_of}
use Rattle.hir_collector_rules.specs.HirBase.declared.tree_id.TreeId.{TreeId}
use Rattle.hir_collector_rules.specs.HirBase.declared.tree_id.TreeKey.{TreeKey}
use Rattle.hir_collector_rules.specs.HirTables.Tables.{TablesValue, source_under}
use Rattle.hir_collector_rules.specs.declared.source_database.Key.{Key}
use Rattle.hir_collector_rules.specs.declared.start.Start.{Start}
use Rattle.hir_collector_rules.specs.declared.start.Start.TheVariants as starts
use Rattle.hir_collector_rules.specs.declared.source_database.Key.TheVariants.{Tree}
use Rattle.hir_collector_rules.specs.Derivation.{CollectedValue, Ends}
use Rattle.hir_collector_rules.specs.Calls.{IsMeantAt}
use Rattle.hir_collector_rules.specs.Start.{Beginning, read_by, root_site}
use Rattle.hir_collector_rules.specs.UnknownSources.{MeetsUnknownSource}
use Rattle.hir_def_collector_laws.specs.Whole.{StandsOnWhole}
use Rattle.hir_collector_rules.specs.Workspace.{Workspace}

-- a test of sources holds neither of what a source writes that was asked for, nor of a module that is there, nor of anything in the finished maps
pub record IsClearOf (t : SourceTest) (finished : Maps) (asked : List Key) (map : Map) : Type 0 where
  pub written : (key : TreeKey) → Contains asked (Tree key) → t.holder key.id.file key.id.block ≡ false
  pub shown : (m : ModuleId) → ModuleIsThere (overlay finished map) m → t.shown m ≡ false
  pub read : HoldsNowhere t finished

-- a block's run begins with the tree of the block, and the test holds of no `extern crate` that names a crate with which paths of the block's crate may begin
abbrev pub BeginsClear : SourceTest → Maps → Start → TreeId → Type 0
BeginsClear t finished (starts.Crate krate root) tree = Unit {0}
BeginsClear t finished (starts.Block krate block holder at) tree =
    (tree ≡ record { file = at.file_id; block = Some block }) × HoldsOfNoExtern t (local_of (option_map (λ (p : Placed). p.local) (finished (crate_map krate))))

-- a run binds only what the sources write that it asked for, and what the finished maps bind, seen from modules that are there
abbrev pub RunsBindFromSources : Type 0
RunsBindFromSources = (t : SourceTest) (tables : TablesValue) (w : Workspace) (finished : Maps) (from : Beginning) (answer : CollectedValue)
    → AreWellFormed (read_by w finished from.start) → StandsOnWhole w (read_by w finished from.start) from.start
    → BeginsClear t (read_by w finished from.start) from.start from.tree → Ends tables w finished from answer → IsClearOf t (read_by w finished from.start)
    answer.asked answer.map
    → HoldsNowhereIn t answer.map × HoldsOfNoExtern t answer.local

-- the test of what is written in a source that has no number
abbrev pub unnumbered : TablesValue → SourceTest
unnumbered tables = record { holder = λ file block. not (is_some (source_under tables file block)); shown = λ m. false }

-- a run meets no unknown source, where the numbers of its tree mean something and the finished maps bind only what sources write that have numbers
abbrev pub RunsMeetNoUnknownSource : Type 0
RunsMeetNoUnknownSource = (tables : TablesValue) (w : Workspace) (finished : Maps) (from : Beginning)
    → AreWellFormed (read_by w finished from.start) → StandsOnWhole w (read_by w finished from.start) from.start
    → BeginsClear (unnumbered tables) (read_by w finished from.start) from.start from.tree
    → IsMeantAt tables (root_site from.tree) → HoldsNowhere (unnumbered tables) (read_by w finished from.start)
    → ¬ MeetsUnknownSource tables w finished from
