-- What is visited, and what comes next behind it.
use Rattle.std.specs.Prelude.{◌≡◌, ◌<◌, ◌≤◌, ◌+◌, ℕ, map, ◌||◌, List, [], ◌++◌}
use Rattle.hir_collector_state.specs.HirItemTree.KeptForest.{Head, KeptItem}
use Rattle.hir_collector_state.specs.HirItemTree.Rows.{items_at, numbers_of}
use Rattle.hir_mod_resolution.specs.declared.mod_resolution.FoundFile.{FoundFile}
use Rattle.hir_mod_resolution.specs.declared.mod_resolution.LookedFile.{LookedFile}
use Rattle.hir_mod_resolution.specs.declared.modules.Inside.{Inside}
use Rattle.hir_mod_resolution.specs.declared.modules.Inside.TheVariants.{Nothing, Held, File}
use Rattle.hir_collector_state.specs.HirDefMapRules.Overlay.{Maps}
use Rattle.hir_collector_state.specs.HirCollectorRules.declared.site.Site.{Site}
use Rattle.hir_collector_state.specs.HirItemTree.SourceTree.{SourceTreeValue}
use Rattle.hir_collector_state.specs.HirTables.Tables.{TablesValue}
use Rattle.hir_collector_state.specs.HirCollectorRules.Workspace.{seen_of}
use Rattle.hir_collector_state.specs.HirCollectorRules.ModuleFiles.{LookedAt, ModuleFile}
use Rattle.hir_collector_state.specs.HirCollectorRules.Calls.{IsMeantAt}
use Rattle.hir_collector_state.specs.HirCollectorRules.Macros.{is_macro_use}
use Rattle.hir_collector_state.specs.HirCollectorRules.State.{Core, Task, visits_over}
use Rattle.hir_collector_state.specs.HirCollectorRules.Steps.{closing, inside_file}
use Rattle.hir_collector_state.specs.HirCollectorRules.Moves.{DropsFile, OpensFile}

-- what a file that was found is
abbrev pub found_view : FoundFile → ModuleFile
found_view f = record { id = f.id; is_mod_rs = f.is_mod_rs; dir = f.dir; tree = f.source.value.tree }

abbrev pub looked_view : LookedFile → LookedAt
looked_view f = record { id = f.id; there = seen_of f.source.value }

-- the items that an item of a module holds, or those of its file, to be visited next; behind them the module is closed that they are in, where it is marked
abbrev pub tasks_of : ℕ → List KeptItem → Inside → List Task
tasks_of home items Nothing = []
tasks_of home items (Held site ids marked) = visits_over site (items_at items (numbers_of ids.now)) ++ closing marked home site.home
tasks_of home items (File site source marked) = visits_over site source.value.tree.items ++ closing marked home site.home

-- the items that an item holds are written in a module that is there, in the same tree, not less deep
pub record IsWithin (count : ℕ) (site inner : Site) : Type 0 where
  pub there : inner.home < count
  pub tree : inner.tree ≡ site.tree
  pub file : inner.file ≡ site.file
  pub deep : site.dir.depth ≤ inner.dir.depth

-- those of a file are written in a module that is there, one deeper; the numbers mean something
pub record IsOfFile (tables : TablesValue) (count : ℕ) (site inner : Site) : Type 0 where
  pub there : inner.home < count
  pub meant : IsMeantAt tables inner
  pub above : site.dir.depth < 32
  pub deeper : inner.dir.depth ≡ site.dir.depth + 1

-- so are those that come next behind an item that holds these
abbrev pub GoesInside : TablesValue → ℕ → Site → List ℕ → Inside → Type 0
GoesInside tables count site numbers Nothing = Unit {0}
GoesInside tables count site numbers (Held inner ids marked) = IsWithin count site inner × (numbers_of ids.now ≡ numbers)
GoesInside tables count site numbers (File inner source marked) = IsOfFile tables count site inner

abbrev pub TakesFile : Maps → Site → Head → List ℕ → ModuleFile → SourceTreeValue → Core → Core → Inside → Type 0
TakesFile finished site head name file source old new Nothing = DropsFile site head file old new
TakesFile finished site head name file source old new (Held inner ids marked) = ⊥
TakesFile finished site head name file source old new (File inner held marked) =
    OpensFile finished site head name file old new × (inner ≡ inside_file old.map file) × (held.value ≡ source)
    × (marked ≡ (is_macro_use head.attributes || is_macro_use file.tree.attributes))
