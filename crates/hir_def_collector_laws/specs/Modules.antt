-- What does each module of a run's map list?
use Rattle.std.specs.Prelude.{◌≡◌, ◌<◌, ℕ, Bool, true, List, [], length, None, Some, Contains, if◌then◌else◌, slice_get}
use Rattle.hir_collector_rules.specs.HirIds.declared.ast_id.AstId.{AstId}
use Rattle.hir_collector_rules.specs.HirIds.declared.ast_id.FileId.{FileId}
use Rattle.hir_collector_rules.specs.HirIds.declared.ids.ModuleDefId.{ModuleDefId}
use Rattle.hir_collector_rules.specs.HirItemTree.Collected.{is_enabled}
use Rattle.hir_collector_rules.specs.HirItemTree.ItemTree.{Tree as ItemTree}
use Rattle.hir_collector_rules.specs.HirItemTree.KeptForest.{Head, KeptForest, holder, inline_module, leaf, no_items, outline_module}
use Rattle.hir_collector_rules.specs.HirBase.declared.tree_id.TreeId.{TreeId}
use Rattle.hir_collector_rules.specs.HirModDir.ModuleFiles.{inline_directory}
use Rattle.hir_collector_rules.specs.HirTables.Tables.{TablesValue}
use Rattle.hir_collector_rules.specs.HirDefMapRules.Overlay.{Maps}
use Rattle.hir_collector_rules.specs.HirDefMapRules.State.{ModuleValue, module_at}
use Rattle.hir_collector_rules.specs.HirMapParts.declared.origin.ModuleOrigin.{ModuleOrigin}
use Rattle.hir_collector_rules.specs.HirMapParts.declared.origin.ModuleOrigin.TheVariants as origins
use Rattle.hir_collector_rules.specs.declared.macro_directive.Fate.TheVariants.{GivenUp, Handled}
use Rattle.hir_collector_rules.specs.declared.macro_directive.MacroDirective.{MacroDirective}
use Rattle.hir_collector_rules.specs.declared.site.Site.{Site}
use Rattle.hir_collector_rules.specs.declared.source_database.Key.TheVariants.{Tree}
use Rattle.hir_collector_rules.specs.Derivation.{CollectedValue, Ends}
use Rattle.hir_collector_rules.specs.Items.{inline_origin}
use Rattle.hir_collector_rules.specs.Keys.{tree_at}
use Rattle.hir_collector_rules.specs.ModuleFiles.{Search, file_key, file_tree, module_file}
use Rattle.hir_collector_rules.specs.Start.{Beginning, is_declared, origin_of, read_by, root_site, root_tree}
use Rattle.hir_collector_rules.specs.State.{Core}
use Rattle.hir_collector_rules.specs.Steps.{path_of}
use Rattle.hir_collector_rules.specs.Workspace.{Workspace}
use Rattle.hir_def_collector_laws.specs.Calls.{NoCallIsWritten}
use Rattle.hir_def_collector_laws.specs.Declares.{Declares, IsLookedFor, ListsFirst}
use Rattle.hir_def_collector_laws.specs.Expansions.{Expansion, IsDone, IsExpansion, expanded_in}
use Rattle.hir_def_collector_laws.specs.Written.{IsWritten, key_of}

-- the items of a tree, if they are declared
abbrev pub items_of : TreeId → ItemTree → KeptForest
items_of id tree = if is_declared id tree then tree.items else no_items

-- these are the items of a module
pub data HasItems (tables : TablesValue) (w : Workspace) (finished : Maps) (from : Beginning) (answer : CollectedValue) (origin : ModuleOrigin)
    (s : Site) : KeptForest → Type 0 where
  -- those of the tree with which the run began, if it is the root
  of_root : origin ≡ origin_of from.start → s ≡ root_site from.tree → HasItems tables w finished from answer origin s
      (items_of from.tree (root_tree tables w from))
  -- those of its file, whose tree was asked for
  of_file : (is_mod_rs : Bool) (declaration : AstId) (declared_in : TreeId) (id : FileId)
      → origin ≡ origins.File is_mod_rs declaration declared_in (record { file_id = id; edition = answer.map.crate_data.edition }) → s.tree
      ≡ file_tree answer.map.crate_data.edition id
      → Contains answer.asked (Tree (file_key answer.map.id.krate answer.map.crate_data.edition id))
      → HasItems tables w finished from answer origin s
      (items_of (file_tree answer.map.crate_data.edition id) (tree_at tables w (file_key answer.map.id.krate answer.map.crate_data.edition id)).tree)
  -- those inside the `mod name { .. }` that declares it
  inside_item : (head : Head) (name : List ℕ) (items : KeptForest) → origin ≡ inline_origin s.tree head.id → is_enabled head.attributes ≡ true
      → IsWritten tables w answer.asked (key_of answer s.tree) (holder head (inline_module name) items) → HasItems tables w finished from answer origin s items
  -- none, if that is too deep in the directory of the module around it
  too_deep : (head : Head) (name : List ℕ) (items : KeptForest) → inline_directory s.dir name (path_of head) ≡ None → origin ≡ inline_origin s.tree head.id
      → is_enabled head.attributes ≡ true
      → IsWritten tables w answer.asked (key_of answer s.tree) (holder head (inline_module name) items) → HasItems tables w finished from answer origin s
      no_items
  -- or if there is no file for the `mod name;` that declares it
  without_file : (head : Head) (name : List ℕ) (search : Search) → IsLookedFor tables w finished answer s head name search → module_file search.found ≡ None
      → origin ≡ inline_origin s.tree head.id → is_enabled head.attributes ≡ true
      → IsWritten tables w answer.asked (key_of answer s.tree) (leaf head (outline_module name)) → HasItems tables w finished from answer origin s no_items

-- a module lists the definitions that its items declare, in the order of the items, and behind them what expansions of calls in it declare, and items that had
-- waited
pub record ListsItsItems (tables : TablesValue) (w : Workspace) (finished : Maps) (from : Beginning) (answer : CollectedValue) (last : Core)
    (more : ℕ → List ModuleDefId) (number : ℕ) : Type 0 where
  pub value : ModuleValue
  pub there : module_at answer.map number ≡ Some value
  -- where its items are written, and what they are
  pub site : Site
  pub home : site.home ≡ number
  pub alone : site.extern_block ≡ None
  pub items : KeptForest
  pub has : HasItems tables w finished from answer value.origin site items
  pub lists : ListsFirst answer.map more number items (λ own. Declares tables w finished answer last more items site own)

-- the calls, derives and attributes that a run expanded, and the items that went on, one after another, and what modules list
pub record ListsAll (tables : TablesValue) (w : Workspace) (finished : Maps) (from : Beginning) (answer : CollectedValue) (last : Core) : Type 0 where
  pub expansions : List Expansion
  pub each : (e : Expansion) → Contains expansions e → IsExpansion tables w finished answer last (expanded_in expansions) e
  -- each that was handled is among them, unless it was too deep or builtin
  pub done : (i : ℕ) (d : MacroDirective) → slice_get last.calls i ≡ Some d → slice_get last.fates i ≡ Some Handled → IsDone answer.map expansions d
  -- and so is each attribute that was given up
  pub given_up : (i : ℕ) (d : MacroDirective) → slice_get last.calls i ≡ Some d → slice_get last.fates i ≡ Some GivenUp → (e : Expansion)
      × Contains expansions e × (e.call ≡ d)
  pub modules : (number : ℕ) → number < length answer.map.modules → ListsItsItems tables w finished from answer last (expanded_in expansions) number

-- so a definition is listed exactly where an enabled item of a tree that was asked for writes it
abbrev pub ModulesListTheirItems : Type 0
ModulesListTheirItems =
    (tables : TablesValue) (w : Workspace) (finished : Maps) (from : Beginning) (answer : CollectedValue) → (ends : Ends tables w finished from answer)
    → ListsAll tables w (read_by w finished from.start) from answer ends.last.core

-- where nothing is written that waits, nothing comes behind that
abbrev pub ModulesListTheirItemsAlone : Type 0
ModulesListTheirItemsAlone =
    (tables : TablesValue) (w : Workspace) (finished : Maps) (from : Beginning) (answer : CollectedValue) → (ends : Ends tables w finished from answer)
    → NoCallIsWritten tables w answer
    → (number : ℕ) → number < length answer.map.modules → ListsItsItems tables w (read_by w finished from.start) from answer ends.last.core (expanded_in [])
    number
