-- Which items does a run walk, and which imports does it come upon there?
use Rattle.std.specs.Prelude.{◌≡◌, ◌≤◌, ℕ, Bool, true, false, List, None, Some, Contains, slice_get}
use Rattle.hir_collector_rules.specs.HirIds.declared.ast_id.AstId.{AstId}
use Rattle.hir_collector_rules.specs.HirIds.declared.macro_kind.BuiltinDeriveImplId.{BuiltinDeriveImplId}
use Rattle.hir_collector_rules.specs.HirIds.declared.ast_id.EditionedFileId.{EditionedFileId}
use Rattle.hir_collector_rules.specs.HirIds.declared.macro_kind.MacroId.{MacroId}
use Rattle.hir_collector_rules.specs.HirItemTree.Collected.{is_enabled}
use Rattle.hir_collector_rules.specs.HirItemTree.Imports.{imports_of}
use Rattle.hir_collector_rules.specs.HirItemTree.KeptForest.{Head, Holder, KeptForest, KeptItem, Leaf, extern_block}
use Rattle.hir_collector_rules.specs.HirItemTree.KeptForest.{extern_crate, holder, import, inline_module, item, leaf}
use Rattle.hir_collector_rules.specs.HirItemTree.KeptForest.{no_items}
use Rattle.hir_collector_rules.specs.HirItemTree.UseTree.{UseTree}
use Rattle.hir_collector_rules.specs.HirBase.declared.tree_id.TreeId.{TreeId}
use Rattle.hir_collector_rules.specs.HirUseTree.declared.imports.Import.{Import}
use Rattle.hir_collector_rules.specs.HirModDir.Directory.{Directory}
use Rattle.hir_collector_rules.specs.HirModDir.ModuleFiles.{inline_directory}
use Rattle.hir_collector_rules.specs.HirTables.Tables.{TablesValue}
use Rattle.hir_collector_rules.specs.HirDefMapRules.Overlay.{Maps}
use Rattle.hir_collector_rules.specs.HirDefMapRules.State.{Map, ModuleValue, module_at}
use Rattle.hir_collector_rules.specs.HirMapParts.declared.origin.ModuleOrigin.TheVariants as origins
use Rattle.hir_collector_rules.specs.declared.macro_directive.Fate.TheVariants.{GivenUp, Handled}
use Rattle.hir_collector_rules.specs.declared.macro_directive.MacroDirective.{MacroDirective}
use Rattle.hir_collector_rules.specs.declared.site.Site.{Site}
use Rattle.hir_collector_rules.specs.declared.macro_directive.WaitingItem.{WaitingItem}
use Rattle.hir_collector_rules.specs.declared.source_database.Key.TheVariants.{Tree}
use Rattle.hir_collector_rules.specs.Calls.{Expanding, IsNumberedCall, builtin_impl, call_key, call_site, has_expansion}
use Rattle.hir_collector_rules.specs.Derivation.{CollectedValue, Ends}
use Rattle.hir_collector_rules.specs.Imports.{crate_import, reached_import}
use Rattle.hir_collector_rules.specs.ItemIds.{use_id}
use Rattle.hir_collector_rules.specs.Items.{inline_origin}
use Rattle.hir_collector_rules.specs.Keys.{tree_at}
use Rattle.hir_collector_rules.specs.ModuleFiles.{file_key, file_tree}
use Rattle.hir_collector_rules.specs.Start.{Beginning, root_site, root_tree}
use Rattle.hir_collector_rules.specs.State.{Core}
use Rattle.hir_collector_rules.specs.Steps.{IsItemOf, inside_block, path_of, site_behind}
use Rattle.hir_collector_rules.specs.Workspace.{Workspace}
use Rattle.hir_def_collector_laws.specs.Declares.{IsModuleOf, Waited, site_inside}
use Rattle.hir_def_collector_laws.specs.Modules.{items_of}

-- each import that a `use` item of a site means, a leaf of it at its place in preorder, is among those that a run came upon: in the site's module
pub record AreReached (last : Core) (m : Map) (s : Site) (head : Head) (tree : UseTree) : Type 0 where
  pub each : (i : Import) → Contains (imports_of tree) i → Contains last.reached (reached_import s.home (use_id m s head.id) head.visibility i)

-- this came of an item of a site, unless the item waited for an attribute behind the first so many
pub data Comes (last : Core) (s : Site) (i : KeptItem) (done : ℕ) (P : Type 0) : Type 0 where
  in_place : P → Comes last s i done P
  waited : Waited last.calls s i done → Comes last s i done P

-- of a disabled item nothing comes
abbrev pub WhereEnabled : Bool → Type 0 → Type 0
WhereEnabled true P = P
WhereEnabled false P = Unit {0}

-- an item that holds no others; an `extern crate` is an import too
abbrev pub LeafWalks : CollectedValue → Core → Site → Head → Leaf → Type 0
LeafWalks answer last s head (import tree) = AreReached last answer.map s head tree
LeafWalks answer last s head (extern_crate name alias) = Contains last.reached (crate_import answer.map last.dependencies s head name alias)
LeafWalks answer last s head l = Unit {0}

-- `mod name { .. }` makes a module of the map, in which the items inside are walked, unless it is too deep
pub record WalksInside (m : Map) (s : Site) (head : Head) (name : List ℕ) (inside : Site → Type 0) : Type 0 where
  pub number : ℕ
  pub made : IsModuleOf m s (inline_origin s.tree head.id) number
  pub walks : (dir : Directory) → inline_directory s.dir name (path_of head) ≡ Some dir → inside (site_inside s number dir)

-- the items of an extern block are walked in the module that holds the block
abbrev pub HolderWalks : CollectedValue → Site → Head → Holder → (Site → Type 0) → Type 0
HolderWalks answer s head extern_block inside = inside (inside_block answer.map s head)
HolderWalks answer s head (inline_module name) inside = WalksInside answer.map s head name inside

abbrev mutual
  -- an item of a site of which so many attributes are done with is walked, with the items inside it
  pub WalksOne : CollectedValue → Core → KeptItem → ℕ → Site → Type 0
  WalksOne answer last (leaf head l) done s = WhereEnabled (is_enabled head.attributes) (Comes last s (leaf head l) done (LeafWalks answer last s head l))
  WalksOne answer last (holder head k items) done s =
      WhereEnabled (is_enabled head.attributes) (Comes last s (holder head k items) done (HolderWalks answer s head k (λ inner. Walks answer last items inner)))

  -- so are items one after another
  pub Walks : CollectedValue → Core → KeptForest → Site → Type 0
  Walks answer last no_items s = Unit {0}
  Walks answer last (item i is) s = WalksOne answer last i 0 s × Walks answer last is s

-- the items of a file are walked in the module of the number whose file it is
pub record WalksFile (tables : TablesValue) (w : Workspace) (answer : CollectedValue) (last : Core) (number : ℕ) (file : EditionedFileId) : Type 0 where
  pub site : Site
  pub home : site.home ≡ number
  pub tree : site.tree ≡ file_tree file.edition file.file_id
  pub alone : site.extern_block ≡ None
  pub walks : Walks answer last (tree_at tables w (file_key answer.map.id.krate file.edition file.file_id)).tree.items site

-- the item that waited for an attribute is walked behind it, one level deeper
pub record Resumes (answer : CollectedValue) (last : Core) (d : MacroDirective) : Type 0 where
  pub waiting : WaitingItem
  pub kept : KeptItem
  pub of : IsItemOf d waiting kept
  pub walks : WalksOne answer last kept waiting.done (site_behind d.site)

-- what came of a call, a path of a derive or an attribute that doesn't wait any more
pub data WentOn (tables : TablesValue) (w : Workspace) (answer : CollectedValue) (last : Core) (d : MacroDirective) : Type 0 where
  -- the items to which it expands were asked for, and are walked where it stands
  expanded : (makro : MacroId) (seen : Expanding) → IsNumberedCall tables answer.map.id.krate d makro seen
      → Contains answer.asked (Tree (call_key answer.map.id.krate seen.id))
      → Walks answer last (tree_at tables w (call_key answer.map.id.krate seen.id)).tree.items (call_site d seen.id) → WentOn tables w answer last d
  -- it is an attribute that was skipped
  resumed : Resumes answer last d → WentOn tables w answer last d
  -- it is deeper than calls may be
  too_deep : answer.map.crate_data.recursion_limit ≤ d.site.level → WentOn tables w answer last d
  -- or it is a path of a derive that reached a builtin macro
  builtin : (makro : MacroId) (imp : BuiltinDeriveImplId) → has_expansion d makro ≡ false → builtin_impl makro d.kind ≡ Some imp → WentOn tables w answer last d

-- all that a run came upon is walked: the items of the tree with which it began, in the root module; those of the file of each module; those of what was
-- expanded; and the items that waited for attributes which were skipped or given up
pub record WalksAll (tables : TablesValue) (w : Workspace) (from : Beginning) (answer : CollectedValue) (last : Core) : Type 0 where
  pub root : Walks answer last (items_of from.tree (root_tree tables w from)) (root_site from.tree)
  pub files : (number : ℕ) (v : ModuleValue) → module_at answer.map number ≡ Some v
      → (is_mod_rs : Bool) (declaration : AstId) (declared_in : TreeId) (file : EditionedFileId)
      → v.origin ≡ origins.File is_mod_rs declaration declared_in file → WalksFile tables w answer last number file
  pub handled : (i : ℕ) (d : MacroDirective) → slice_get last.calls i ≡ Some d → slice_get last.fates i ≡ Some Handled → WentOn tables w answer last d
  pub given_up : (i : ℕ) (d : MacroDirective) → slice_get last.calls i ≡ Some d → slice_get last.fates i ≡ Some GivenUp → Resumes answer last d

-- so each leaf of each enabled `use` item and each enabled `extern crate` item is among the imports, but for what waits for an attribute, what an attribute's
-- expansion is put in place of, and what is too deep
abbrev pub UsesAreImported : Type 0
UsesAreImported = (tables : TablesValue) (w : Workspace) (finished : Maps) (from : Beginning) (answer : CollectedValue)
    → (ends : Ends tables w finished from answer) → WalksAll tables w from answer ends.last.core
