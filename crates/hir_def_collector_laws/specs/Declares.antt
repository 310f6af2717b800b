-- Which definitions do items declare in the module in which they are written?
use Rattle.std.specs.Prelude.{◌≡◌, ◌<◌, ◌⊎◌, ℕ, Bool, true, false, List, [], ◌∷◌, ◌++◌, Option, None, Some, Contains, drop}
use Rattle.hir_collector_rules.specs.HirIds.declared.ast_id.AstId.{AstId}
use Rattle.hir_collector_rules.specs.HirIds.declared.ids.ModuleDefId.{ModuleDefId}
use Rattle.hir_collector_rules.specs.HirIds.declared.ids.AdtId.TheVariants as adts
use Rattle.hir_collector_rules.specs.HirIds.declared.ids.ModuleDefId.TheVariants as definitions
use Rattle.hir_collector_rules.specs.HirIds.declared.macro_kind.MacroId.TheVariants.{ProcMacroId}
use Rattle.hir_collector_rules.specs.HirItemTree.Collected.{Numbered, is_enabled}
use Rattle.hir_collector_rules.specs.HirItemTree.KeptForest.{Head, Holder, KeptForest, KeptItem, Leaf, constant, enumeration}
use Rattle.hir_collector_rules.specs.HirItemTree.KeptForest.{extern_block, extern_crate, function, holder}
use Rattle.hir_collector_rules.specs.HirItemTree.KeptForest.{implementation, import, inline_module, item, leaf, macro_call}
use Rattle.hir_collector_rules.specs.HirItemTree.KeptForest.{macro_def, macro_rules, no_items, outline_module}
use Rattle.hir_collector_rules.specs.HirItemTree.KeptForest.{static_item, structure, trait_item, type_alias, union_structure}
use Rattle.hir_collector_rules.specs.HirItemTree.Kinds.{item_head}
use Rattle.hir_collector_rules.specs.HirModDir.Directory.{Directory}
use Rattle.hir_collector_rules.specs.HirModDir.ModuleFiles.{candidates_of, inline_directory}
use Rattle.hir_collector_rules.specs.HirTables.Tables.{TablesValue}
use Rattle.hir_collector_rules.specs.HirDefMapRules.Overlay.{Maps}
use Rattle.hir_collector_rules.specs.HirDefMapRules.State.{Map, ModuleValue, module_at, numbered}
use Rattle.hir_collector_rules.specs.HirMapParts.declared.origin.ModuleOrigin.{ModuleOrigin}
use Rattle.hir_collector_rules.specs.declared.exported.Export.{Export}
use Rattle.hir_collector_rules.specs.declared.macro_directive.MacroDirective.{MacroDirective}
use Rattle.hir_collector_rules.specs.declared.site.Site.{Site}
use Rattle.hir_collector_rules.specs.declared.macro_directive.WaitingItem.{WaitingItem}
use Rattle.hir_collector_rules.specs.Attributes.{AreAlwaysPassed, export_at, is_derive, is_passed, item_node, proc_macro_id}
use Rattle.hir_collector_rules.specs.Calls.{item_kept, waiting_item}
use Rattle.hir_collector_rules.specs.Causes.{declarations_of}
use Rattle.hir_collector_rules.specs.Derivation.{CollectedValue}
use Rattle.hir_collector_rules.specs.ItemIds.{const_id, enum_id, function_id, macro_def_id, static_id, struct_id, trait_id, type_alias_id, union_id}
use Rattle.hir_collector_rules.specs.Items.{file_origin, inline_origin}
use Rattle.hir_collector_rules.specs.Keys.{environment}
use Rattle.hir_collector_rules.specs.ModuleFiles.{IsNumbered, IsSearch, ModuleFile, Search, module_file}
use Rattle.hir_collector_rules.specs.State.{Core}
use Rattle.hir_collector_rules.specs.Steps.{Sees, inside_block, path_of, search_readings}
use Rattle.hir_collector_rules.specs.Workspace.{Workspace}

-- the macro that a function exports, if it exports one
abbrev pub macro_exported : Map → Site → Head → Option Export → List ModuleDefId
macro_exported m s h None = []
macro_exported m s h (Some e) = definitions.MacroId (ProcMacroId (proc_macro_id m s h.id e.style)) ∷ []

-- the definitions that an item of a site is, modules aside, in a crate that is a procedural macro's or not: one, and behind a function the macro that it exports
abbrev pub definitions_of : Bool → Map → Site → Head → Leaf → List ModuleDefId
definitions_of is_proc_macro m s h (function name) =
    definitions.FunctionId (function_id m s h.id) ∷ macro_exported m s h (export_at is_proc_macro m s (leaf h (function name)))
definitions_of is_proc_macro m s h (structure name shape fields) = definitions.AdtId (adts.StructId (struct_id m s h.id)) ∷ []
definitions_of is_proc_macro m s h (union_structure name fields) = definitions.AdtId (adts.UnionId (union_id m s h.id)) ∷ []
definitions_of is_proc_macro m s h (enumeration name) = definitions.AdtId (adts.EnumId (enum_id m s h.id)) ∷ []
definitions_of is_proc_macro m s h (constant (Some name)) = definitions.ConstId (const_id m s h.id) ∷ []
definitions_of is_proc_macro m s h (static_item name) = definitions.StaticId (static_id m s h.id) ∷ []
definitions_of is_proc_macro m s h (trait_item name) = definitions.TraitId (trait_id m s h.id) ∷ []
definitions_of is_proc_macro m s h (type_alias name) = definitions.TypeAliasId (type_alias_id m s h.id) ∷ []
definitions_of is_proc_macro m s h (macro_def name expander helpers) = definitions.MacroId (macro_def_id m s h.id expander) ∷ []
-- a `use`, an `extern crate`, a constant without a name, an impl, a macro call or a `macro_rules` is no such definition
definitions_of is_proc_macro m s h (import tree) = []
definitions_of is_proc_macro m s h (extern_crate name alias) = []
definitions_of is_proc_macro m s h (constant None) = []
definitions_of is_proc_macro m s h (implementation of_trait) = []
definitions_of is_proc_macro m s h (outline_module name) = []
definitions_of is_proc_macro m s h (macro_call path) = []
definitions_of is_proc_macro m s h (macro_rules name expander helpers) = []

-- a module of the map that is declared at a site
pub record IsModuleOf (m : Map) (s : Site) (origin : ModuleOrigin) (number : ℕ) : Type 0 where
  pub value : ModuleValue
  pub there : module_at m number ≡ Some value
  pub origin_is : value.origin ≡ origin
  pub parent : value.parent ≡ Some (numbered m.id s.home)

abbrev pub module_alone : Map → ℕ → List ModuleDefId
module_alone m number = definitions.ModuleId (numbered m.id number) ∷ []

-- where the items of `mod name { .. }` are written
abbrev pub site_inside : Site → ℕ → Directory → Site
site_inside s number dir = record { home = number; tree = s.tree; file = s.file; extern_block = None; dir = dir; level = s.level }

-- nothing is looked up for an attribute of an item that isn't disabled, and none is a `derive`, where these are the tools
abbrev pub HasNoLookUp : List (List ℕ) → Head → Type 0
HasNoLookUp tools head = is_enabled head.attributes ≡ true → AreAlwaysPassed tools head.attributes.attributes

abbrev mutual
  -- an item isn't a macro call, nor an extern block that holds one, and nothing is looked up for its attributes; what it holds in a module of its own doesn't
  -- matter, nor what is disabled
  pub HasNoCall : List (List ℕ) → KeptItem → Type 0
  HasNoCall tools (leaf head (macro_call path)) = is_enabled head.attributes ≡ false
  HasNoCall tools (leaf head l) = HasNoLookUp tools head
  HasNoCall tools (holder head extern_block items) = HasNoLookUp tools head × (is_enabled head.attributes ≡ true → HaveNoCall tools items)
  HasNoCall tools (holder head (inline_module name) items) = HasNoLookUp tools head

  -- so it is for each of these
  pub HaveNoCall : List (List ℕ) → KeptForest → Type 0
  HaveNoCall tools no_items = Unit {0}
  HaveNoCall tools (item i is) = HasNoCall tools i × HaveNoCall tools is

-- an attribute with this node, in the end, is one for which nothing is looked up, or a `derive`
abbrev pub IsDoneWith : Map → AstId → Numbered → Type 0
IsDoneWith m node a = (is_passed m node a ≡ true) ⊎ (is_derive a ≡ true)

-- all attributes of an item of a site behind the first so many are such
abbrev pub AreDoneWith : Map → Site → KeptItem → ℕ → Type 0
AreDoneWith m s i done = (a : Numbered) → Contains (drop done (item_head i).attributes.attributes) a → IsDoneWith m (item_node s i) a

-- or the item of the site waited for one of them
pub record Waited (calls : List MacroDirective) (s : Site) (i : KeptItem) (done : ℕ) : Type 0 where
  pub call : MacroDirective
  pub among : Contains calls call
  pub site_is : call.site ≡ s
  pub item : WaitingItem
  pub waits : waiting_item call ≡ Some item
  pub kept : item_kept item ≡ Some i
  pub behind : done < item.done

-- a module with these items lists what they declare, in order, and behind that what expansions of calls in it declare, and items that had waited
pub record ListsFirst (m : Map) (more : ℕ → List ModuleDefId) (number : ℕ) (items : KeptForest) (declares : List ModuleDefId → Type 0) : Type 0 where
  pub own : List ModuleDefId
  pub declared : declares own
  pub listed : declarations_of (module_at m number) ≡ own ++ more number
  -- that is nothing, if none of the items is a call, or has an attribute for which something is looked up
  pub alone : HaveNoCall m.crate_data.registered_tools items → more number ≡ []

-- `mod name { .. }` declares a module
pub record DeclaresInline (m : Map) (more : ℕ → List ModuleDefId) (s : Site) (head : Head) (name : List ℕ) (items : KeptForest)
    (inside : Site → List ModuleDefId → Type 0) (defs : List ModuleDefId) : Type 0 where
  pub number : ℕ
  pub made : IsModuleOf m s (inline_origin s.tree head.id) number
  pub is : defs ≡ module_alone m number
  -- it lists what the items inside declare first, and nothing where it is too deep
  pub lists : (dir : Directory) → inline_directory s.dir name (path_of head) ≡ Some dir → ListsFirst m more number items (inside (site_inside s number dir))
  pub deep : inline_directory s.dir name (path_of head) ≡ None → declarations_of (module_at m number) ≡ []

-- the file of `mod name;` was looked for so, in what the workspace has
pub record IsLookedFor (tables : TablesValue) (w : Workspace) (finished : Maps) (answer : CollectedValue) (s : Site) (head : Head) (name : List ℕ)
    (search : Search) : Type 0 where
  pub tries : IsSearch (candidates_of s.dir name (path_of head)) search
  pub numbers : IsNumbered tables s.file search
  pub sees : Sees (environment tables w) finished (search_readings answer.map search)

-- `mod name;` declares a module too
pub data DeclaresFile (tables : TablesValue) (w : Workspace) (finished : Maps) (answer : CollectedValue) (s : Site) (head : Head) (name : List ℕ)
    (defs : List ModuleDefId) : Type 0 where
  -- one whose items are in the file that is found
  of_file : (search : Search) → IsLookedFor tables w finished answer s head name search → (file : ModuleFile) → module_file search.found ≡ Some file
      → is_enabled file.tree.attributes ≡ true
      → (number : ℕ) → IsModuleOf answer.map s (file_origin s.tree head.id answer.map.crate_data.edition file) number → defs ≡ module_alone answer.map number
      → DeclaresFile tables w finished answer s head name defs
  -- or one without items, where none is found or it is too deep
  without_file : (search : Search) → IsLookedFor tables w finished answer s head name search → module_file search.found ≡ None
      → (number : ℕ) → IsModuleOf answer.map s (inline_origin s.tree head.id) number → defs ≡ module_alone answer.map number
      → declarations_of (module_at answer.map number) ≡ []
      → DeclaresFile tables w finished answer s head name defs
  -- or none, where the file that is found is disabled at its top
  disabled_file : (search : Search) → IsLookedFor tables w finished answer s head name search → (file : ModuleFile) → module_file search.found ≡ Some file
      → is_enabled file.tree.attributes ≡ false
      → defs ≡ [] → DeclaresFile tables w finished answer s head name defs

-- an item that holds no others
abbrev pub LeafDeclares : TablesValue → Workspace → Maps → CollectedValue → Core → Site → Head → Leaf → List ModuleDefId → Type 0
LeafDeclares tables w finished answer last s head (outline_module name) defs = DeclaresFile tables w finished answer s head name defs
LeafDeclares tables w finished answer last s head l defs = defs ≡ definitions_of last.is_proc_macro answer.map s head l

-- an item that holds others, where this is what those declare at a site: the items of an extern block are of the module
-- that holds the block
abbrev pub HolderDeclares : CollectedValue → (ℕ → List ModuleDefId) → Site → Head → Holder → KeptForest → (Site → List ModuleDefId → Type 0) → List ModuleDefId
    → Type 0
HolderDeclares answer more s head extern_block items inside defs = inside (inside_block answer.map s head) defs
HolderDeclares answer more s head (inline_module name) items inside defs = DeclaresInline answer.map more s head name items inside defs

-- a disabled item declares nothing
abbrev pub IfEnabled : Bool → Type 0 → List ModuleDefId → Type 0
IfEnabled true P defs = P
IfEnabled false P defs = defs ≡ []

-- an item whose attributes were done with declares what it does; one that waited nothing there
pub data InPlace (last : Core) (m : Map) (s : Site) (i : KeptItem) (done : ℕ) (P : Type 0) (defs : List ModuleDefId) : Type 0 where
  in_place : AreDoneWith m s i done → P → InPlace last m s i done P defs
  waited : Waited last.calls s i done → defs ≡ [] → InPlace last m s i done P defs

abbrev mutual
  -- an item of a site of which so many attributes are done with declares these definitions in the site's module, in a run that ended so, where this is what comes
  -- behind in each module: what expansions of calls declare, and items that had waited
  pub DeclaresOne : TablesValue → Workspace → Maps → CollectedValue → Core → (ℕ → List ModuleDefId) → KeptItem → ℕ → Site → List ModuleDefId → Type 0
  DeclaresOne tables w finished answer last more (leaf head l) done s defs =
      IfEnabled (is_enabled head.attributes) (InPlace last answer.map s (leaf head l) done (LeafDeclares tables w finished answer last s head l defs) defs) defs
  DeclaresOne tables w finished answer last more (holder head k items) done s defs =
      IfEnabled (is_enabled head.attributes)
      (InPlace last answer.map s (holder head k items) done
      (HolderDeclares answer more s head k items (λ inner inside. Declares tables w finished answer last more items inner inside) defs) defs) defs

  -- so do items one after another
  pub Declares : TablesValue → Workspace → Maps → CollectedValue → Core → (ℕ → List ModuleDefId) → KeptForest → Site → List ModuleDefId → Type 0
  Declares tables w finished answer last more no_items s defs = defs ≡ []
  Declares tables w finished answer last more (item i is) s defs =
      (own : List ModuleDefId) × (others : List ModuleDefId) × DeclaresOne tables w finished answer last more i 0 s own × Declares tables w finished answer last
      more is s others × (defs ≡ own ++ others)
