-- The steps that the import rules allow: each is a rule, which reads of the workspace and makes changes.
use Rattle.std.specs.Prelude.{◌≡◌, ◌<◌, ◌≤◌, Contains, ℕ, suc, ◌+◌, Bool, ◌||◌, true, false, List, [], ◌∷◌, ◌++◌, length, map as list_map, Option, Some, None}
use Rattle.std.specs.Prelude.{cond}
use Rattle.either.specs.declared.Either.TheVariants as either
use Rattle.hir_nameres.specs.HirBase.Cfg.{Cfg}
use Rattle.hir_nameres.specs.HirBase.ModPath.{Path}
use Rattle.hir_nameres.specs.HirIds.declared.ids.AdtId.{AdtId}
use Rattle.hir_nameres.specs.HirIds.declared.ast_id.AstId.{AstId}
use Rattle.hir_nameres.specs.HirIds.declared.ast_id.AttrId.{AttrId}
use Rattle.hir_nameres.specs.HirIds.declared.macro_kind.BuiltinDeriveImplId.{BuiltinDeriveImplId}
use Rattle.hir_nameres.specs.HirIds.declared.ids.EnumId.{EnumId}
use Rattle.hir_nameres.specs.HirIds.declared.ids.ExternCrateId.{ExternCrateId}
use Rattle.hir_nameres.specs.HirIds.declared.ast_id.MacroCallId.{MacroCallId}
use Rattle.hir_nameres.specs.HirIds.declared.macro_kind.MacroExpander.{MacroExpander}
use Rattle.hir_nameres.specs.HirIds.declared.macro_kind.MacroId.{MacroId}
use Rattle.hir_nameres.specs.HirIds.declared.ids.ModuleId.{ModuleId}
use Rattle.hir_nameres.specs.HirIds.declared.ast_id.AstKind.TheVariants as nodes
use Rattle.hir_nameres.specs.HirIds.declared.ids.AdtId.TheVariants as adts
use Rattle.hir_nameres.specs.HirIds.declared.ids.ModuleDefId.TheVariants as definitions
use Rattle.hir_nameres.specs.HirIds.declared.macro_kind.MacroId.TheVariants.{ProcMacroId}
use Rattle.hir_item_tree.specs.Collected.{Numbered as Attribute, is_enabled}
use Rattle.hir_item_tree.specs.Kinds.{item_head, item_kind}
use Rattle.hir_item_tree.specs.KeptForest.{Head, KeptItem, KeptForest, leaf, function, import, extern_crate, enumeration, constant, implementation}
use Rattle.hir_item_tree.specs.KeptForest.{outline_module, macro_call, macro_rules, macro_def, holder, extern_block, inline_module}
use Rattle.hir_item_tree.specs.UseTree.{UseTree}
use Rattle.hir_nameres.specs.HirBase.declared.shape.ExternCrateName.{ExternCrateName}
use Rattle.hir_item_tree.specs.declared.side_lists.VariantItem.{VariantItem}
use Rattle.hir_use_tree.specs.UseTree.{count_of}
use Rattle.hir_use_tree.specs.declared.imports.ImportAlias.{ImportAlias}
use Rattle.hir_nameres.specs.HirDefMapRules.State.{MacroDataValue, Map, new_id, with_declared}
use Rattle.hir_nameres.specs.HirDefMapRules.Overlay.{Maps}
use Rattle.hir_nameres.specs.HirDefMapRules.declared.declaration.Declaration.TheVariants as listings
use Rattle.hir_nameres.specs.HirMapParts.declared.diagnostics.DefDiagnostic.{DefDiagnostic}
use Rattle.hir_nameres.specs.HirMapParts.declared.derive_helpers.DeriveHelper.{DeriveHelper}
use Rattle.hir_nameres.specs.HirMapParts.declared.origin.ModuleOrigin.{ModuleOrigin}
use Rattle.hir_mod_dir.specs.Directory.{Directory}
use Rattle.hir_mod_dir.specs.ModuleFiles.{candidates_of, inline_directory}
use Rattle.hir_mod_dir.specs.declared.candidate.Candidate.{Candidate}
use Rattle.hir_nameres.specs.HirPerNs.PerNs.{macros_only}
use Rattle.hir_nameres.specs.HirPerNs.declared.visibility.Visibility.{Visibility}
use Rattle.hir_nameres.specs.HirPerNs.declared.visibility.Visibility.TheVariants as visibilities
use Rattle.hir_tables.specs.Tables.{TablesValue}
use Rattle.hir_collector_rules.specs.declared.declaration.Declaration.{Declaration}
use Rattle.hir_import_rules.specs.declared.directive.ImportDirective.{ImportDirective}
use Rattle.hir_import_rules.specs.Changes.{pushes}
use Rattle.hir_import_rules.specs.Rest.{IsClosed, IsSettled}
use Rattle.hir_import_rules.specs.Rules.{Rule as ImportRule, May as MayImport, acts as import_acts}
use Rattle.hir_collector_rules.specs.declared.exported.Export.{Export}
use Rattle.hir_collector_rules.specs.declared.exported.ExportedFunction.{ExportedFunction}
use Rattle.hir_collector_rules.specs.declared.macro_directive.Fate.TheVariants.{GivenUp, Handled}
use Rattle.hir_collector_rules.specs.declared.macro_directive.MacroDirective.{MacroDirective}
use Rattle.hir_collector_rules.specs.declared.macro_directive.MacroDirectiveKind.TheVariants.{Attr, Derive, FnLike}
use Rattle.hir_collector_rules.specs.declared.macro_directive.WaitingItem.{WaitingItem}
use Rattle.hir_collector_rules.specs.declared.site.Site.{Site}
use Rattle.hir_collector_rules.specs.declared.source_database.Key.{Key}
use Rattle.hir_collector_rules.specs.declared.source_database.Key.TheVariants as keys
use Rattle.hir_collector_rules.specs.Keys.{Environment, of_variants, look}
use Rattle.hir_collector_rules.specs.ModuleFiles.{IsNumbered, IsSearch, ModuleFile, Reading, Search, file_readings, file_tree, module_file, path_attribute}
use Rattle.hir_collector_rules.specs.ModuleFiles.{tried_in}
use Rattle.hir_collector_rules.specs.Attributes.{adt_of, attr_id, export_at, is_derive, item_node, next_attribute, paths_in, proc_macro_id}
use Rattle.hir_collector_rules.specs.Calls.{EagerLook, Expanding, IsGrown, IsNumberedCall, IsNumberedDerive, IsNumberedEager, IsTextOf, IsWaiting}
use Rattle.hir_collector_rules.specs.Calls.{LeadsNowhere, asked_first, builtin_impl}
use Rattle.hir_collector_rules.specs.Calls.{call_site, called_macro, eager_readings, error_of, expansion_readings, has_expansion, helpers_brought}
use Rattle.hir_collector_rules.specs.Calls.{inner_macro, is_call, is_inert_now, item_kept}
use Rattle.hir_collector_rules.specs.Calls.{path_of_call, text_readings, waiting_item}
use Rattle.hir_collector_rules.specs.Reports.{IsUnconfigured, IsUnresolvedModule, call_report, failed_call, invalid_target, is_unimplemented, malformed_derive}
use Rattle.hir_collector_rules.specs.Reports.{unimplemented_macro}
pub use Rattle.hir_collector_rules.specs.State.{behind, visit}
use Rattle.hir_collector_rules.specs.State.{Core, Visit, Task, visits, closes, State, eager_at, import_state, visits_over, ticked, with_bound, with_map}
use Rattle.hir_collector_rules.specs.Invocations.{derive_met, impl_noted, invocation_of}
use Rattle.hir_collector_rules.specs.ItemIds.{const_id, enum_id, impl_id, extern_block_id, extern_crate_id, function_id, macro_def_id, macro_rules_id}
use Rattle.hir_collector_rules.specs.ItemIds.{module_id, node_of, use_id}
use Rattle.hir_collector_rules.specs.Items.{declaration_of, declared_module, file_origin, inline_origin, own_visibility, type_declaration}
use Rattle.hir_collector_rules.specs.Enums.{variants_of}
use Rattle.hir_collector_rules.specs.Imports.{crate_import, imports_by}
use Rattle.hir_collector_rules.specs.Macros.{is_exported, is_macro_use, macro_declaration, macros_brought}
use Rattle.hir_collector_rules.specs.Changes.{Change, lists, makes, gives_variants, begins_paths, reaches, awaits, ends, meets_eager, settles}
use Rattle.hir_collector_rules.specs.Changes.{changes_imports, adds_textual}
use Rattle.hir_collector_rules.specs.Changes.{takes_textual, defines, describes, helps, lists_derive, notes, exports, uses_macros, tells, goes_on, perform}

-- ---- what the rules are about

-- the core with one more definition, which its module lists and binds
abbrev pub with_declaration : Core → ℕ → Declaration → Core
with_declaration c home d = with_bound (with_map c (with_declared c.map home d.def)) home d.name d.items

-- the changes that list a definition and bind it
abbrev pub declaring : ℕ → Declaration → List Change
declaring home d = lists home (listings.Def d.def) ∷ changes_imports (pushes home (Some d.name) d.items None) ∷ []

-- what an enum declares
abbrev pub enum_declaration : Map → Site → Head → List ℕ → Visibility → Declaration
enum_declaration m s head name vis = type_declaration name (definitions.AdtId (adts.EnumId (enum_id m s head.id))) vis

-- what the next module of a map declares
abbrev pub module_declaration : Map → List ℕ → Visibility → Declaration
module_declaration m name vis = record { name = name; def = definitions.ModuleId (new_id m); items = declared_module m vis }

-- where the items of the next module of a map are written, if that is where it is declared
abbrev pub inside_module : Map → Site → Directory → Site
inside_module m s dir = record { home = length m.modules; tree = s.tree; file = s.file; extern_block = None; dir = dir; level = s.level }

-- and if it is a file of its own
abbrev pub inside_file : Map → ModuleFile → Site
inside_file m f = record { home = length m.modules; tree = file_tree m.crate_data.edition f.id; file = Some f.id; extern_block = None; dir = f.dir; level = 0 }

-- where the items of an extern block are written
abbrev pub inside_block : Map → Site → Head → Site
inside_block m s head = record { home = s.home; tree = s.tree; file = s.file; extern_block = Some (extern_block_id m s head.id); dir = s.dir; level = s.level }

-- the `path` attribute of an item
abbrev pub path_of : Head → Option (List ℕ)
path_of head = path_attribute head.attributes.attributes

-- a module marked `macro_use` is closed behind its items
abbrev pub closing : Bool → (parent child : ℕ) → List Task
closing marked parent child = cond marked (closes parent child ∷ []) []

-- the items of the next module of a map that is written where it is declared; none where it is too deep
abbrev pub visits_inside : Map → Site → Head → Option Directory → KeptForest → List Task
visits_inside m s head None items = []
visits_inside m s head (Some dir) items = visits_over (inside_module m s dir) items ++ closing (is_macro_use head.attributes) s.home (length m.modules)

-- and if they are those of a file, which may be marked as well
abbrev pub visits_in_file : Map → Site → Head → ModuleFile → List Task
visits_in_file m s head f =
    visits_over (inside_file m f) f.tree.items ++ closing (is_macro_use head.attributes || is_macro_use f.tree.attributes) s.home (length m.modules)

-- ---- what waits

-- a path of a `derive` attribute on the node of a struct, enum or union
abbrev pub derive_at : Site → AstId → AttrId → AdtId → ℕ → Path → MacroDirective
derive_at site node attr adt index path = record { site = site; ast_id = node; kind = Derive path attr index adt }

-- its paths, of which the first has this place
abbrev pub derives_from : Site → AstId → AttrId → AdtId → ℕ → List Path → List MacroDirective
derives_from site node attr adt index [] = []
derives_from site node attr adt index (path ∷ paths) = derive_at site node attr adt index path ∷ derives_from site node attr adt (count_of (index + 1)) paths

-- an attribute on the node of an item, which waits
abbrev pub attribute_at : Site → AstId → AttrId → Path → WaitingItem → MacroDirective
attribute_at site node attr path k = record { site = site; ast_id = node; kind = Attr path attr k }

-- where an item goes on that waited for an attribute: one level deeper, at most as deep as is counted
abbrev pub site_behind : Site → Site
site_behind s = record { home = s.home; tree = s.tree; file = s.file; extern_block = s.extern_block; dir = s.dir; level = count_of (s.level + 1) }

-- that item, the attribute for which it waited done with
abbrev pub visit_behind : MacroDirective → WaitingItem → KeptItem → Visit
visit_behind d k i = record { site = site_behind d.site; item = i; done = k.done }

-- ---- the rules

-- a rule, what it is about, and what it reads; `rest` is what stays to be done
pub data Rule : Type 0 where
  -- the next item is disabled, and is dropped with all in it
  drops_item : (v : Visit) (report : DefDiagnostic) (rest : List Task) → Rule
  -- the next item binds its name
  declares_item : (v : Visit) (d : Declaration) (rest : List Task) → Rule
  -- the next item is an enum, whose variants are asked for
  declares_enum : (site : Site) (head : Head) (name : List ℕ) (found : Option (List VariantItem)) (rest : List Task) → Rule
  -- the next item is a constant without a name
  lists_constant : (site : Site) (head : Head) (rest : List Task) → Rule
  -- the next item is an impl
  lists_impl : (site : Site) (head : Head) (of_trait : Bool) (rest : List Task) → Rule
  -- the next item is a module that is written where it is declared, and its items are visited next, unless it is too deep
  opens_module : (site : Site) (head : Head) (name : List ℕ) (items : KeptForest) (rest : List Task) → Rule
  -- the next item is a module whose items are in this file, and these are visited next
  opens_file : (site : Site) (head : Head) (name : List ℕ) (search : Search) (file : ModuleFile) (rest : List Task) → Rule
  -- the next item is a module whose file is disabled at its top, and no module is made
  drops_file : (site : Site) (head : Head) (name : List ℕ) (search : Search) (report : DefDiagnostic) (rest : List Task) → Rule
  -- the next item is a module whose file isn't found, or which is too deep, and it has no items
  misses_file : (site : Site) (head : Head) (name : List ℕ) (search : Search) (report : DefDiagnostic) (rest : List Task) → Rule
  -- the next item is an extern block, and its items are visited next, in the same module
  enters_block : (site : Site) (head : Head) (items : KeptForest) (rest : List Task) → Rule
  -- the next item is a `use`
  reaches_imports : (site : Site) (head : Head) (tree : UseTree) (rest : List Task) → Rule
  -- the next item is an `extern crate`
  reaches_crate : (site : Site) (head : Head) (name : ExternCrateName) (alias : Option ImportAlias) (rest : List Task) → Rule
  -- the next item is a `macro_rules`, which is in textual scope behind it
  defines_rules : (site : Site) (head : Head) (name : List ℕ) (expander : MacroExpander) (helpers : List (List ℕ)) (rest : List Task) → Rule
  -- the next item is a `macro`, which binds its name
  defines_macro : (site : Site) (head : Head) (name : List ℕ) (expander : MacroExpander) (helpers : List (List ℕ)) (rest : List Task) → Rule
  -- the items of a module marked `macro_use` were visited
  closes_module : (parent child : ℕ) (rest : List Task) → Rule
  -- an attribute of the next item is looked up, and the item waits
  awaits_attribute : (v : Visit) (a : Attribute) (k : WaitingItem) (rest : List Task) → Rule
  -- the next item has a `derive`, each of whose paths waits, and goes on behind it; the call of the `derive` itself has this number
  lists_derives : (v : Visit) (at : ℕ) (a : Attribute) (adt : AdtId) (paths : List Path) (call : MacroCallId) (rest : List Task) → Rule
  -- the next item has a `derive` that is reported, and goes on behind it
  faults_derive : (v : Visit) (at : ℕ) (report : DefDiagnostic) (rest : List Task) → Rule
  -- the next item is a function that exports a macro
  exports_macro : (site : Site) (head : Head) (name : List ℕ) (d : Declaration) (e : Export) (rest : List Task) → Rule
  -- the next item is a macro call, which waits
  reaches_call : (site : Site) (head : Head) (path : Path) (rest : List Task) → Rule
  -- nothing is left to do but to expand calls, and those that were come upon since imports rested last may be expanded now
  rests : Rule
  -- the call, path of a derive or attribute at the place reaches a macro: the items to which it expands are visited next
  expands_call : (i : ℕ) (d : MacroDirective) (makro : MacroId) (x : Expanding) → Rule
  -- the call, path of a derive or attribute at the place reaches an eager macro that asks for a path first which reaches nothing: it goes on waiting
  meets_macro : (i : ℕ) (d : MacroDirective) (makro : MacroId) (x : EagerLook) → Rule
  -- the call at the place is deeper than calls may be, and is dropped
  drops_call : (i : ℕ) (d : MacroDirective) → Rule
  -- the path of a derive or the attribute at the place reaches a macro, is deeper than calls may be, and is dropped
  drops_reached : (i : ℕ) (d : MacroDirective) (makro : MacroId) → Rule
  -- the path of a derive at the place reaches a builtin macro, which stands for an impl
  derives_builtin : (i : ℕ) (d : MacroDirective) (makro : MacroId) (imp : BuiltinDeriveImplId) → Rule
  -- the attribute at the place is inert by now, or builtin: its item goes on behind it
  skips_attribute : (i : ℕ) (d : MacroDirective) (k : WaitingItem) (item : KeptItem) → Rule
  -- nothing that waits reaches anything: the first attribute that waits is given up, and its item goes on behind it
  falls_back : (i : ℕ) (d : MacroDirective) (k : WaitingItem) (item : KeptItem) → Rule
  -- an import is taken, or a name goes along a glob
  resolves_imports : (rule : ImportRule) → Rule

-- ---- when a rule may be applied

-- this is the next item, and it is disabled, which is reported
pub record IsOff (s : State) (v : Visit) (report : DefDiagnostic) (rest : List Task) : Type 0 where
  pub next : s.agenda ≡ visits v ∷ rest
  pub condition : Cfg
  pub disabled : (item_head v.item).attributes.disabled ≡ Some condition
  pub reported : IsUnconfigured (module_id s.core.map v.site.home) (node_of v.site.tree (item_kind v.item) (item_head v.item).id) condition s.core.options
      report

-- this is the next item, it isn't disabled, and so many of its attributes are done with
pub record IsOn (s : State) (v : Visit) (rest : List Task) : Type 0 where
  pub next : s.agenda ≡ visits v ∷ rest
  pub enabled : is_enabled (item_head v.item).attributes ≡ true

-- an attribute of it is next, at this place
pub record HasAttribute (s : State) (v : Visit) (at : ℕ) (a : Attribute) (rest : List Task) : Type 0 where
  pub on : IsOn s v rest
  pub active : next_attribute s.core.map v.site v.item v.done ≡ Some (at, a)

-- this is the next item, it isn't disabled, and nothing is to be looked up for an attribute of it any more
pub record IsNext (s : State) (v : Visit) (rest : List Task) : Type 0 where
  pub done : ℕ
  pub next : s.agenda ≡ visits (behind v done) ∷ rest
  pub enabled : is_enabled (item_head v.item).attributes ≡ true
  pub passed : next_attribute s.core.map v.site v.item done ≡ None

-- its attribute waits, which isn't a `derive`; what is kept of the item is the item
pub record Awaits (s : State) (v : Visit) (a : Attribute) (k : WaitingItem) (rest : List Task) : Type 0 where
  pub at : ℕ
  pub has : HasAttribute s v at a rest
  pub looked_up : is_derive a ≡ false
  pub behind_it : k.done ≡ suc at
  pub kept : item_kept k ≡ Some v.item

-- its attribute is a `derive` on a struct, enum or union, with these paths
pub record ListsDerives (s : State) (v : Visit) (at : ℕ) (a : Attribute) (adt : AdtId) (paths : List Path) (rest : List Task) : Type 0 where
  pub has : HasAttribute s v at a rest
  pub derives : is_derive a ≡ true
  pub target : adt_of s.core.map v.site v.item ≡ Some adt
  pub lists : paths_in a.meta.input ≡ Some paths

-- it is one on something else, or one without paths, which is reported
pub data IsFaulty (s : State) (v : Visit) (a : Attribute) (report : DefDiagnostic) : Type 0 where
  no_target : adt_of s.core.map v.site v.item ≡ None → report ≡ invalid_target (module_id s.core.map v.site.home) (item_node v.site v.item) (attr_id a)
      → IsFaulty s v a report
  no_paths : (adt : AdtId) → adt_of s.core.map v.site v.item ≡ Some adt → paths_in a.meta.input ≡ None
      → report ≡ malformed_derive (module_id s.core.map v.site.home) (item_node v.site v.item) (attr_id a) → IsFaulty s v a report

pub record FaultsDerive (s : State) (v : Visit) (at : ℕ) (report : DefDiagnostic) (rest : List Task) : Type 0 where
  pub attribute : Attribute
  pub has : HasAttribute s v at attribute rest
  pub derives : is_derive attribute ≡ true
  pub faulty : IsFaulty s v attribute report

-- or this is what it declares, where it exports no macro
pub record Declares (finished : Maps) (s : State) (v : Visit) (d : Declaration) (rest : List Task) : Type 0 where
  pub here : IsNext s v rest
  pub declares : declaration_of finished s.core.local s.core.map v ≡ Some d
  pub exports_none : export_at s.core.is_proc_macro s.core.map v.site v.item ≡ None

-- or it is a function that declares this and exports that
pub record Exports (finished : Maps) (s : State) (site : Site) (head : Head) (name : List ℕ) (d : Declaration) (e : Export) (rest : List Task) : Type 0 where
  pub here : IsNext s (visit site (leaf head (function name))) rest
  pub declares : declaration_of finished s.core.local s.core.map (visit site (leaf head (function name))) ≡ Some d
  pub exports : export_at s.core.is_proc_macro s.core.map site (leaf head (function name)) ≡ Some e

-- or its file is looked for so
pub record LooksFor (s : State) (site : Site) (head : Head) (name : List ℕ) (search : Search) (rest : List Task) : Type 0 where
  pub here : IsNext s (visit site (leaf head (outline_module name))) rest
  pub tries : IsSearch (candidates_of site.dir name (path_of head)) search

pub record Opens (s : State) (site : Site) (head : Head) (name : List ℕ) (search : Search) (file : ModuleFile) (rest : List Task) : Type 0 where
  pub looks : LooksFor s site head name search rest
  pub found : module_file search.found ≡ Some file
  pub enabled : is_enabled file.tree.attributes ≡ true

pub record Drops (s : State) (site : Site) (head : Head) (name : List ℕ) (search : Search) (report : DefDiagnostic) (rest : List Task) : Type 0 where
  pub looks : LooksFor s site head name search rest
  pub file : ModuleFile
  pub found : module_file search.found ≡ Some file
  pub condition : Cfg
  pub disabled : file.tree.attributes.disabled ≡ Some condition
  pub reported : IsUnconfigured (module_id s.core.map site.home) (node_of site.tree nodes.Module head.id) condition s.core.options report

pub record Misses (s : State) (site : Site) (head : Head) (name : List ℕ) (search : Search) (report : DefDiagnostic) (rest : List Task) : Type 0 where
  pub looks : LooksFor s site head name search rest
  pub missing : module_file search.found ≡ None
  pub reported : IsUnresolvedModule (module_id s.core.map site.home) (node_of site.tree nodes.Module head.id)
      (list_map (λ (c : Candidate). c.text) (candidates_of site.dir name (path_of head))) report

-- nothing is to be done but to expand calls: nothing is to be visited, what each import reaches it was taken for, and no name is left to go along a glob
pub record IsQuiet (finished : Maps) (s : State) : Type 0 where
  pub visited : s.agenda ≡ []
  pub settled : (i : ℕ) → IsSettled finished (import_state s) i
  pub closed : IsClosed finished (import_state s)

-- and there are calls that were come upon since imports rested last
pub record MayRest (finished : Maps) (s : State) : Type 0 where
  pub quiet : IsQuiet finished s
  pub more : ¬ (s.core.settled ≡ length s.core.calls)

-- the call at the place waits, and was there when imports rested last
pub record IsDue (s : State) (i : ℕ) (d : MacroDirective) : Type 0 where
  pub visited : s.agenda ≡ []
  pub waiting : IsWaiting s i d
  pub settled : i < s.core.settled

-- it is active, and reaches a macro that has an expansion
pub record CallsMacro (finished : Maps) (s : State) (i : ℕ) (d : MacroDirective) (makro : MacroId) : Type 0 where
  pub due : IsDue s i d
  pub active : is_inert_now s.core.map d ≡ false
  pub reaches : called_macro finished s.core.local s.core.map d ≡ Some makro
  pub expands : has_expansion d makro ≡ true

-- and isn't deeper than calls may be; this is the macro's text, and what the macro asks for first reaches macros
pub record Expands (finished : Maps) (s : State) (i : ℕ) (d : MacroDirective) (makro : MacroId) (x : Expanding) : Type 0 where
  pub called : CallsMacro finished s i d makro
  pub shallow : d.site.level < s.core.map.crate_data.recursion_limit
  pub text : IsTextOf finished s.core.map makro x.text
  pub first : IsGrown finished s.core.local s.core.map d.site.home makro x.there x.grown

-- or the macro asks for a path first that reaches none
pub record MeetsEager (finished : Maps) (s : State) (i : ℕ) (d : MacroDirective) (makro : MacroId) (x : EagerLook) : Type 0 where
  pub called : CallsMacro finished s i d makro
  pub shallow : d.site.level < s.core.map.crate_data.recursion_limit
  pub text : IsTextOf finished s.core.map makro x.text
  pub path : Path
  pub asked : Contains (asked_first makro x.there) path
  pub missing : inner_macro finished s.core.local s.core.map d.site.home path ≡ None

-- a call that is too deep
pub record IsDeep (s : State) (i : ℕ) (d : MacroDirective) : Type 0 where
  pub due : IsDue s i d
  pub is_call : is_call d ≡ true
  pub deep : s.core.map.crate_data.recursion_limit ≤ d.site.level

-- a path of a derive, or an attribute, that reaches a macro and is too deep
pub record IsReachedDeep (finished : Maps) (s : State) (i : ℕ) (d : MacroDirective) (makro : MacroId) : Type 0 where
  pub called : CallsMacro finished s i d makro
  pub no_call : is_call d ≡ false
  pub deep : s.core.map.crate_data.recursion_limit ≤ d.site.level

-- a path of a derive that reaches a builtin macro
pub record DerivesBuiltin (finished : Maps) (s : State) (i : ℕ) (d : MacroDirective) (makro : MacroId) (imp : BuiltinDeriveImplId) : Type 0 where
  pub due : IsDue s i d
  pub reaches : called_macro finished s.core.local s.core.map d ≡ Some makro
  pub builtin : has_expansion d makro ≡ false
  pub is : builtin_impl makro d.kind ≡ Some imp

-- nothing is to be looked up for an attribute that waited: it is inert by now, or reaches a builtin macro
pub data IsPassedOver (finished : Maps) (s : State) (d : MacroDirective) : Type 0 where
  by_helper : is_inert_now s.core.map d ≡ true → IsPassedOver finished s d
  by_builtin : (makro : MacroId) → called_macro finished s.core.local s.core.map d ≡ Some makro → has_expansion d makro ≡ false → IsPassedOver finished s d

-- the item that waits for the attribute at the place
pub record IsItemOf (d : MacroDirective) (k : WaitingItem) (item : KeptItem) : Type 0 where
  pub waits : waiting_item d ≡ Some k
  pub kept : item_kept k ≡ Some item

pub record Skips (finished : Maps) (s : State) (i : ℕ) (d : MacroDirective) (k : WaitingItem) (item : KeptItem) : Type 0 where
  pub due : IsDue s i d
  pub of : IsItemOf d k item
  pub passed : IsPassedOver finished s d

-- the first attribute that waits, where no import, call, path of a derive or attribute reaches anything
pub record FallsBack (finished : Maps) (s : State) (i : ℕ) (d : MacroDirective) (k : WaitingItem) (item : KeptItem) : Type 0 where
  pub waiting : IsWaiting s i d
  pub of : IsItemOf d k item
  pub quiet : IsQuiet finished s
  pub nowhere : (j : ℕ) → LeadsNowhere finished s j
  pub first : (j : ℕ) (e : MacroDirective) (other : WaitingItem) → IsWaiting s j e → waiting_item e ≡ Some other → i ≤ j

abbrev pub May : Maps → State → Rule → Type 0
May finished s (drops_item v report rest) = IsOff s v report rest
May finished s (declares_item v d rest) = Declares finished s v d rest
May finished s (declares_enum site head name found rest) = IsNext s (visit site (leaf head (enumeration name))) rest
May finished s (lists_constant site head rest) = IsNext s (visit site (leaf head (constant None))) rest
May finished s (lists_impl site head of_trait rest) = IsNext s (visit site (leaf head (implementation of_trait))) rest
May finished s (opens_module site head name items rest) = IsNext s (visit site (holder head (inline_module name) items)) rest
May finished s (opens_file site head name search file rest) = Opens s site head name search file rest
May finished s (drops_file site head name search report rest) = Drops s site head name search report rest
May finished s (misses_file site head name search report rest) = Misses s site head name search report rest
May finished s (enters_block site head items rest) = IsNext s (visit site (holder head extern_block items)) rest
May finished s (reaches_imports site head tree rest) = IsNext s (visit site (leaf head (import tree))) rest
May finished s (reaches_crate site head name alias rest) = IsNext s (visit site (leaf head (extern_crate name alias))) rest
May finished s (defines_rules site head name expander helpers rest) = IsNext s (visit site (leaf head (macro_rules name expander helpers))) rest
May finished s (defines_macro site head name expander helpers rest) = IsNext s (visit site (leaf head (macro_def name expander helpers))) rest
May finished s (closes_module parent child rest) = s.agenda ≡ closes parent child ∷ rest
May finished s (awaits_attribute v a k rest) = Awaits s v a k rest
May finished s (lists_derives v at a adt paths call rest) = ListsDerives s v at a adt paths rest
May finished s (faults_derive v at report rest) = FaultsDerive s v at report rest
May finished s (exports_macro site head name d e rest) = Exports finished s site head name d e rest
May finished s (reaches_call site head path rest) = IsNext s (visit site (leaf head (macro_call path))) rest
May finished s rests = MayRest finished s
May finished s (expands_call i d makro x) = Expands finished s i d makro x
May finished s (meets_macro i d makro x) = MeetsEager finished s i d makro x
May finished s (drops_call i d) = IsDeep s i d
May finished s (drops_reached i d makro) = IsReachedDeep finished s i d makro
May finished s (derives_builtin i d makro imp) = DerivesBuiltin finished s i d makro imp
May finished s (skips_attribute i d k item) = Skips finished s i d k item
May finished s (falls_back i d k item) = FallsBack finished s i d k item
May finished s (resolves_imports rule) = MayImport finished (import_state s) rule

-- ---- what it reads

-- the files that a search looks at
abbrev pub search_readings : Map → Search → List Reading
search_readings m search = file_readings m.id.krate m.crate_data.edition (tried_in search)

abbrev pub reads : State → Rule → List Reading
reads s (drops_item v report rest) = []
reads s (declares_item v d rest) = []
reads s (declares_enum site head name found rest) = record { key = keys.Variants (enum_id s.core.map site head.id); there = of_variants found } ∷ []
reads s (lists_constant site head rest) = []
reads s (lists_impl site head of_trait rest) = []
reads s (opens_module site head name items rest) = []
reads s (opens_file site head name search file rest) = search_readings s.core.map search
reads s (drops_file site head name search report rest) = search_readings s.core.map search
reads s (misses_file site head name search report rest) = search_readings s.core.map search
reads s (enters_block site head items rest) = []
reads s (reaches_imports site head tree rest) = []
reads s (reaches_crate site head name alias rest) = []
reads s (defines_rules site head name expander helpers rest) = []
reads s (defines_macro site head name expander helpers rest) = []
reads s (closes_module parent child rest) = []
reads s (awaits_attribute v a k rest) = []
reads s (lists_derives v at a adt paths call rest) = []
reads s (faults_derive v at report rest) = []
reads s (exports_macro site head name d e rest) = []
reads s (reaches_call site head path rest) = []
reads s rests = []
reads s (expands_call i d makro x) = text_readings makro x.text ++ expansion_readings s.core.map.id.krate d x
reads s (meets_macro i d makro x) = eager_readings s.core.map.id.krate d makro x
reads s (drops_call i d) = []
reads s (drops_reached i d makro) = []
reads s (derives_builtin i d makro imp) = []
reads s (skips_attribute i d k item) = []
reads s (falls_back i d k item) = []
reads s (resolves_imports rule) = []

-- the numbers of files, expansions and calls that a rule speaks of mean what they are taken for
abbrev pub Numbered : TablesValue → State → Rule → Type 0
Numbered tables s (opens_file site head name search file rest) = IsNumbered tables site.file search
Numbered tables s (drops_file site head name search report rest) = IsNumbered tables site.file search
Numbered tables s (misses_file site head name search report rest) = IsNumbered tables site.file search
Numbered tables s (drops_item v report rest) = Unit {0}
Numbered tables s (declares_item v d rest) = Unit {0}
Numbered tables s (declares_enum site head name found rest) = Unit {0}
Numbered tables s (lists_constant site head rest) = Unit {0}
Numbered tables s (lists_impl site head of_trait rest) = Unit {0}
Numbered tables s (opens_module site head name items rest) = Unit {0}
Numbered tables s (enters_block site head items rest) = Unit {0}
Numbered tables s (reaches_imports site head tree rest) = Unit {0}
Numbered tables s (reaches_crate site head name alias rest) = Unit {0}
Numbered tables s (defines_rules site head name expander helpers rest) = Unit {0}
Numbered tables s (defines_macro site head name expander helpers rest) = Unit {0}
Numbered tables s (closes_module parent child rest) = Unit {0}
Numbered tables s (awaits_attribute v a k rest) = Unit {0}
Numbered tables s (lists_derives v at a adt paths call rest) = IsNumberedDerive tables s.core.map.id.krate (item_node v.site v.item) (attr_id a) call
Numbered tables s (faults_derive v at report rest) = Unit {0}
Numbered tables s (exports_macro site head name d e rest) = Unit {0}
Numbered tables s (reaches_call site head path rest) = Unit {0}
Numbered tables s rests = Unit {0}
Numbered tables s (expands_call i d makro x) = IsNumberedCall tables s.core.map.id.krate d makro x
Numbered tables s (meets_macro i d makro x) = IsNumberedEager tables s.core.map.id.krate d makro x
Numbered tables s (drops_call i d) = Unit {0}
Numbered tables s (drops_reached i d makro) = Unit {0}
Numbered tables s (derives_builtin i d makro imp) = Unit {0}
Numbered tables s (skips_attribute i d k item) = Unit {0}
Numbered tables s (falls_back i d k item) = Unit {0}
Numbered tables s (resolves_imports rule) = Unit {0}

-- ---- what it changes

-- the changes that make a module, list and bind it, where these are done next; it begins with the macros in textual scope around it
abbrev pub making : Maps → State → Site → Head → List ℕ → ModuleOrigin → List Task → List Change
making finished s site head name origin next =
    let vis : Visibility = own_visibility finished s.core.local s.core.map site head in
    makes site.home name origin vis ∷ takes_textual (length s.core.map.modules) site.home ∷ goes_on next ∷ declaring site.home
    (module_declaration s.core.map name vis)

-- the changes that bind a macro at the root of the map too, if it is exported
abbrev pub exporting : Head → List ℕ → MacroId → List Change
exporting head name makro =
    cond (is_exported head.attributes) (changes_imports (pushes 0 (Some name) (macros_only makro visibilities.Public None) None) ∷ []) []

-- the changes that report a macro that a node in a module defines and nothing can expand
abbrev pub reporting : ModuleId → AstId → MacroExpander → List Change
reporting at node expander = cond (is_unimplemented expander) (tells (unimplemented_macro at node) ∷ []) []

-- a call that is written at a site
abbrev pub call_at : Site → Head → Path → MacroDirective
call_at site head path = record { site = site; ast_id = node_of site.tree nodes.MacroCall head.id; kind = FnLike path }

-- the changes that report a call that didn't expand, or not well
abbrev pub failing : ModuleId → MacroDirective → Option (List ℕ) → List Change
failing at d None = []
failing at d (Some error) = tells (failed_call at d.ast_id (path_of_call d) error) ∷ []

-- the changes that bring helpers into scope on the node of a derive
abbrev pub bringing : AstId → List DeriveHelper → List Change
bringing node helpers = list_map (helps node) helpers

-- what is kept of a macro that an item defines
abbrev pub macro_data_of : List ℕ → List (List ℕ) → MacroDataValue
macro_data_of name helpers = record { name = name; helpers = helpers }

-- a function of a site that exports a macro
abbrev pub exported_function : Map → Site → Head → List ℕ → ExportedFunction
exported_function m site head name = record { name = name; id = function_id m site head.id }

abbrev pub acts : Maps → State → Rule → List Change
acts finished s (drops_item v report rest) = goes_on rest ∷ tells report ∷ []
acts finished s (declares_item v d rest) = goes_on rest ∷ declaring v.site.home d
acts finished s (declares_enum site head name found rest) =
    let id : EnumId = enum_id s.core.map site head.id in
    goes_on rest ∷ gives_variants id (variants_of id found)
    ∷ declaring site.home (enum_declaration s.core.map site head name (own_visibility finished s.core.local s.core.map site head))
acts finished s (lists_constant site head rest) = goes_on rest ∷ lists site.home (listings.UnnamedConst (const_id s.core.map site head.id)) ∷ []
acts finished s (lists_impl site head of_trait rest) = goes_on rest ∷ lists site.home (listings.Impl (impl_id s.core.map site head.id) of_trait) ∷ []
acts finished s (opens_module site head name items rest) =
    making finished s site head name (inline_origin site.tree head.id)
    (visits_inside s.core.map site head (inline_directory site.dir name (path_of head)) items ++ rest)
acts finished s (opens_file site head name search file rest) =
    making finished s site head name (file_origin site.tree head.id s.core.map.crate_data.edition file)
    (visits_in_file s.core.map site head file ++ rest)
acts finished s (drops_file site head name search report rest) = goes_on rest ∷ tells report ∷ []
acts finished s (misses_file site head name search report rest) =
    making finished s site head name (inline_origin site.tree head.id) rest ++ tells report ∷ []
acts finished s (enters_block site head items rest) =
    goes_on (visits_over (inside_block s.core.map site head) items ++ rest) ∷ lists site.home (listings.ExternBlock (extern_block_id s.core.map site head.id)) ∷
    []
acts finished s (reaches_imports site head tree rest) =
    goes_on rest ∷ reaches (imports_by s.core.map site head tree) ∷ lists site.home (listings.Use (use_id s.core.map site head.id)) ∷ []
acts finished s (reaches_crate site head name alias rest) =
    let r : ImportDirective = crate_import s.core.map s.core.dependencies site head name alias in
    let id : ExternCrateId = extern_crate_id s.core.map site head.id in
    goes_on rest ∷ begins_paths r ∷ uses_macros (macros_brought finished s.core.map s.core.dependencies head name) (Some id) ∷ reaches (r ∷ []) ∷ lists
    site.home (listings.ExternCrate id) ∷ []
acts finished s (defines_rules site head name expander helpers rest) =
    let makro : MacroId = macro_rules_id s.core.map site head.id expander in
    let node : AstId = node_of site.tree nodes.MacroRules head.id in
    goes_on rest ∷ defines node makro ∷ describes makro (macro_data_of name helpers) ∷ adds_textual site.home name makro ∷ exporting head name makro ++
    reporting (module_id s.core.map site.home) node expander
acts finished s (defines_macro site head name expander helpers rest) =
    let makro : MacroId = macro_def_id s.core.map site head.id expander in
    let node : AstId = node_of site.tree nodes.MacroDef head.id in
    goes_on rest ∷ defines node makro ∷ describes makro (macro_data_of name helpers)
    ∷ declaring site.home (macro_declaration name makro (own_visibility finished s.core.local s.core.map site head)) ++ reporting
    (module_id s.core.map site.home) node expander
acts finished s (closes_module parent child rest) = goes_on rest ∷ takes_textual parent child ∷ []
acts finished s (awaits_attribute v a k rest) = goes_on rest ∷ awaits (attribute_at v.site (item_node v.site v.item) (attr_id a) a.meta.path k ∷ []) ∷ []
acts finished s (lists_derives v at a adt paths call rest) =
    let node : AstId = item_node v.site v.item in
    goes_on (visits (behind v (suc at)) ∷ rest) ∷ awaits (derives_from v.site node (attr_id a) adt 0 paths) ∷ notes v.site.home
    (derive_met node (attr_id a) call paths) ∷ []
acts finished s (faults_derive v at report rest) = goes_on (visits (behind v (suc at)) ∷ rest) ∷ tells report ∷ []
acts finished s (exports_macro site head name d e rest) =
    let makro = proc_macro_id s.core.map site head.id e.style in
    goes_on rest ∷ exports (exported_function s.core.map site head name) makro ∷ describes (ProcMacroId makro) e.what
    ∷ declaring site.home d ++ declaring site.home (macro_declaration e.what.name (ProcMacroId makro) visibilities.Public)
acts finished s (reaches_call site head path rest) = goes_on rest ∷ awaits (call_at site head path ∷ []) ∷ []
acts finished s rests = settles ∷ []
acts finished s (expands_call i d makro x) =
    ends i Handled ∷ goes_on (visits_over (call_site d x.id) x.tree.tree.items) ∷ notes d.site.home (invocation_of d x.id)
    ∷ bringing d.ast_id (helpers_brought finished s.core.map d makro (Some (either.Left x.id))) ++ failing (module_id s.core.map d.site.home) d
    (error_of x.there)
acts finished s (meets_macro i d makro x) = meets_eager i (record { makro = makro; inner = asked_first makro x.there }) ∷ []
acts finished s (drops_call i d) = ends i Handled ∷ []
acts finished s (drops_reached i d makro) = ends i Handled ∷ bringing d.ast_id (helpers_brought finished s.core.map d makro None)
acts finished s (derives_builtin i d makro imp) =
    ends i Handled ∷ lists_derive d.site.home imp ∷ notes d.site.home (impl_noted d.ast_id imp)
    ∷ bringing d.ast_id (helpers_brought finished s.core.map d makro (Some (either.Right imp)))
acts finished s (skips_attribute i d k item) = ends i Handled ∷ goes_on (visits (visit_behind d k item) ∷ []) ∷ []
acts finished s (falls_back i d k item) =
    ends i GivenUp ∷ tells (call_report finished s.core.local s.core.map d (eager_at s.core i)) ∷ goes_on (visits (visit_behind d k item) ∷ []) ∷ []
acts finished s (resolves_imports rule) = list_map changes_imports (import_acts finished (import_state s) rule)

-- ---- the same for all rules

-- the keys of what is read
abbrev pub keys_read : List Reading → List Key
keys_read readings = list_map (λ (r : Reading). r.key) readings

-- that is what is there, beside finished maps
abbrev pub Sees : Environment → Maps → List Reading → Type 0
Sees env finished [] = Unit {0}
Sees env finished (r ∷ rs) = (look env.tables env.workspace finished r.key ≡ r.there) × Sees env finished rs

-- keys and others, one after another
abbrev pub with_keys : List Key → List Key → List Key
with_keys asked [] = asked
with_keys asked (key ∷ others) = with_keys (asked ++ key ∷ []) others

-- the state with what the rule reads asked for
abbrev pub asking : State → Rule → State
asking s r = record s { core = record s.core { asked = with_keys s.core.asked (keys_read (reads s r)) } }

-- the state once the rule is applied
abbrev pub after : Maps → State → Rule → State
after finished s r = ticked (perform (asking s r) (acts finished s r))

-- one step, beside finished maps
pub record Step (env : Environment) (finished : Maps) (old new : State) : Type 0 where
  pub rule : Rule
  pub may : May finished old rule
  pub sees : Sees env finished (reads old rule)
  pub numbered : Numbered env.tables old rule
  pub is : new ≡ after finished old rule

-- steps one after another
pub data Steps (env : Environment) (finished : Maps) (from : State) : State → Type 0 where
  none : Steps env finished from from
  more : (old new : State) → Steps env finished from old → Step env finished old new → Steps env finished from new
