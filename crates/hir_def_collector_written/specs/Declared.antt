-- Which item declares what a name stands for that no import brought?
use Rattle.std.specs.Prelude.{◌≡◌, ℕ, zero, suc, Bool, true, false, List, Option, None, Some, Contains}
use Rattle.hir_collector_rules.specs.HirIds.declared.macro_kind.MacroExpander.{MacroExpander}
use Rattle.hir_collector_rules.specs.HirIds.declared.macro_kind.MacroId.{MacroId}
use Rattle.hir_collector_rules.specs.HirIds.declared.ids.ModuleDefId.{ModuleDefId}
use Rattle.hir_collector_rules.specs.HirIds.declared.ids.ModuleDefId.TheVariants as definitions
use Rattle.hir_collector_rules.specs.HirIds.declared.macro_kind.MacroId.TheVariants.{ProcMacroId}
use Rattle.hir_collector_rules.specs.HirItemTree.Collected.{is_enabled}
use Rattle.hir_collector_rules.specs.HirItemTree.Kinds.{item_head}
use Rattle.hir_collector_rules.specs.HirItemTree.KeptForest.{Head, Holder, KeptItem, Leaf, enumeration, extern_block}
use Rattle.hir_collector_rules.specs.HirItemTree.KeptForest.{function, holder, inline_module, leaf, macro_def}
use Rattle.hir_collector_rules.specs.HirItemTree.KeptForest.{macro_rules, outline_module}
use Rattle.hir_collector_rules.specs.HirPerNs.PerNs.{Item}
use Rattle.hir_collector_rules.specs.HirScope.Scope.Updates.{censored_item, censored_macro}
use Rattle.hir_collector_rules.specs.HirPerNs.declared.imports.ImportOrExternCrate.{ImportOrExternCrate}
use Rattle.hir_collector_rules.specs.HirPerNs.declared.imports.ImportOrGlob.{ImportOrGlob}
use Rattle.hir_collector_rules.specs.HirPerNs.declared.per_ns.PerNs.{PerNs}
use Rattle.hir_collector_rules.specs.HirPerNs.declared.visibility.Visibility.TheVariants as visibilities
use Rattle.hir_collector_rules.specs.HirTables.Tables.{TablesValue}
use Rattle.hir_collector_rules.specs.HirDefMapRules.Overlay.{Maps}
use Rattle.hir_collector_rules.specs.HirDefMapRules.State.{Local, Map, entry_at, module_at}
use Rattle.hir_collector_rules.specs.declared.declaration.Declaration.{Declaration}
use Rattle.hir_collector_rules.specs.declared.exported.Export.{Export}
use Rattle.hir_collector_rules.specs.declared.site.Site.{Site}
use Rattle.hir_collector_rules.specs.Attributes.{export_at, proc_macro_id}
use Rattle.hir_collector_rules.specs.Causes.{IsPassed, declarations_of}
use Rattle.hir_collector_rules.specs.Derivation.{CollectedValue, Ends}
use Rattle.hir_collector_rules.specs.ItemIds.{macro_def_id, macro_rules_id}
use Rattle.hir_collector_rules.specs.Items.{declared_by_leaf, own_visibility}
use Rattle.hir_collector_rules.specs.Macros.{is_exported, macro_declaration}
use Rattle.hir_collector_rules.specs.Start.{Beginning, exports_macros, krate_of, read_by}
use Rattle.hir_collector_rules.specs.State.{State}
use Rattle.hir_collector_rules.specs.Steps.{enum_declaration, module_declaration}
use Rattle.hir_collector_rules.specs.Workspace.{Workspace, crate_in}
use Rattle.hir_def_collector_laws.specs.Written.{IsWritten, key_of}

-- ---- what an item declares

-- a definition, under the written name, with the written visibility as it is seen in its module, where this is the map so far: what stands for a module is the
-- next one
abbrev pub leaf_declares : Maps → Local → Map → Site → Head → Leaf → Option Declaration
leaf_declares finished local m s h (enumeration name) = Some (enum_declaration m s h name (own_visibility finished local m s h))
leaf_declares finished local m s h (outline_module name) = Some (module_declaration m name (own_visibility finished local m s h))
leaf_declares finished local m s h (macro_def name expander helpers) =
    Some (macro_declaration name (macro_def_id m s h.id expander) (own_visibility finished local m s h))
leaf_declares finished local m s h l = declared_by_leaf finished local m s h l

abbrev pub holder_declares : Maps → Local → Map → Site → Head → Holder → Option Declaration
holder_declares finished local m s h extern_block = None
holder_declares finished local m s h (inline_module name) = Some (module_declaration m name (own_visibility finished local m s h))

abbrev pub item_declares : Maps → Local → Map → Site → KeptItem → Option Declaration
item_declares finished local m s (leaf h l) = leaf_declares finished local m s h l
item_declares finished local m s (holder h k items) = holder_declares finished local m s h k

-- an enabled item of a module, in a tree that was asked for, declared this under this name, where a run stood on its way
pub record IsDeclared (tables : TablesValue) (w : Workspace) (finished : Maps) (from : Beginning) (answer : CollectedValue) (last : State) (number : ℕ)
    (name : List ℕ) (d : Declaration) : Type 0 where
  pub site : Site
  pub home : site.home ≡ number
  pub kept : KeptItem
  pub written : IsWritten tables w answer.asked (key_of answer site.tree) kept
  pub enabled : is_enabled (item_head kept).attributes ≡ true
  pub at : State
  pub passed : IsPassed tables w finished from last at
  pub declares : item_declares (read_by w finished from.start) at.core.local at.core.map site kept ≡ Some d
  pub named : d.name ≡ name

-- ---- what a name stands for

-- such a declaration is what a name stands for in one namespace, and the module lists the definition
pub record IsListed (tables : TablesValue) (w : Workspace) (finished : Maps) (from : Beginning) (answer : CollectedValue) (last : State) (number : ℕ)
    (name : List ℕ) (def : ModuleDefId) (Binds : Declaration → Type 0) : Type 0 where
  pub declaration : Declaration
  pub declared : IsDeclared tables w finished from answer last number name declaration
  pub binds : Binds declaration
  pub listed : Contains (declarations_of (module_at answer.map number)) def

-- a type: a module, a struct, a union, an enum, a trait or an alias
abbrev pub IsOwnType : TablesValue → Workspace → Maps → Beginning → CollectedValue → State → ℕ → List ℕ → Item ModuleDefId ImportOrExternCrate → Type 0
IsOwnType tables w finished from answer last number name i = IsListed tables w finished from answer last number name i.def (λ d. d.items.types ≡ Some i)

-- a value: a function, a constant or a static, or the constructor of a struct, for those whom its fields let see it
abbrev pub IsOwnValue : TablesValue → Workspace → Maps → Beginning → CollectedValue → State → ℕ → List ℕ → Item ModuleDefId ImportOrGlob → Type 0
IsOwnValue tables w finished from answer last number name i = IsListed tables w finished from answer last number name i.def (λ d. d.items.values ≡ Some i)

-- the `macro_rules` item of any module that is marked `macro_export`: the root binds its macro for all, and doesn't list it
pub record IsExportedRules (tables : TablesValue) (w : Workspace) (answer : CollectedValue) (number : ℕ) (name : List ℕ)
    (i : Item MacroId ImportOrExternCrate) : Type 0 where
  pub at_root : number ≡ 0
  pub site : Site
  pub head : Head
  pub expander : MacroExpander
  pub helpers : List (List ℕ)
  pub written : IsWritten tables w answer.asked (key_of answer site.tree) (leaf head (macro_rules name expander helpers))
  pub enabled : is_enabled head.attributes ≡ true
  pub exported : is_exported head.attributes ≡ true
  pub is : i ≡ record { def = macro_rules_id answer.map site head.id expander; vis = visibilities.Public; import = None }

-- the function of the root of a procedural-macro crate that exports a macro: under the macro's name the root binds it for all, and lists it
pub record IsExportedFunction (tables : TablesValue) (w : Workspace) (from : Beginning) (answer : CollectedValue) (number : ℕ) (name : List ℕ)
    (i : Item MacroId ImportOrExternCrate) : Type 0 where
  pub site : Site
  pub home : site.home ≡ number
  pub head : Head
  pub own_name : List ℕ
  pub written : IsWritten tables w answer.asked (key_of answer site.tree) (leaf head (function own_name))
  pub enabled : is_enabled head.attributes ≡ true
  pub macro_of : Export
  pub exports : export_at (exports_macros from.start (crate_in w (krate_of from.start))) answer.map site (leaf head (function own_name)) ≡ Some macro_of
  pub named : macro_of.what.name ≡ name
  pub is : i ≡ record { def = ProcMacroId (proc_macro_id answer.map site head.id macro_of.style); vis = visibilities.Public; import = None }
  pub listed : Contains (declarations_of (module_at answer.map number)) (definitions.MacroId i.def)

-- a macro: that of a `macro` item, or one of those
pub data IsOwnMacro (tables : TablesValue) (w : Workspace) (finished : Maps) (from : Beginning) (answer : CollectedValue) (last : State) (number : ℕ)
    (name : List ℕ) (i : Item MacroId ImportOrExternCrate) : Type 0 where
  of_item : IsListed tables w finished from answer last number name (definitions.MacroId i.def) (λ d. d.items.macros ≡ Some i)
      → IsOwnMacro tables w finished from answer last number name i
  of_rules : IsExportedRules tables w answer number name i → IsOwnMacro tables w finished from answer last number name i
  of_function : IsExportedFunction tables w from answer number name i → IsOwnMacro tables w finished from answer last number name i

-- ---- what others see of it

-- the root of a procedural-macro crate shows what it binds censored
abbrev pub shown_at : {X : Type 0} → Bool → ℕ → (X → X) → X → X
shown_at true zero censor i = censor i
shown_at true (suc number) censor i = i
shown_at false number censor i = i

-- an item of which this holds, as its module shows it
pub record ShowsOwn {D I : Type 0} (Own : Item D I → Type 0) (show : Item D I → Item D I) (i : Item D I) : Type 0 where
  pub own : Item D I
  pub is_own : Own own
  pub shown : i ≡ show own

-- what a name of a module stands for without an import is declared by an item under that name, with the item's visibility, in a map whose root exports macros
-- or doesn't
pub record AreOwn (tables : TablesValue) (w : Workspace) (finished : Maps) (from : Beginning) (answer : CollectedValue) (last : State) (exporting : Bool)
    (number : ℕ) (name : List ℕ) (items : PerNs) : Type 0 where
  pub types : (i : Item ModuleDefId ImportOrExternCrate) → items.types ≡ Some i → i.import ≡ None
      → ShowsOwn (IsOwnType tables w finished from answer last number name) (shown_at exporting number (censored_item answer.map.id.krate)) i
  pub values : (i : Item ModuleDefId ImportOrGlob) → items.values ≡ Some i → i.import ≡ None
      → ShowsOwn (IsOwnValue tables w finished from answer last number name) (shown_at exporting number (censored_item answer.map.id.krate)) i
  pub macros : (i : Item MacroId ImportOrExternCrate) → items.macros ≡ Some i → i.import ≡ None
      → ShowsOwn (IsOwnMacro tables w finished from answer last number name) (shown_at exporting number (censored_macro answer.map.id.krate)) i

-- so it is of each name of each module of a run's map
abbrev pub BindingsAreDeclared : Type 0
BindingsAreDeclared = (tables : TablesValue) (w : Workspace) (finished : Maps) (from : Beginning) (answer : CollectedValue)
    → (ends : Ends tables w finished from answer) → (number : ℕ) (name : List ℕ)
    → AreOwn tables w finished from answer ends.last (exports_macros from.start (crate_in w (krate_of from.start))) number name
    (entry_at answer.map number name)
