-- Of what does the next step of a run speak that has no number, where none is left?
use Rattle.std.specs.Prelude.{◌≡◌, ◌<◌, ℕ, List, [], Option, Some, slice_get}
use Rattle.std.specs.List.{All}
use Rattle.hir_nameres.specs.HirBase.Locations.{max_locations}
use Rattle.hir_nameres.specs.HirBase.ModPath.{Path}
use Rattle.hir_nameres.specs.HirIds.declared.ids.AdtId.{AdtId}
use Rattle.hir_nameres.specs.HirIds.declared.ast_id.AstId.{AstId}
use Rattle.hir_nameres.specs.HirIds.declared.ast_id.AttrId.{AttrId}
use Rattle.hir_nameres.specs.HirIds.declared.ids.Crate.{Crate}
use Rattle.hir_nameres.specs.HirIds.declared.ast_id.EntryId.{EntryId}
use Rattle.hir_nameres.specs.HirBase.declared.macro_kind.MacroCallKind.{MacroCallKind}
use Rattle.hir_nameres.specs.HirIds.declared.macro_kind.MacroId.{MacroId}
use Rattle.hir_nameres.specs.HirBase.declared.macro_kind.MacroCallKind.TheVariants.{Attr}
use Rattle.hir_item_tree.specs.Collected.{Numbered as Attribute}
use Rattle.hir_item_tree.specs.KeptForest.{Head, leaf, outline_module}
use Rattle.hir_mod_dir.specs.ModuleFiles.{candidates_of}
use Rattle.hir_tables.specs.SourcePlaces.{ExpansionValue}
use Rattle.hir_tables.specs.Tables.{TablesValue, entry_at}
use Rattle.hir_nameres.specs.HirDefMapRules.Overlay.{Maps}
use Rattle.hir_nameres.specs.HirDefMapRules.State.{Local, Map}
use Rattle.hir_collector_rules.specs.declared.macro_directive.MacroDirective.{MacroDirective}
use Rattle.hir_collector_rules.specs.declared.site.Site.{Site}
use Rattle.hir_collector_rules.specs.Keys.{Environment, IsMeant, input_at, text_at}
use Rattle.hir_collector_rules.specs.State.{State, Task, Visit}
use Rattle.hir_collector_rules.specs.Attributes.{attr_id, item_node}
use Rattle.hir_collector_rules.specs.Calls.{AreReached, InnerMacro, asked_first, call_kind, call_style, called_text, derive_expansion, expansion_of_call}
use Rattle.hir_collector_rules.specs.Calls.{grown_by}
use Rattle.hir_collector_rules.specs.ModuleFiles.{IsNumberOf, IsTriedFile}
use Rattle.hir_collector_rules.specs.Steps.{CallsMacro, IsNext, ListsDerives, path_of, visit}

-- each number means something else
abbrev pub IsNumberedOut : {V : Type 0} → List V → V → Type 0
IsNumberedOut {V} values value = (number : ℕ) → number < max_locations → (other : V) × (slice_get values number ≡ Some other) × ¬ (other ≡ value)

-- the next item is a `mod` item, and this is the file of one of its candidates
pub record LacksFile (env : Environment) (s : State) : Type 0 where
  pub site : Site
  pub head : Head
  pub name : List ℕ
  pub rest : List Task
  pub here : IsNext s (visit site (leaf head (outline_module name))) rest
  -- the file in which the item, or the outermost call around it, is written
  pub declaring : Option (List ℕ)
  pub written : IsNumberOf env.tables site.file declaring
  pub path : List ℕ
  pub tried : IsTriedFile env.workspace s.core.map.id.krate declaring (candidates_of site.dir name (path_of head)) path
  pub out : IsNumberedOut env.tables.files path

-- what the expansion of a call depends on that reaches the macro
abbrev pub expansion_by : Environment → Maps → Map → MacroDirective → MacroId → ExpansionValue
expansion_by env finished m d makro =
    expansion_of_call m.id.krate (call_style d) makro (called_text finished m makro (text_at env.tables env.workspace makro))
    (input_at env.tables env.workspace m.id.krate d.ast_id)

-- the expansion has no number; or it has one, and the call has none
pub data IsCallNumberedOut (tables : TablesValue) (kind : MacroCallKind) (key : ExpansionValue) : Type 0 where
  expansion_out : IsNumberedOut tables.entries key → IsCallNumberedOut tables kind key
  call_out : (entry : EntryId) → entry_at tables entry ≡ Some key → IsNumberedOut tables.calls (record { kind = kind; entry = entry })
      → IsCallNumberedOut tables kind key

-- so it is of a call whose macro has a source with a number, and asks for nothing first; or what tells what it asks for has no number; or so it is once what the
-- macro asks for first reaches macros whose sources have numbers
pub data LacksExpansion (env : Environment) (finished : Maps) (local : Local) (m : Map) (d : MacroDirective) (makro : MacroId) : Type 0 where
  at_once : IsMeant env.tables makro → asked_first makro (env.workspace.entry (expansion_by env finished m d makro)) ≡ []
      → IsCallNumberedOut env.tables (call_kind d) (expansion_by env finished m d makro)
      → LacksExpansion env finished local m d makro
  no_entry : IsMeant env.tables makro → IsNumberedOut env.tables.entries (expansion_by env finished m d makro) → LacksExpansion env finished local m d makro
  grown : IsMeant env.tables makro → (macros : List InnerMacro)
      → AreReached finished local m d.site.home (asked_first makro (env.workspace.entry (expansion_by env finished m d makro))) macros
      → All (λ (i : InnerMacro). IsMeant env.tables i.makro) macros
      → IsCallNumberedOut env.tables (call_kind d) (grown_by macros (expansion_by env finished m d makro)) → LacksExpansion env finished local m d makro

-- a call, a path of a derive or an attribute reaches a macro that has an expansion, and isn't too deep
pub record LacksCall (env : Environment) (finished : Maps) (s : State) : Type 0 where
  pub place : ℕ
  pub call : MacroDirective
  pub makro : MacroId
  pub called : CallsMacro finished s place call makro
  pub shallow : call.site.level < s.core.map.crate_data.recursion_limit
  pub expansion : LacksExpansion env finished s.core.local s.core.map call makro

-- so it is of the call of a `derive` attribute
abbrev pub IsDeriveNumberedOut : TablesValue → Crate → AstId → AttrId → Type 0
IsDeriveNumberedOut tables own item attr = IsCallNumberedOut tables (Attr item attr) (derive_expansion own attr)

-- the next item has a `derive` with paths, whose call has none
pub record LacksDerive (env : Environment) (s : State) : Type 0 where
  pub visited : Visit
  pub place : ℕ
  pub attribute : Attribute
  pub adt : AdtId
  pub paths : List Path
  pub rest : List Task
  pub lists : ListsDerives s visited place attribute adt paths rest
  pub out : IsDeriveNumberedOut env.tables s.core.map.id.krate (item_node visited.site visited.item) (attr_id attribute)

pub data LacksNumber (env : Environment) (finished : Maps) (s : State) : Type 0 where
  lacks_file : LacksFile env s → LacksNumber env finished s
  lacks_call : LacksCall env finished s → LacksNumber env finished s
  lacks_derive : LacksDerive env s → LacksNumber env finished s
