-- What is found of a call that reaches a macro?
use Rattle.std.specs.Prelude.{◌≡◌, ◌⊎◌, IsSome, List, Some, map}
use Rattle.std.specs.List.{All}
use Rattle.hir_collector_state.specs.HirBase.ModPath.{Path}
use Rattle.hir_collector_state.specs.HirIds.declared.ast_id.EntryId.{EntryId}
use Rattle.hir_collector_state.specs.HirIds.declared.macro_kind.MacroId.{MacroId}
use Rattle.hir_collector_state.specs.HirTables.SourcePlaces.{ExpansionValue}
use Rattle.hir_collector_state.specs.HirTables.Tables.{TablesValue, call_at, entry_at}
use Rattle.hir_collector_state.specs.HirDefMapRules.Overlay.{Maps}
use Rattle.hir_collector_state.specs.HirCollectorRules.CallMoves.{SeesCall, SeesEager}
use Rattle.hir_collector_state.specs.HirCollectorRules.Calls.{AreReached, EagerLook, Expanding, InnerMacro, asked_first, call_key, call_kind, call_loc, called_text, error_of, first_missing, grown_by, inner_readings}
use Rattle.hir_collector_state.specs.HirCollectorRules.Keys.{Environment, IsMeant, source_in, text_at}
use Rattle.hir_collector_state.specs.HirCollectorRules.NumberedOut.{IsCallNumberedOut, IsNumberedOut}
use Rattle.hir_collector_state.specs.HirCollectorRules.State.{Core, with_asked}
use Rattle.hir_collector_state.specs.HirCollectorRules.Steps.{keys_read, with_keys}
use Rattle.hir_collector_state.specs.HirCollectorRules.declared.source_database.Key.TheVariants as keys
use Rattle.hir_collector_state.specs.HirCollectorRules.Workspace.{Workspace}
use Rattle.hir_collector_state.specs.HirCollectorRules.declared.macro_directive.MacroDirective.{MacroDirective}
use Rattle.hir_call_expansion.specs.declared.expansion.CallLook.{CallLook}
use Rattle.hir_call_expansion.specs.declared.expansion.Expansion.{Expansion}
use Rattle.hir_call_expansion.specs.declared.expansion.CallLook.TheVariants.{Expands, Waits}

-- its expansion, all that it depends on asked for; or the paths that its macro asks for first, of which one reaches nothing
abbrev pub IsLook : TablesValue → Workspace → Maps → MacroDirective → MacroId → (old new : Core) → CallLook → Type 0
IsLook tables w finished d makro old new (Expands e) =
    (x : Expanding) × SeesCall tables w finished d makro old new x e.source.value × (e.id ≡ x.id) × (e.error ≡ error_of x.there)
IsLook tables w finished d makro old new (Waits inner) =
    (x : EagerLook) × SeesEager tables w finished d makro old new x × (inner ≡ asked_first makro x.there)

-- where its macro asks for paths first, and all of them reach macros: the expansion by the key with these
pub record IsBehindPaths (tables : TablesValue) (w : Workspace) (finished : Maps) (d : MacroDirective) (key : ExpansionValue) (paths : List Path) (old new : Core)
    (e : Expansion) : Type 0 where
  pub first : EntryId
  pub asks : entry_at tables first ≡ Some key
  pub macros : List InnerMacro
  pub reached : AreReached finished old.local old.map d.site.home paths macros
  pub meant : All (λ (i : InnerMacro). IsMeant tables i.makro) macros
  pub texts : All (λ (i : InnerMacro). i.text ≡ called_text finished old.map i.makro (text_at tables w i.makro)) macros
  pub entry : EntryId
  pub grown : entry_at tables entry ≡ Some (grown_by macros key)
  pub call : call_at tables e.id ≡ Some (call_loc d entry)
  pub error : e.error ≡ error_of (w.entry (grown_by macros key))
  pub source : e.source.value ≡ source_in tables w (call_key old.map.id.krate e.id)
  pub asked : new ≡ with_asked (with_asked (record old {
    asked = with_keys (with_asked old (keys.Expansion first)).asked (keys_read (inner_readings macros));
  }) (keys.Expansion entry)) (keys.Tree (call_key old.map.id.krate e.id))

-- or one reaches nothing
abbrev pub IsLookBehind : TablesValue → Workspace → Maps → MacroDirective → ExpansionValue → List Path → (old new : Core) → CallLook → Type 0
IsLookBehind tables w finished d key paths old new (Expands e) = IsBehindPaths tables w finished d key paths old new e
IsLookBehind tables w finished d key paths old new (Waits inner) =
    (inner ≡ paths) × IsSome (first_missing finished old.local old.map d.site.home paths) × (first : EntryId) × (entry_at tables first ≡ Some key)
    × (new ≡ with_asked old (keys.Expansion first))

-- what tells the paths has no number; or all of them reach macros, and the key with these has none, or the call has none
abbrev pub LacksBehind : Environment → Maps → Core → MacroDirective → ExpansionValue → List Path → Type 0
LacksBehind env finished c d key paths =
    IsNumberedOut env.tables.entries key ⊎ ((macros : List InnerMacro) × AreReached finished c.local c.map d.site.home paths macros
    × All (λ (i : InnerMacro). IsMeant env.tables i.makro) macros × IsCallNumberedOut env.tables (call_kind d) (grown_by macros key))
