-- What has changed of a run, and which slots do its calls read?
use Rattle.std.specs.Prelude.{◌≡◌, ℕ, ◌<◌, ◌≤◌, Bool, true, false, Contains, [], ◌++◌, List, None, Some, length, option_map, slice_get, unwrap_or}
use Rattle.std.specs.List.{All}
use Rattle.hir_collector_rules.specs.HirIds.declared.ast_id.AstId.{AstId}
use Rattle.hir_collector_rules.specs.HirIds.declared.ids.EnumId.{EnumId}
use Rattle.hir_collector_rules.specs.HirDefMapRules.Macros.{helpers_at}
use Rattle.hir_collector_rules.specs.HirDefMapRules.Overlay.{Maps}
use Rattle.hir_collector_rules.specs.HirNameres.Scoping.Slots.{reads}
use Rattle.hir_collector_rules.specs.HirDefMapRules.State.{IsInOrder, Local, Map, ModuleValue, Variants, module_at, numbered, parent_at, variants_at}
use Rattle.hir_collector_rules.specs.HirNameres.declared.nameres.path_resolution.slots.Slot.{Slot as PathSlot}
use Rattle.hir_def_map_laws.specs.ReadLaw.{AgreeAt, BeginsOutside}
use Rattle.hir_import_growth.specs.Growth.{GlobsLast}
use Rattle.hir_collector_rules.specs.HirImportRules.Changed.{IsThere, IsUnhelped, IsUntouched}
use Rattle.hir_collector_rules.specs.HirBase.ModPath.{Path}
use Rattle.hir_collector_rules.specs.HirBase.declared.resolve_mode.MacroSubNs.TheVariants.{Bang}
use Rattle.hir_collector_rules.specs.HirIds.declared.macro_kind.MacroId.{MacroId}
use Rattle.hir_collector_rules.specs.declared.macro_directive.EagerMacro.{EagerMacro}
use Rattle.hir_collector_rules.specs.declared.macro_directive.MacroDirective.{MacroDirective}
use Rattle.hir_collector_rules.specs.Attributes.{is_named_by}
use Rattle.hir_collector_rules.specs.Calls.{by_style, called_macro, inner_macro, is_same_macro, path_of_call, style_of}
use Rattle.hir_collector_rules.specs.State.{Core, Run, at_rest, core_in, eager_at, import_state}

-- ---- what may have changed

-- a map has the modules that it had, each in that in which it was, and may have more
pub record KeepsModules (old new : Map) : Type 0 where
  pub id : new.id ≡ old.id
  pub holder : new.holder ≡ old.holder
  pub crate_data : new.crate_data ≡ old.crate_data
  pub prelude : option_map (λ p. p.0) new.prelude ≡ option_map (λ p. p.0) old.prelude
  pub parents : (at : ℕ) (m : ModuleValue) → module_at old at ≡ Some m → parent_at new at ≡ m.parent
  pub count : length old.modules ≤ length new.modules

-- whether a helper of a name is in scope on a node
abbrev pub is_helped : Map → AstId → List ℕ → Bool
is_helped m node name = is_named_by (unwrap_or (helpers_at m node) []) name

-- what has changed of a run is noted: any other slot of a module that was there stands for what it stood for, and no helper came into scope on any other item
pub record NotesSlots (old new : Run) : Type 0 where
  -- what was noted is noted still
  pub some : new.changed.all ≡ false → old.changed.all ≡ false
  pub noted : (slot : PathSlot) → IsUntouched new.changed slot → IsUntouched old.changed slot
  pub items : (node : AstId) → IsUnhelped new.changed node → IsUnhelped old.changed node
  pub keeps : new.changed.all ≡ false → KeepsModules old.map new.map
  pub others : (slot : PathSlot) → IsUntouched new.changed slot → IsThere (length old.map.modules) slot → AgreeAt old.map old.local new.map new.local slot
  pub helpers : (node : AstId) (name : List ℕ) → IsUnhelped new.changed node → is_helped new.map node name ≡ is_helped old.map node name

-- enums keep their variants, and the imports that there were stand where they stood; others come behind them
pub record LeavesImports (old new : Run) : Type 0 where
  pub enums : (id : EnumId) (variants : Variants) → variants_at old.map id ≡ Some variants → variants_at new.map id ≡ Some variants
  pub reached : (i : ℕ) → i < length old.reached → slice_get new.reached i ≡ slice_get old.reached i
  pub taken : (i : ℕ) → i < length old.taken → slice_get new.taken i ≡ slice_get old.taken i
  pub longer : length old.reached ≤ length new.reached
  pub taken_longer : length old.taken ≤ length new.taken

-- what is known of globs beside finished maps stays true
abbrev pub LeavesGlobs : Maps → Run → Run → Type 0
LeavesGlobs finished old new =
    GlobsLast finished (import_state (at_rest (core_in old))) old.globs → GlobsLast finished (import_state (at_rest (core_in new))) new.globs

-- what has changed of a run is noted, and unless all slots count as changed, imports and globs stand where they stood
pub record IsNoted (old new : Run) : Type 0 where
  pub slots : NotesSlots old new
  pub imports : new.changed.all ≡ false → LeavesImports old new
  pub globs : new.changed.all ≡ false → (finished : Maps) → LeavesGlobs finished old new

-- the same beside finished maps, which say how names go along globs
pub record IsNotedBeside (finished : Maps) (old new : Run) : Type 0 where
  pub slots : NotesSlots old new
  pub imports : new.changed.all ≡ false → LeavesImports old new
  pub globs : new.changed.all ≡ false → LeavesGlobs finished old new

-- ---- what waits

-- the slots that the path of a call, of a derive or of an attribute reads
abbrev pub call_reads : Maps → Local → Map → MacroDirective → List PathSlot
call_reads finished local m d = reads finished (by_style (style_of d.kind) local) m (numbered m.id d.site.home) (path_of_call d)

-- the slots that a path reads which a macro asks to have resolved first
abbrev pub inner_reads : Maps → Local → Map → ℕ → Path → List PathSlot
inner_reads finished local m home path = reads finished (by_style Bang local) m (numbered m.id home) path

-- a call has read these slots in vain: those of its path, which reaches no macro; or besides those of a path that its macro asks for first, which reaches none
pub data ReadsInVain (finished : Maps) (local : Local) (m : Map) (eager : List EagerMacro) (d : MacroDirective) (seen : List PathSlot) : Type 0 where
  reaches_none : called_macro finished local m d ≡ None → seen ≡ call_reads finished local m d → ReadsInVain finished local m eager d seen
  lacks_inner : (makro : MacroId) (by : EagerMacro) (path : Path) → called_macro finished local m d ≡ Some makro → Contains eager by
      → is_same_macro by.makro makro ≡ true → Contains by.inner path → inner_macro finished local m d.site.home path ≡ None
      → seen ≡ call_reads finished local m d ++ inner_reads finished local m d.site.home path → ReadsInVain finished local m eager d seen

-- the call at a place once read these slots in vain, of modules that were there; each stands for what it stood for then. No path began with a module of a
-- block's own map
pub record StandsStill (finished : Maps) (c : Core) (i : ℕ) (d : MacroDirective) (seen : List PathSlot) : Type 0 where
  pub map : Map
  pub local : Local
  pub vain : ReadsInVain finished local map (eager_at c i) d seen
  pub low : d.site.home < length map.modules
  pub in_order : IsInOrder map
  pub there : All (IsThere (length map.modules)) seen
  pub keeps : KeepsModules map c.map
  pub agree : All (AgreeAt map local c.map c.local) seen
  pub outside : BeginsOutside map.id local
