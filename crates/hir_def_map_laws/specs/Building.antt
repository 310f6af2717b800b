-- What does building leave of a map?
use Rattle.std.specs.Prelude.{◌≡◌, ℕ, List, Option, ◌<◌, length, Some, false, true}
use Rattle.hir_nameres.specs.HirIds.declared.ids.EnumId.{EnumId}
use Rattle.hir_nameres.specs.HirIds.declared.macro_kind.MacroId.{MacroId}
use Rattle.hir_nameres.specs.HirIds.declared.ids.ModuleDefId.{ModuleDefId}
use Rattle.hir_nameres.specs.HirIds.declared.ids.ModuleId.{ModuleId}
use Rattle.hir_nameres.specs.HirIds.declared.ids.TraitId.{TraitId}
use Rattle.hir_nameres.specs.HirScope.Globs.{GlobNames}
use Rattle.hir_nameres.specs.HirScope.Scope.{ScopeValue}
use Rattle.hir_nameres.specs.HirPerNs.declared.imports.ImportId.{ImportId}
use Rattle.hir_nameres.specs.HirPerNs.declared.imports.ImportOrExternCrate.{ImportOrExternCrate}
use Rattle.hir_nameres.specs.HirPerNs.declared.per_ns.PerNs.{PerNs}
use Rattle.hir_nameres.specs.HirPerNs.declared.visibility.Visibility.{Visibility}
use Rattle.hir_nameres.specs.HirDefMapRules.Ancestors.{above_in, holders_in}
use Rattle.hir_nameres.specs.HirDefMapRules.Listed.{KeepsNames}
use Rattle.hir_nameres.specs.HirDefMapRules.Overlay.{Maps, overlay}
use Rattle.hir_nameres.specs.HirDefMapRules.Closed.{AreThere, IsThere, VisibilityIsThere}
use Rattle.hir_nameres.specs.HirDefMapRules.References.{any_reference_in_scope, are_variants_of, is_missing}
use Rattle.hir_nameres.specs.HirDefMapRules.WellFormed.{HasNoDanglingReference}
use Rattle.hir_nameres.specs.HirDefMapRules.Sources.{SourceTest, HoldsOfNone, HoldsNowhereIn, on_import, on_some, on_origin, on_values, on_variant}
use Rattle.hir_nameres.specs.HirDefMapRules.State.{Map, pushed, with_scope, new_module, numbered, with_module, Variants, with_enum}
use Rattle.hir_nameres.specs.HirDefMapRules.Declaration.{listed}
use Rattle.hir_nameres.specs.HirDefMapRules.declared.declaration.Declaration.{Declaration}
use Rattle.hir_nameres.specs.HirMapParts.declared.origin.ModuleOrigin.{ModuleOrigin}
use Rattle.hir_def_map_laws.specs.SlotChanges.{with_macro, with_macro_vis, with_trait, with_type, with_type_vis, with_value, with_value_vis}

-- the same lies above each module, and the same modules hold its map
pub record KeepsPlaces (old new : Maps) : Type 0 where
  pub above : (m : ModuleId) → above_in new m ≡ above_in old m
  pub holders : (m : ModuleId) → holders_in new m ≡ holders_in old m

-- a push leaves what lies above each module
abbrev pub PushesKeepPlaces : Type 0
PushesKeepPlaces = (finished : Maps) (map : Map) (globs : GlobNames) (at : ℕ) (name : List ℕ) (items : PerNs) (import : Option ImportOrExternCrate)
    → KeepsPlaces (overlay finished map) (overlay finished (pushed map globs at name items import))

-- a declaration that is listed leaves what lies above each module
abbrev pub DeclarationsKeepPlaces : Type 0
DeclarationsKeepPlaces = (finished : Maps) (map : Map) (at : ℕ) (d : Declaration)
    → KeepsPlaces (overlay finished map) (overlay finished (with_scope map at (listed d)))

-- a declaration that is listed leaves the modules, what they are in and what their names stand for
abbrev pub DeclarationsKeepNames : Type 0
DeclarationsKeepNames = (map : Map) (at : ℕ) (d : Declaration) → KeepsNames map (with_scope map at (listed d))

-- ---- what is there

abbrev pub PushesNameWhatIsThere : Type 0
PushesNameWhatIsThere = (finished : Maps) (map : Map) (at : ℕ) (globs : GlobNames) (name : List ℕ) (items : PerNs) (import : Option ImportOrExternCrate)
    → AreThere (overlay finished map) items → HasNoDanglingReference (overlay finished map) map
    → HasNoDanglingReference (overlay finished (pushed map globs at name items import)) (pushed map globs at name items import)

abbrev pub DeclarationsNameWhatIsThere : Type 0
DeclarationsNameWhatIsThere = (finished : Maps) (map : Map) (at : ℕ) (d : Declaration)
    → HasNoDanglingReference (overlay finished map) map → HasNoDanglingReference (overlay finished (with_scope map at (listed d)))
    (with_scope map at (listed d))

abbrev pub ModulesNameWhatIsThere : Type 0
ModulesNameWhatIsThere = (finished : Maps) (map : Map) (at : ℕ) → at < length map.modules → (name : List ℕ) (origin : ModuleOrigin) (visibility : Visibility)
    → VisibilityIsThere (overlay finished map) visibility → HasNoDanglingReference (overlay finished map) map
    → HasNoDanglingReference (overlay finished (with_module map at name (new_module origin visibility (Some (numbered map.id at)))))
    (with_module map at name (new_module origin visibility (Some (numbered map.id at))))

-- an enum that gets its own variants
abbrev pub EnumsNameWhatIsThere : Type 0
EnumsNameWhatIsThere = (finished : Maps) (map : Map) (id : EnumId) (variants : Variants) → are_variants_of id variants ≡ true
    → HasNoDanglingReference (overlay finished map) map → HasNoDanglingReference (overlay finished (with_enum map id variants)) (with_enum map id variants)

-- a change of a scope that leaves one which refers only to what is there
abbrev pub ScopesNameWhatIsThere : Type 0
ScopesNameWhatIsThere = (finished : Maps) (map : Map) (at : ℕ) (change : ScopeValue → ScopeValue)
    → ((scope : ScopeValue) → any_reference_in_scope (is_missing (overlay finished map)) scope ≡ false
    → any_reference_in_scope (is_missing (overlay finished map)) (change scope) ≡ false)
    → HasNoDanglingReference (overlay finished map) map → HasNoDanglingReference (overlay finished (with_scope map at change)) (with_scope map at change)

-- as updates of what a name stands for and of who may see it, and traits that are kept without a name
pub record UpdatesNameWhatIsThere (finished : Maps) (map : Map) (at : ℕ) (name : List ℕ) : Type 0 where
  pub types : (def : ModuleDefId) (vis : Visibility) → IsThere (overlay finished map) def → VisibilityIsThere (overlay finished map) vis
      → HasNoDanglingReference (overlay finished map) map
      → HasNoDanglingReference (overlay finished (with_scope map at (with_type name def vis))) (with_scope map at (with_type name def vis))
  pub values : (def : ModuleDefId) (vis : Visibility) → IsThere (overlay finished map) def → VisibilityIsThere (overlay finished map) vis
      → HasNoDanglingReference (overlay finished map) map
      → HasNoDanglingReference (overlay finished (with_scope map at (with_value name def vis))) (with_scope map at (with_value name def vis))
  pub macros : (def : MacroId) (vis : Visibility) → VisibilityIsThere (overlay finished map) vis → HasNoDanglingReference (overlay finished map) map
      → HasNoDanglingReference (overlay finished (with_scope map at (with_macro name def vis))) (with_scope map at (with_macro name def vis))
  pub type_vis : (vis : Visibility) → VisibilityIsThere (overlay finished map) vis → HasNoDanglingReference (overlay finished map) map
      → HasNoDanglingReference (overlay finished (with_scope map at (with_type_vis name vis))) (with_scope map at (with_type_vis name vis))
  pub value_vis : (vis : Visibility) → VisibilityIsThere (overlay finished map) vis → HasNoDanglingReference (overlay finished map) map
      → HasNoDanglingReference (overlay finished (with_scope map at (with_value_vis name vis))) (with_scope map at (with_value_vis name vis))
  pub macro_vis : (vis : Visibility) → VisibilityIsThere (overlay finished map) vis → HasNoDanglingReference (overlay finished map) map
      → HasNoDanglingReference (overlay finished (with_scope map at (with_macro_vis name vis))) (with_scope map at (with_macro_vis name vis))
  pub traits : (tr : TraitId) (vis : Visibility) (import : Option ImportId) → VisibilityIsThere (overlay finished map) vis
      → HasNoDanglingReference (overlay finished map) map
      → HasNoDanglingReference (overlay finished (with_scope map at (with_trait tr vis import))) (with_scope map at (with_trait tr vis import))

-- ---- where it is written

-- pushes, lists, modules and enums of what a test doesn't hold of leave a map in which it holds nowhere
abbrev pub PushesKeepToSources : Type 0
PushesKeepToSources = (t : SourceTest) (map : Map) (globs : GlobNames) (at : ℕ) (name : List ℕ) (items : PerNs) (by : Option ImportOrExternCrate)
    → HoldsOfNone t items → on_some (on_import t) by ≡ false → HoldsNowhereIn t map → HoldsNowhereIn t (pushed map globs at name items by)

abbrev pub ListsKeepToSources : Type 0
ListsKeepToSources = (t : SourceTest) (map : Map) (at : ℕ) (d : Declaration) → HoldsNowhereIn t map → HoldsNowhereIn t (with_scope map at (listed d))

abbrev pub ModulesKeepToSources : Type 0
ModulesKeepToSources = (t : SourceTest) (map : Map) (at : ℕ) (name : List ℕ) (origin : ModuleOrigin) (visibility : Visibility) (parent : Option ModuleId)
    → on_origin t origin ≡ false → HoldsNowhereIn t map → HoldsNowhereIn t (with_module map at name (new_module origin visibility parent))

abbrev pub EnumsKeepToSources : Type 0
EnumsKeepToSources = (t : SourceTest) (map : Map) (id : EnumId) (variants : Variants)
    → on_values (on_variant t) variants ≡ false → HoldsNowhereIn t map → HoldsNowhereIn t (with_enum map id variants)
