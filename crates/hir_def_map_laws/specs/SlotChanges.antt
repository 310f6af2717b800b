-- Which slots does building change?
use Rattle.std.specs.Prelude.{◌≡◌, ◌≢◌, ℕ, ◌<◌, List, length, Option, None, Some, Contains, ◌≤◌, [], ◌∷◌, ◌++◌}
use Rattle.std.specs.Option.{option_to_list}
use Rattle.hir_nameres.specs.HirBase.ModPath.{Path}
use Rattle.hir_nameres.specs.HirIds.declared.ids.EnumId.{EnumId}
use Rattle.hir_nameres.specs.HirIds.declared.ids.ExternCrateId.{ExternCrateId}
use Rattle.hir_nameres.specs.HirIds.declared.macro_kind.MacroId.{MacroId}
use Rattle.hir_nameres.specs.HirIds.declared.ids.ModuleDefId.{ModuleDefId}
use Rattle.hir_nameres.specs.HirIds.declared.ids.ModuleId.{ModuleId}
use Rattle.hir_nameres.specs.HirIds.declared.ids.TraitId.{TraitId}
use Rattle.hir_nameres.specs.HirTextualScope.Macros.{with_macro as with_more}
use Rattle.hir_nameres.specs.HirScope.Globs.{GlobNames}
use Rattle.hir_nameres.specs.HirScope.Scope.{ScopeValue}
use Rattle.hir_nameres.specs.HirScope.Scope.Updates.{with_definition, with_unnamed_trait, with_visibility}
use Rattle.hir_nameres.specs.HirPerNs.declared.imports.ImportId.{ImportId}
use Rattle.hir_nameres.specs.HirPerNs.declared.imports.ImportOrExternCrate.{ImportOrExternCrate}
use Rattle.hir_nameres.specs.HirPerNs.declared.per_ns.PerNs.{PerNs}
use Rattle.hir_nameres.specs.HirPerNs.declared.visibility.Visibility.{Visibility}
use Rattle.hir_nameres.specs.HirDefMapRules.Declaration.{listed}
use Rattle.hir_nameres.specs.HirDefMapRules.Scoping.Asking.{Asking}
use Rattle.hir_nameres.specs.HirDefMapRules.State.{Local, Map, Variants, new_module, numbered, pushed, variants_at}
use Rattle.hir_nameres.specs.HirDefMapRules.State.{with_enum, with_extern, with_macro_use, with_module}
use Rattle.hir_nameres.specs.HirDefMapRules.State.{with_scope}
use Rattle.hir_nameres.specs.HirDefMapRules.Overlay.{Maps}
use Rattle.hir_nameres.specs.HirDefMapRules.declared.declaration.Declaration.{Declaration}
use Rattle.hir_nameres.specs.HirMapParts.declared.origin.ModuleOrigin.{ModuleOrigin}
use Rattle.hir_def_map_laws.specs.ReadLaw.{AgreeAt, BeginsOutside, BeginsWithCrates, DiffersInScopes, Grows, IsReadAlike, KeepApart, StandsBeside}
use Rattle.hir_nameres.specs.declared.nameres.path_resolution.slots.Slot.{Slot}
use Rattle.hir_nameres.specs.declared.nameres.path_resolution.slots.Slot.TheVariants.{Module as of_module, Preludes as of_preludes}
use Rattle.hir_nameres.specs.Scoping.Slots.{reads}

-- a map grows, and each slot but one holds what it held; where none is named, each does
pub record ChangesOnly (old : Map) (old_local : Local) (new : Map) (new_local : Local) (changed : Option Slot) : Type 0 where
  pub grows : Grows old new
  pub others : (slot : Slot) → Some slot ≢ changed → AgreeAt old old_local new new_local slot

-- a path that doesn't look at the slot means the same afterwards, and looks at the same slots
abbrev pub OtherSlotsDoNotMatter : Type 0
OtherSlotsDoNotMatter = (finished : Maps) (one other : Map) (asking : Asking) (local : Local) (changed : Option Slot) (at : ℕ) (path : Path)
    → StandsBeside finished one → BeginsWithCrates asking.local → at < length one.modules → ChangesOnly one asking.local other local changed
    → ((slot : Slot) → changed ≡ Some slot → ¬ Contains (reads finished asking one (numbered one.id at) path) slot)
    → IsReadAlike finished one asking other local (numbered one.id at) path

-- a push changes the slot of its name in its module
abbrev pub PushesChangeTheirSlot : Type 0
PushesChangeTheirSlot = (map : Map) (local : Local) (globs : GlobNames) (at : ℕ) (name : List ℕ) (items : PerNs) (import : Option ImportOrExternCrate)
    → ChangesOnly map local (pushed map globs at name items import) local (Some (of_module at name))

-- a declaration that is listed changes none
abbrev pub ListsChangeNoSlot : Type 0
ListsChangeNoSlot = (map : Map) (local : Local) (at : ℕ) (d : Declaration) → ChangesOnly map local (with_scope map at (listed d)) local None

-- a module that is made changes none: nothing is bound in it yet
abbrev pub ModulesChangeNoSlot : Type 0
ModulesChangeNoSlot = (map : Map) (local : Local) (at : ℕ) (name : List ℕ) (origin : ModuleOrigin) (visibility : Visibility) (parent : Option ModuleId)
    → ChangesOnly map local (with_module map at name (new_module origin visibility parent)) local None

-- a scope with one more macro in textual scope, the last of its name
abbrev pub with_textual_macro : List ℕ → MacroId → ScopeValue → ScopeValue
with_textual_macro name makro scope = record scope { legacy_macros = with_more scope.legacy_macros name makro }

-- a macro that enters the textual scope of a module changes the slot of its name there
abbrev pub TextualMacrosChangeTheirSlot : Type 0
TextualMacrosChangeTheirSlot = (map : Map) (local : Local) (at : ℕ) (name : List ℕ) (makro : MacroId)
    → ChangesOnly map local (with_scope map at (with_textual_macro name makro)) local (Some (of_module at name))

-- variants that an enum gets which had none, or had these, change none
abbrev pub EnumsChangeNoSlot : Type 0
EnumsChangeNoSlot =
    (map : Map) (local : Local) (id : EnumId) (variants : Variants) → ((before : Variants) → variants_at map id ≡ Some before → before ≡ variants)
    → ChangesOnly map local (with_enum map id variants) local None

-- a macro that joins the `macro_use` prelude changes the slot of its name there
abbrev pub MacroUsesChangeTheirSlot : Type 0
MacroUsesChangeTheirSlot = (map : Map) (local : Local) (name : List ℕ) (makro : MacroId) (by : Option ExternCrateId)
    → ChangesOnly map local (with_macro_use map name makro by) local (Some (of_preludes name))

-- so does a crate that paths may begin with
abbrev pub CratesChangeTheirSlot : Type 0
CratesChangeTheirSlot = (map : Map) (local : Local) (name : List ℕ) (entry : ModuleId × Option ExternCrateId)
    → ChangesOnly map local map (with_extern local name entry) (Some (of_preludes name))

-- ---- several slots

-- a map grows and keeps its modules, and each slot that isn't among these holds what it held
pub record ChangesAmong (old : Map) (old_local : Local) (new : Map) (new_local : Local) (slots : List Slot) : Type 0 where
  pub grows : Grows old new
  pub modules : length old.modules ≤ length new.modules
  pub others : (slot : Slot) → ¬ Contains slots slot → AgreeAt old old_local new new_local slot

-- nothing changes where nothing is done
abbrev pub NothingChangesNoSlot : Type 0
NothingChangesNoSlot = (map : Map) (local : Local) → ChangesAmong map local map local []

-- one change of a slot, or of none, is one among it, or among none
abbrev pub OneChangeIsAmongItsSlot : Type 0
OneChangeIsAmongItsSlot = (old : Map) (old_local : Local) (new : Map) (new_local : Local) (changed : Option Slot)
    → ChangesOnly old old_local new new_local changed → length old.modules ≤ length new.modules → ChangesAmong old old_local new new_local
    (option_to_list changed)

-- what changes twice changes among the slots of both
abbrev pub ChangesFollowOneAnother : Type 0
ChangesFollowOneAnother = (one two three : Map) (one_local two_local three_local : Local) (first then : List Slot)
    → ChangesAmong one one_local two two_local first → ChangesAmong two two_local three three_local then
    → ChangesAmong one one_local three three_local (first ++ then)

-- a path that looks at none of the slots means the same afterwards, and looks at the same slots
abbrev pub UnreadSlotsDoNotMatter : Type 0
UnreadSlotsDoNotMatter = (finished : Maps) (one other : Map) (asking : Asking) (local : Local) (slots : List Slot) (at : ℕ) (path : Path)
    → StandsBeside finished one → BeginsWithCrates asking.local → at < length one.modules → ChangesAmong one asking.local other local slots
    → ((slot : Slot) → Contains slots slot → ¬ Contains (reads finished asking one (numbered one.id at) path) slot)
    → IsReadAlike finished one asking other local (numbered one.id at) path

-- ---- scopes alone

-- a map changes in its scopes alone, and each slot that isn't among these holds what it held
pub record ScopesChangeAmong (old new : Map) (local : Local) (slots : List Slot) : Type 0 where
  pub differs : DiffersInScopes old new
  pub others : (slot : Slot) → ¬ Contains slots slot → AgreeAt old local new local slot

-- no scope changes where nothing is done
abbrev pub NothingChangesNoScope : Type 0
NothingChangesNoScope = (map : Map) (local : Local) → ScopesChangeAmong map map local []

-- one change of a slot, or of none, that is one of scopes alone is one among it, or among none
abbrev pub OneScopeChangeIsAmongItsSlot : Type 0
OneScopeChangeIsAmongItsSlot = (old new : Map) (local : Local) (changed : Option Slot)
    → ChangesOnly old local new local changed → DiffersInScopes old new → ScopesChangeAmong old new local (option_to_list changed)

-- so is one of a single scope
abbrev pub ChangedScopesChangeTheirSlot : Type 0
ChangedScopesChangeTheirSlot = (map : Map) (local : Local) (at : ℕ) (change : ScopeValue → ScopeValue) (changed : Option Slot)
    → ChangesOnly map local (with_scope map at change) local changed → ScopesChangeAmong map (with_scope map at change) local (option_to_list changed)

-- a push changes the slot of its name in its module
abbrev pub PushesChangeTheirScope : Type 0
PushesChangeTheirScope = (map : Map) (local : Local) (globs : GlobNames) (at : ℕ) (name : List ℕ) (items : PerNs) (import : Option ImportOrExternCrate)
    → ScopesChangeAmong map (pushed map globs at name items import) local (of_module at name ∷ [])

-- what changes twice changes among the slots of both
abbrev pub ScopeChangesFollowOneAnother : Type 0
ScopeChangesFollowOneAnother = (one two three : Map) (local : Local) (first then : List Slot)
    → ScopesChangeAmong one two local first → ScopesChangeAmong two three local then → ScopesChangeAmong one three local (first ++ then)

-- a path that looks at none of the slots means the same afterwards, and looks at the same slots
abbrev pub UnreadScopesDoNotMatter : Type 0
UnreadScopesDoNotMatter = (finished : Maps) (one other : Map) (asking : Asking) (slots : List Slot) (at : ℕ) (path : Path)
    → KeepApart finished one.id → BeginsOutside one.id asking.local → ScopesChangeAmong one other asking.local slots
    → ((slot : Slot) → Contains slots slot → ¬ Contains (reads finished asking one (numbered one.id at) path) slot)
    → IsReadAlike finished one asking other asking.local (numbered one.id at) path

-- ---- what globs do

-- a scope where a name stands for another type, value or macro, and where another visibility has it
abbrev pub with_type : List ℕ → ModuleDefId → Visibility → ScopeValue → ScopeValue
with_type name def vis scope = record scope { types = with_definition scope.types name def vis }

abbrev pub with_value : List ℕ → ModuleDefId → Visibility → ScopeValue → ScopeValue
with_value name def vis scope = record scope { values = with_definition scope.values name def vis }

abbrev pub with_macro : List ℕ → MacroId → Visibility → ScopeValue → ScopeValue
with_macro name def vis scope = record scope { macros = with_definition scope.macros name def vis }

abbrev pub with_type_vis : List ℕ → Visibility → ScopeValue → ScopeValue
with_type_vis name vis scope = record scope { types = with_visibility scope.types name vis }

abbrev pub with_value_vis : List ℕ → Visibility → ScopeValue → ScopeValue
with_value_vis name vis scope = record scope { values = with_visibility scope.values name vis }

abbrev pub with_macro_vis : List ℕ → Visibility → ScopeValue → ScopeValue
with_macro_vis name vis scope = record scope { macros = with_visibility scope.macros name vis }

-- a scope with a trait without a name
abbrev pub with_trait : TraitId → Visibility → Option ImportId → ScopeValue → ScopeValue
with_trait tr vis import scope = record scope { unnamed_traits = with_unnamed_trait scope.unnamed_traits tr vis import }

-- an update of what a name stands for in a module changes that slot
pub record UpdatesChangeTheirSlot (map : Map) (local : Local) (at : ℕ) (name : List ℕ) : Type 0 where
  pub types : (def : ModuleDefId) (vis : Visibility) → ChangesOnly map local (with_scope map at (with_type name def vis)) local (Some (of_module at name))
  pub values : (def : ModuleDefId) (vis : Visibility) → ChangesOnly map local (with_scope map at (with_value name def vis)) local (Some (of_module at name))
  pub macros : (def : MacroId) (vis : Visibility) → ChangesOnly map local (with_scope map at (with_macro name def vis)) local (Some (of_module at name))
  pub type_vis : (vis : Visibility) → ChangesOnly map local (with_scope map at (with_type_vis name vis)) local (Some (of_module at name))
  pub value_vis : (vis : Visibility) → ChangesOnly map local (with_scope map at (with_value_vis name vis)) local (Some (of_module at name))
  pub macro_vis : (vis : Visibility) → ChangesOnly map local (with_scope map at (with_macro_vis name vis)) local (Some (of_module at name))

-- a trait that is kept without a name changes none
abbrev pub TraitsChangeNoSlot : Type 0
TraitsChangeNoSlot = (map : Map) (local : Local) (at : ℕ) (tr : TraitId) (vis : Visibility) (import : Option ImportId)
    → ChangesOnly map local (with_scope map at (with_trait tr vis import)) local None

-- all of these change scopes alone
pub record UpdatesChangeTheirScope (map : Map) (local : Local) (at : ℕ) (name : List ℕ) : Type 0 where
  pub types : (def : ModuleDefId) (vis : Visibility) → ScopesChangeAmong map (with_scope map at (with_type name def vis)) local (of_module at name ∷ [])
  pub values : (def : ModuleDefId) (vis : Visibility) → ScopesChangeAmong map (with_scope map at (with_value name def vis)) local (of_module at name ∷ [])
  pub macros : (def : MacroId) (vis : Visibility) → ScopesChangeAmong map (with_scope map at (with_macro name def vis)) local (of_module at name ∷ [])
  pub type_vis : (vis : Visibility) → ScopesChangeAmong map (with_scope map at (with_type_vis name vis)) local (of_module at name ∷ [])
  pub value_vis : (vis : Visibility) → ScopesChangeAmong map (with_scope map at (with_value_vis name vis)) local (of_module at name ∷ [])
  pub macro_vis : (vis : Visibility) → ScopesChangeAmong map (with_scope map at (with_macro_vis name vis)) local (of_module at name ∷ [])

abbrev pub TraitsChangeNoScope : Type 0
TraitsChangeNoScope = (map : Map) (local : Local) (at : ℕ) (tr : TraitId) (vis : Visibility) (import : Option ImportId)
    → ScopesChangeAmong map (with_scope map at (with_trait tr vis import)) local []
