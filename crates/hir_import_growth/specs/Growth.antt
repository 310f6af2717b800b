-- What is known of globs, and what keeps it while their map grows?
use Rattle.std.specs.Prelude.{◌≡◌, ℕ, ◌≤◌, List, Option, None, Some, length}
use Rattle.hir_nameres.specs.HirIds.declared.ids.EnumId.{EnumId}
use Rattle.hir_nameres.specs.HirIds.declared.ids.ExternCrateId.{ExternCrateId}
use Rattle.hir_nameres.specs.HirIds.declared.macro_kind.MacroId.{MacroId}
use Rattle.hir_nameres.specs.HirIds.declared.ids.ModuleId.{ModuleId}
use Rattle.hir_nameres.specs.HirIds.declared.ids.TraitId.{TraitId}
use Rattle.hir_nameres.specs.HirScope.Scope.{ScopeValue, binding_of}
use Rattle.hir_nameres.specs.HirScope.Scope.Reads.{unnamed_vis}
use Rattle.hir_nameres.specs.HirPerNs.declared.imports.ImportOrExternCrate.{ImportOrExternCrate}
use Rattle.hir_nameres.specs.HirPerNs.declared.per_ns.PerNs.{PerNs}
use Rattle.hir_nameres.specs.HirPerNs.declared.visibility.Visibility.{Visibility}
use Rattle.hir_nameres.specs.HirDefMapRules.Declaration.{listed}
use Rattle.hir_nameres.specs.HirDefMapRules.Overlay.{Maps}
use Rattle.hir_nameres.specs.HirDefMapRules.State.{IsInOrder, Map, Variants, entry_at, globs_after, module_at, new_module, pushed, variants_at, with_enum}
use Rattle.hir_nameres.specs.HirDefMapRules.State.{with_macro_use, with_module, with_scope}
use Rattle.hir_nameres.specs.HirDefMapRules.declared.declaration.Declaration.{Declaration}
use Rattle.hir_nameres.specs.HirMapParts.declared.origin.ModuleOrigin.{ModuleOrigin}
use Rattle.hir_def_map_laws.specs.ReadLaw.{Grows}
use Rattle.hir_glob_imports.specs.View.{View}
use Rattle.hir_glob_imports.specs.Waves.{GlobsValue, IsKept, brought_of}
use Rattle.hir_import_rules.specs.Changes.{forgotten}
use Rattle.hir_import_growth.specs.Binding.{IsBound}
use Rattle.hir_import_rules.specs.Lasting.{Lasts}
use Rattle.hir_import_rules.specs.Names.{ScopesValue, trait_vis, view_of}
use Rattle.hir_import_rules.specs.State.{ImportState, scopes_of}

-- along a glob nothing is to be done but where it's noted that it is to be looked at, and what was found out of globs lasts
pub record GlobsLast (finished : Maps) (s : ImportState) (g : GlobsValue) : Type 0 where
  pub kept : IsKept (view_of (scopes_of finished s)) g
  pub lasts : Lasts finished s

-- a map grows, and all that its names stand for stays
pub record GrowsAround (old new : Map) : Type 0 where
  pub grows : Grows old new
  pub modules : length old.modules ≤ length new.modules
  pub entries : (at : ℕ) (name : List ℕ) → entry_at new at name ≡ entry_at old at name
  pub traits : (at : ℕ) (id : TraitId) → trait_vis (module_at new at) id ≡ trait_vis (module_at old at) id

-- the globs of two states are these
pub record HaveGlobs (s : ImportState) (g : GlobsValue) : Type 0 where
  pub edges : s.edges ≡ g.edges
  pub brought : s.brought ≡ brought_of g

-- what is known of globs lasts while the map grows around its names, each module behind what it is in
abbrev pub GrowthKeepsGlobs : Type 0
GrowthKeepsGlobs =
    (finished : Maps) (old new : ImportState) (g : GlobsValue) → HaveGlobs old g → HaveGlobs new g → GrowsAround old.map new.map → IsInOrder new.map
    → GlobsLast finished old g → GlobsLast finished new g

-- and where something is bound explicitly, once it's noted where to look
abbrev pub PushesKeepGlobs : Type 0
PushesKeepGlobs = (finished : Maps) (old new : ImportState) (g h : GlobsValue) (home : ℕ) (name : List ℕ) (items : PerNs) → HaveGlobs old g → HaveGlobs new h
    → new.map ≡ pushed old.map old.globs home name items None → h.edges ≡ g.edges → brought_of h ≡ forgotten home name items (brought_of g)
    → ((v w : View) → IsKept v g → IsBound home name items v w → IsKept w h) → GlobsLast finished old g → GlobsLast finished new h

-- modules that are made, definitions that are listed, enums that get their variants and macros of the `macro_use` prelude let a map grow around its names
abbrev pub ModulesGrowAround : Type 0
ModulesGrowAround = (map : Map) (at : ℕ) (name : List ℕ) (origin : ModuleOrigin) (visibility : Visibility) (parent : Option ModuleId)
    → GrowsAround map (with_module map at name (new_module origin visibility parent))

abbrev pub ListsGrowAround : Type 0
ListsGrowAround = (map : Map) (at : ℕ) (d : Declaration) → GrowsAround map (with_scope map at (listed d))

abbrev pub EnumsGrowAround : Type 0
EnumsGrowAround =
    (map : Map) (id : EnumId) (variants : Variants) → ((before : Variants) → variants_at map id ≡ Some before → before ≡ variants)
    → GrowsAround map (with_enum map id variants)

abbrev pub MacroUsesGrowAround : Type 0
MacroUsesGrowAround = (map : Map) (name : List ℕ) (makro : MacroId) (by : Option ExternCrateId) → GrowsAround map (with_macro_use map name makro by)

-- so do changes of a scope that leave its bindings and its traits without names, as those of textual macros
abbrev pub ScopesGrowAround : Type 0
ScopesGrowAround = (map : Map) (at : ℕ) (change : ScopeValue → ScopeValue) → ((s : ScopeValue) (name : List ℕ) → binding_of (change s) name ≡ binding_of s name)
    → ((s : ScopeValue) (id : TraitId) → unnamed_vis (change s) id ≡ unnamed_vis s id) → GrowsAround map (with_scope map at change)

-- items that are pushed to a name of a module are bound there explicitly, and globs see no other change
abbrev pub PushesBind : Type 0
PushesBind = (n : ScopesValue) (home : ℕ) (name : List ℕ) (items : PerNs) (import : Option ImportOrExternCrate)
    → IsBound home name items (view_of n) (view_of
    (record n { map = pushed n.map n.globs home name items import; globs = globs_after n.map n.globs home name items import }))
