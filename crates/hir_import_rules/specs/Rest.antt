-- Where do imports rest?
use Rattle.std.specs.Prelude.{◌≡◌, ℕ, ◌≤◌, ◌<◌, Some, Contains, length, slice_get}
use Rattle.hir_nameres.specs.HirDefMapRules.Overlay.{Maps}
use Rattle.hir_nameres.specs.HirPerNs.declared.imports.GlobId.{GlobId}
use Rattle.hir_glob_imports.specs.Waves.{IsWaved, Stands}
use Rattle.hir_glob_imports.specs.declared.edge.Brought.{Brought}
use Rattle.hir_glob_imports.specs.declared.edge.Edge.{Edge}
use Rattle.hir_glob_imports.specs.declared.edge.Slot.{Slot}
use Rattle.hir_glob_imports.specs.declared.edge.Target.{Target}
use Rattle.hir_glob_imports.specs.declared.step.TheConstants.{MAX_STEPS}
use Rattle.hir_import_rules.specs.declared.directive.ImportDirective.{ImportDirective}
use Rattle.hir_import_rules.specs.Directives.{AreAmong, TakenValue, glob_of, namespaces_of, reached_by, target_of}
use Rattle.hir_import_rules.specs.Names.{view_of}
use Rattle.hir_import_rules.specs.Rules.{Step, Steps}
use Rattle.hir_import_rules.specs.State.{ImportState, scopes_of}

-- the import at the place reaches nothing that its takings didn't reach
pub record IsSettled (finished : Maps) (s : ImportState) (i : ℕ) : Type 0 where
  -- no namespace
  pub among : (r : ImportDirective) (t : TakenValue) → slice_get s.imports i ≡ Some r → slice_get s.taken i ≡ Some t
      → AreAmong (namespaces_of (reached_by finished s.local s.map r)) t.namespaces
  -- and of a glob no target
  pub linked : (r : ImportDirective) (t : TakenValue) (by : GlobId) (target : Target) → slice_get s.imports i ≡ Some r → slice_get s.taken i ≡ Some t
      → glob_of r.source ≡ Some by → target_of finished s.local s.map r ≡ Some target → Contains t.targets target

-- a target is the source of a recorded glob into a module
pub record IsSource (s : ImportState) (target : Target) (importer : ℕ) : Type 0 where
  pub number : ℕ
  pub edge : Edge
  pub recorded : slice_get s.edges number ≡ Some edge
  pub source : edge.source ≡ target
  pub into : edge.importer ≡ importer

-- what the glob at the place was taken for is the source of a recorded glob into its module
pub record IsRecorded (s : ImportState) (i : ℕ) : Type 0 where
  pub each : (r : ImportDirective) (t : TakenValue) (target : Target) → slice_get s.imports i ≡ Some r → slice_get s.taken i ≡ Some t
      → Contains t.targets target → IsSource s target r.home

-- no step can be taken along a glob
abbrev pub IsClosed : Maps → ImportState → Type 0
IsClosed finished s = IsWaved (view_of (scopes_of finished s)) s.edges s.brought

-- what a glob brought to a slot stands there still
abbrev pub BroughtStands : Maps → ImportState → Type 0
BroughtStands finished s = (slot : Slot) (by : Brought) → s.brought slot ≡ Some by → Stands (view_of (scopes_of finished s)) slot by

-- what holds of imports and globs wherever steps lead
pub record IsSound (finished : Maps) (s : ImportState) : Type 0 where
  -- each recorded glob leads to a module that is there
  pub there : (j : ℕ) (e : Edge) → slice_get s.edges j ≡ Some e → e.importer < length s.map.modules
  pub stands : BroughtStands finished s
  pub recorded : (i : ℕ) → IsRecorded s i

-- imports rest: no step can be taken
pub record IsAtRest (finished : Maps) (s : ImportState) : Type 0 where
  pub settled : (i : ℕ) → IsSettled finished s i
  pub recorded : (i : ℕ) → IsRecorded s i
  pub closed : IsClosed finished s
  pub stands : BroughtStands finished s

-- as many steps as are counted lead on from here, and one more may be taken
pub record IsSpent (finished : Maps) (from : ImportState) : Type 0 where
  pub at : ImportState
  pub steps : Steps finished from at
  pub next : ImportState
  pub step : Step finished at next
  pub full : MAX_STEPS ≤ at.count
