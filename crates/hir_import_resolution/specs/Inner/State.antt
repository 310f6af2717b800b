-- Where do the imports of a resolver stand, and what changes there?
use Rattle.std.specs.Prelude.{◌≡◌, ℕ, Bool, ◌+◌, ◌++◌, List, [], ◌∷◌, Option, None, Some, slice_get, slice_set}
use Rattle.hir_nameres.specs.HirIds.declared.ids.MapId.{MapId}
use Rattle.hir_nameres.specs.HirIds.declared.ids.TraitId.{TraitId}
use Rattle.hir_nameres.specs.HirPerNs.declared.visibility.Visibility.{Visibility}
use Rattle.hir_def_map_rules.specs.Overlay.{Maps}
use Rattle.hir_def_map_rules.specs.State.{Local, module_at}
use Rattle.hir_nameres.specs.WorldParts.{part_of}
use Rattle.hir_nameres.specs.declared.nameres.path_resolution.slots.Slot.{Slot as PathSlot}
use Rattle.hir_nameres.specs.declared.nameres.path_resolution.slots.Slot.TheVariants.{Module as of_module}
use Rattle.hir_def_map_laws.specs.ReadLaw.{BeginsOutside, KeepApart}
use Rattle.hir_def_map_laws.specs.SlotChanges.{ScopesChangeAmong}
use Rattle.hir_glob_imports.specs.Keys.{name_of}
use Rattle.hir_glob_imports.specs.Waves.{AreOfKind, GlobsValue, IsKept, brought_of}
use Rattle.hir_glob_imports.specs.declared.edge.Edge.{Edge}
use Rattle.hir_glob_imports.specs.declared.edge.Slot.{Slot}
use Rattle.hir_import_resolution.specs.declared.import_queue.ImportQueue.{ImportQueue}
use Rattle.hir_import_resolution.specs.declared.imports.Imports.{Imports}
use Rattle.hir_import_resolution.specs.declared.resolver.Resolver.{Resolver}
use Rattle.hir_import_resolution.specs.declared.resolver.steps.Taking.{Taking}
use Rattle.hir_import_resolution.specs.declared.scopes.OpenScopes.{OpenScopes}
use Rattle.hir_import_rules.specs.Directives.{TakenValue, taken_after, taken_for}
use Rattle.hir_import_rules.specs.Lasting.{IsPlaced}
use Rattle.hir_import_rules.specs.Names.{trait_vis, view_of}
use Rattle.hir_import_rules.specs.Rest.{IsRecorded}
use Rattle.hir_import_resolution.specs.Scopes.{value_of}
use Rattle.hir_import_rules.specs.State.{ImportState}

-- where imports stand
abbrev pub state_in : Imports → ImportState
state_in i = record {
  map = i.map;
  local = i.local;
  globs = i.from_glob_import;
  imports = i.imports.items;
  taken = i.taken.items;
  edges = i.globs.edges;
  brought = brought_of i.globs;
  count = i.count;
}

-- finished maps don't refer to a map that is built, and no path begins with a module of it where it is a block's
pub record IsApart (finished : Maps) (own : MapId) (local : Local) : Type 0 where
  pub apart : KeepApart finished own
  pub outside : BeginsOutside own local

-- ---- the resolver

-- where the imports of a resolver stand
abbrev pub state_by : Resolver → ImportState
state_by r = record {
  map = r.scopes.map;
  local = r.local;
  globs = r.scopes.globs;
  imports = r.imports.items;
  taken = r.taken.items;
  edges = r.globs.edges;
  brought = brought_of r.globs;
  count = r.count;
}

-- the finished maps beside it
abbrev pub finished_by : Resolver → Maps
finished_by r = part_of r.scopes.world

-- which of them are to be tried
abbrev pub queue_by : Resolver → ImportQueue
queue_by r = record { apart = r.apart; lasting = r.lasting; worklist = r.worklist; watchers = r.watchers }

-- a resolver with other scopes and globs
abbrev pub with_globs : Resolver → OpenScopes → GlobsValue → Resolver
with_globs r scopes globs = record r { scopes = scopes; globs = globs }

-- with what another has that goes along globs
abbrev pub spread_from : Resolver → Resolver → Resolver
spread_from r other = record r { scopes = other.scopes; globs = other.globs; count = other.count; changes = other.changes }

-- where this says whether what was found out lasts
abbrev pub with_lasting : Resolver → Bool → Resolver
with_lasting r lasting = record r { lasting = lasting }

-- with one more step
abbrev pub counted : Resolver → Resolver
counted r = record r { count = r.count + 1 }

-- what holds of its globs at each moment
abbrev pub IsKeptIn : Resolver → Type 0
IsKeptIn r = IsKept (view_of (value_of r.scopes)) r.globs

-- the visibilities of its globs, those under which they brought what stands in a slot, and those of traits without names name modules that are there
abbrev pub ArePlacedIn : Resolver → Type 0
ArePlacedIn r = AreOfKind (IsPlaced r.scopes.map) (view_of (value_of r.scopes)) r.globs.edges (brought_of r.globs)

-- a trait that a module has kept without a name, if it has, has a visibility that names a module that is there
abbrev pub IsTraitPlaced : Resolver → ℕ → Option TraitId → Type 0
IsTraitPlaced r home kept =
    (id : TraitId) (vis : Visibility) → kept ≡ Some id → trait_vis (module_at r.scopes.map home) id ≡ Some vis → IsPlaced r.scopes.map vis

-- what its globs were taken for is recorded
abbrev pub AreRecorded : Resolver → Type 0
AreRecorded r = (i : ℕ) → IsRecorded (state_by r) i

-- ---- what steps change

-- the slot of a name that an import may give in a module
abbrev pub slots_named : ℕ → Option (List ℕ) → List PathSlot
slots_named home None = []
slots_named home (Some name) = of_module home name ∷ []

-- the slots of paths among those of globs: a trait without a name is in none
abbrev pub path_slots : List Slot → List PathSlot
path_slots [] = []
path_slots (s ∷ ss) = slots_named s.at (name_of s.key) ++ path_slots ss

-- a resolver changes what stands in these slots of its map, its globs, takings and count, and nothing else
pub record ChangesSlots (old new : Resolver) (slots : List PathSlot) : Type 0 where
  pub world : new.scopes.world ≡ old.scopes.world
  pub among : ScopesChangeAmong old.scopes.map new.scopes.map old.local slots
  pub local : new.local ≡ old.local
  pub imports : new.imports ≡ old.imports
  pub apart : new.apart ≡ old.apart
  pub lasting : new.lasting ≡ old.lasting
  pub worklist : new.worklist ≡ old.worklist
  pub watchers : new.watchers ≡ old.watchers
  pub reported : new.reported ≡ old.reported

-- an import is taken: what it reached is noted beside its takings before, and the name that it gives may stand for something else
pub record IsTaken (old new : Resolver) (i : ℕ) (taking : Taking) : Type 0 where
  pub changes : ChangesSlots old new (slots_named taking.home taking.name)
  pub taken : (before : TakenValue) → slice_get old.taken.items i ≡ Some before
      → new.taken.items ≡ slice_set old.taken.items i (taken_after before taking.answer)
  pub reported : new.changes ≡ old.changes

-- a glob is recorded: its source is noted beside what it was taken for before, and no scope changes
pub record IsLinked (old new : Resolver) (i : ℕ) (edge : Edge) : Type 0 where
  pub changes : ChangesSlots old new []
  pub scopes : new.scopes ≡ old.scopes
  pub taken : (before : TakenValue) → slice_get old.taken.items i ≡ Some before
      → new.taken.items ≡ slice_set old.taken.items i (taken_for before edge.source)
  pub reported : new.changes ≡ old.changes

-- names went along globs, and each slot that changed is reported
pub record IsSpread (old new : Resolver) : Type 0 where
  pub changes : ChangesSlots old new (path_slots new.changes.items)
  pub taken : new.taken ≡ old.taken
  pub edges : new.globs.edges ≡ old.globs.edges
