-- When does a path mean the same at two times of a map that is built?
use Rattle.std.specs.Prelude.{◌≡◌, ℕ, ◌<◌, ◌≤◌, List, length, Bool, false, ◌&&◌, not, is_some, Option, None, Some, map as list_map, option_map}
use Rattle.std.specs.BTreeMap.{BTreeMap}
use Rattle.std.specs.List.{All}
use Rattle.hir_nameres.specs.HirBase.ModPath.{Path}
use Rattle.hir_nameres.specs.HirIds.declared.ids.AdtId.{AdtId}
use Rattle.hir_nameres.specs.HirIds.declared.ids.Crate.{Crate}
use Rattle.hir_nameres.specs.HirIds.declared.ids.EnumId.{EnumId}
use Rattle.hir_nameres.specs.HirIds.declared.ids.ExternCrateId.{ExternCrateId}
use Rattle.hir_nameres.specs.HirIds.declared.ids.MapId.{MapId}
use Rattle.hir_nameres.specs.HirIds.declared.ids.ModuleDefId.{ModuleDefId}
use Rattle.hir_nameres.specs.HirIds.declared.ids.ModuleId.{ModuleId}
use Rattle.hir_nameres.specs.HirIds.declared.ids.AdtId.TheVariants as adts
use Rattle.hir_nameres.specs.HirIds.declared.ids.ModuleDefId.TheVariants as definitions
use Rattle.hir_nameres.specs.HirIds.contracts.ids.MapIdPartialEq.TheImpl as map_id
use Rattle.hir_nameres.specs.HirPerNs.PerNs.{Item}
use Rattle.hir_nameres.specs.HirPerNs.declared.imports.ImportOrExternCrate.{ImportOrExternCrate}
use Rattle.hir_nameres.specs.HirDefMapRules.Ancestors.{holders_in}
use Rattle.hir_nameres.specs.HirDefMapRules.WellFormed.{AreWellFormed, HasNoDanglingReference}
use Rattle.hir_nameres.specs.HirDefMapRules.References.{map_of_reference, any_reference_in, Fails}
use Rattle.hir_nameres.specs.HirDefMapRules.Reaches.{by_import}
use Rattle.hir_nameres.specs.HirDefMapRules.Scoping.{Resolution, resolution_of}
use Rattle.hir_nameres.specs.HirDefMapRules.Scoping.Asking.{Asking}
use Rattle.hir_nameres.specs.HirDefMapRules.Scoping.FirstSegment.{legacy_of}
use Rattle.hir_nameres.specs.HirDefMapRules.State.{IsInOrder, Local, Map, ModuleValue, Variants, at_name, changed_at, entry_at, module_at, numbered, parent_at}
use Rattle.hir_nameres.specs.HirDefMapRules.State.{variants_at}
use Rattle.hir_nameres.specs.HirDefMapRules.Overlay.{Maps, overlay, map_in, module_in}
use Rattle.hir_nameres.specs.World.{IsChecked, finished_in}
use Rattle.hir_nameres.specs.WorldParts.{among, part_of}
use Rattle.hir_nameres.specs.declared.world.finished.Finished.{Finished}
use Rattle.hir_nameres.specs.declared.nameres.path_resolution.slots.Slot.{Slot}
use Rattle.hir_nameres.specs.declared.world.part.WorldPart.{WorldPart}
use Rattle.hir_nameres.specs.HirDefMapRules.declared.reference.Reference.{Reference}
use Rattle.hir_nameres.specs.HirDefMapRules.declared.reference.Reference.TheVariants as named
use Rattle.hir_nameres.specs.declared.nameres.path_resolution.slots.Slot.TheVariants.{Module as of_module, Preludes as of_preludes}
use Rattle.hir_nameres.specs.Scoping.Slots.{is_in, prelude_module_of, reads}

-- ---- a map beside finished ones

-- whether what is named lies in the map of an id
abbrev pub is_named_in : MapId → Reference → Bool
is_named_in own n = map_id.ghosts.eq (map_of_reference n) own

-- whether an enum of the map has no variants yet
abbrev pub has_no_variants : Map → Reference → Bool
has_no_variants map (named.Module m) = false
has_no_variants map (named.Enum id) = map_id.ghosts.eq id.loc.container.map map.id && not (is_some (variants_at map id))
has_no_variants map (named.Map id) = false

-- the finished maps name nothing in the map of an id, which isn't among them
pub record KeepApart (finished : Maps) (own : MapId) : Type 0 where
  pub absent : finished own ≡ None
  pub modules : (m : ModuleId) (value : ModuleValue) → module_in finished m ≡ Some value → any_reference_in (is_named_in own) value ≡ false
  pub holders : (m : ModuleId) → All (λ (h : ModuleId). is_in own h ≡ false) (holders_in finished m)
  pub preludes : (id : MapId) (p : ModuleId) → prelude_module_of (map_in finished id) ≡ Some p → is_in own p ≡ false

-- a map that is built beside finished maps: its modules come after their parents, and a name stands for an enum of it only once that has its variants
pub record StandsBeside (finished : Maps) (map : Map) : Type 0 where
  pub apart : KeepApart finished map.id
  pub in_order : IsInOrder map
  pub enums : (at : ℕ) (name : List ℕ) → Fails (has_no_variants map) (entry_at map at name)

-- paths begin with crates
abbrev pub BeginsWithCrates : Local → Type 0
BeginsWithCrates local = (name : List ℕ) (entry : ModuleId × Option ExternCrateId) → at_name local name ≡ Some entry → entry.0.map.block ≡ None

-- where a map is that of a block, no path begins with a module of it
abbrev pub BeginsOutside : MapId → Local → Type 0
BeginsOutside own local =
    (name : List ℕ) (entry : ModuleId × Option ExternCrateId) → at_name local name ≡ Some entry → (is_some own.block && is_in own entry.0) ≡ false

-- ---- two times of a map

-- the map has what it had, and may have more modules and enums
pub record Grows (old new : Map) : Type 0 where
  pub id : new.id ≡ old.id
  pub holder : new.holder ≡ old.holder
  pub crate_data : new.crate_data ≡ old.crate_data
  pub prelude : option_map (λ p. p.0) new.prelude ≡ option_map (λ p. p.0) old.prelude
  pub parents : (at : ℕ) (m : ModuleValue) → module_at old at ≡ Some m → parent_at new at ≡ m.parent
  pub enums : (id : EnumId) (variants : Variants) → variants_at old id ≡ Some variants → variants_at new id ≡ Some variants

-- the map has the modules and the variants that it had; what names stand for may differ
pub record DiffersInScopes (one other : Map) : Type 0 where
  pub id : other.id ≡ one.id
  pub holder : other.holder ≡ one.holder
  pub crate_data : other.crate_data ≡ one.crate_data
  pub prelude : option_map (λ p. p.0) other.prelude ≡ option_map (λ p. p.0) one.prelude
  pub parents : list_map (λ (m : ModuleValue). m.parent) other.modules ≡ list_map (λ (m : ModuleValue). m.parent) one.modules
  pub enums : (id : EnumId) → variants_at other id ≡ variants_at one id

-- a name stands for the same in a module, and so does the macro of the name in textual scope
pub record SameInModule (one other : Map) (at : ℕ) (name : List ℕ) : Type 0 where
  pub entries : entry_at other at name ≡ entry_at one at name
  pub legacy : legacy_of (module_at other at) name ≡ legacy_of (module_at one at) name

-- a name stands for the same among the crates and in the `macro_use` prelude
pub record SameInPreludes (one : Map) (one_local : Local) (other : Map) (other_local : Local) (name : List ℕ) : Type 0 where
  pub crates : at_name other_local name ≡ at_name one_local name
  pub macro_uses : at_name other.macro_use_prelude name ≡ at_name one.macro_use_prelude name

-- a slot holds the same in two maps, with the crates that their paths may begin with
abbrev pub AgreeAt : Map → Local → Map → Local → Slot → Type 0
AgreeAt one one_local other other_local (of_module at name) = SameInModule one other at name
AgreeAt one one_local other other_local (of_preludes name) = SameInPreludes one one_local other other_local name

-- asked the same, with other crates
abbrev pub with_crates : Asking → Local → Asking
with_crates asking local = record asking { local = local }

-- ---- the law

-- a path means the same in both maps, and looks at the same slots
pub record IsReadAlike (finished : Maps) (one : Map) (asking : Asking) (other : Map) (local : Local) (from : ModuleId) (path : Path) : Type 0 where
  pub answers : resolution_of (overlay finished other) (with_crates asking local) from path ≡ resolution_of (overlay finished one) asking from path
  pub slots : reads finished (with_crates asking local) other from path ≡ reads finished asking one from path

-- a path that is asked from a module of the map means the same as long as no slot changes that it looks at
abbrev pub ReadsDecide : Type 0
ReadsDecide = (finished : Maps) (one other : Map) (asking : Asking) (local : Local) (at : ℕ) (path : Path)
    → StandsBeside finished one → BeginsWithCrates asking.local → at < length one.modules → Grows one other
    → All (AgreeAt one asking.local other local) (reads finished asking one (numbered one.id at) path)
    → IsReadAlike finished one asking other local (numbered one.id at) path

-- so does an import's
abbrev pub ImportsReadAlike : Type 0
ImportsReadAlike = (finished : Maps) (one : Map) (one_local : Local) (other : Map) (other_local : Local) (at : ℕ) (path : Path)
    → StandsBeside finished one → BeginsWithCrates one_local → at < length one.modules → Grows one other
    → All (AgreeAt one one_local other other_local) (reads finished (by_import one_local) one (numbered one.id at) path)
    → resolution_of (overlay finished other) (by_import other_local) (numbered one.id at) path ≡ resolution_of (overlay finished one) (by_import one_local)
    (numbered one.id at) path

-- ---- paths that stop at no enum without variants

-- whether a type is an enum of the map that has no variants yet
abbrev pub is_bare_adt : Map → AdtId → Bool
is_bare_adt map (adts.EnumId id) = has_no_variants map (named.Enum id)
is_bare_adt map _ = false

-- whether a definition is one
abbrev pub is_bare_def : Map → ModuleDefId → Bool
is_bare_def map (definitions.AdtId adt) = is_bare_adt map adt
is_bare_def map _ = false

-- whether an item is there whose definition is one
abbrev pub is_bare : Map → Option (Item ModuleDefId ImportOrExternCrate) → Bool
is_bare map None = false
is_bare map (Some item) = is_bare_def map item.def

-- whether an answer stops at an enum of the map that has no variants yet
abbrev pub stops_bare : Map → Resolution → Bool
stops_bare map answer = is_some answer.segment_index && is_bare map answer.resolved_def.types

-- a path of a crate's map that doesn't stop at an enum without variants means the same as long as no slot changes that it looks at, whatever modules and variants come
abbrev pub UnstoppedReadsDecide : Type 0
UnstoppedReadsDecide = (finished : Maps) (one other : Map) (asking : Asking) (local : Local) (at : ℕ) (path : Path)
    → KeepApart finished one.id → one.id.block ≡ None → IsInOrder one → at < length one.modules → Grows one other → length one.modules ≤ length other.modules
    → stops_bare one (resolution_of (overlay finished one) asking (numbered one.id at) path) ≡ false
    → All (AgreeAt one asking.local other local) (reads finished asking one (numbered one.id at) path)
    → IsReadAlike finished one asking other local (numbered one.id at) path

-- ---- maps that change in their scopes alone

-- where a map changes in its scopes alone, it's enough that the finished maps name nothing in it
abbrev pub ScopesReadAlike : Type 0
ScopesReadAlike = (finished : Maps) (one other : Map) (asking : Asking) (at : ℕ) (path : Path)
    → KeepApart finished one.id → BeginsOutside one.id asking.local → DiffersInScopes one other
    → All (AgreeAt one asking.local other asking.local) (reads finished asking one (numbered one.id at) path)
    → IsReadAlike finished one asking other asking.local (numbered one.id at) path

-- a change of a module that leaves what it is in is one of scopes alone
abbrev pub ChangedModulesDifferInScopes : Type 0
ChangedModulesDifferInScopes = (map : Map) (at : ℕ) (change : ModuleValue → ModuleValue) → ((m : ModuleValue) → (change m).parent ≡ m.parent)
    → DiffersInScopes map (record map { modules = changed_at map.modules at change })

-- a crate's map is none of a block, and crates lie outside of blocks
abbrev pub CrateMapsBeginOutside : Type 0
CrateMapsBeginOutside = (own : MapId) (local : Local) → own.block ≡ None → BeginsOutside own local

abbrev pub CratesAreOutside : Type 0
CratesAreOutside = (own : MapId) (local : Local) → BeginsWithCrates local → BeginsOutside own local

-- ---- finished maps

-- a map that names only what is there stands beside finished maps that do
abbrev pub WholeMapsStandBeside : Type 0
WholeMapsStandBeside =
    (finished : Maps) (map : Map) → AreWellFormed finished → finished map.id ≡ None → HasNoDanglingReference (overlay finished map) map
    → StandsBeside finished map

-- such maps name nothing in a map that isn't among them
abbrev pub WholeMapsKeepApart : Type 0
WholeMapsKeepApart = (finished : Maps) (own : MapId) → AreWellFormed finished → finished own ≡ None → KeepApart finished own

-- neither do those of a world
abbrev pub WorldsKeepApart : Type 0
WorldsKeepApart = (maps : BTreeMap MapId Finished) (own : MapId) → IsChecked maps → finished_in maps own ≡ None → KeepApart (finished_in maps) own

-- nor some of them
abbrev pub SomeMapsKeepApart : Type 0
SomeMapsKeepApart =
    (crates : List Crate) (holders : List ModuleId) (finished : Maps) (own : MapId) → KeepApart finished own → KeepApart (among crates holders finished) own

-- nor those of a part of a world
abbrev pub PartsKeepApart : Type 0
PartsKeepApart = (part : WorldPart) (own : MapId) → finished_in part.maps.now own ≡ None → KeepApart (part_of part) own
