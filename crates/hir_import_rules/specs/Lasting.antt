-- What of imports and globs lasts as a map grows?
use Rattle.std.specs.Prelude.{◌≡◌, ℕ, ◌<◌, true, false, List, None, Some, length, slice_get}
use Rattle.std.specs.List.{All}
use Rattle.hir_nameres.specs.HirIds.declared.ids.ModuleId.{ModuleId}
use Rattle.hir_nameres.specs.HirScope.Globs.{GlobNames}
use Rattle.hir_nameres.specs.HirPerNs.declared.visibility.Visibility.{Visibility}
use Rattle.hir_nameres.specs.HirPerNs.declared.visibility.Visibility.TheVariants as visibilities
use Rattle.hir_nameres.specs.HirDefMapRules.Overlay.{Maps, placed_in}
use Rattle.hir_nameres.specs.Scoping.Slots.{is_in}
use Rattle.hir_nameres.specs.HirDefMapRules.State.{IsInOrder, Map}
use Rattle.hir_nameres.specs.declared.nameres.path_resolution.slots.Slot.{Slot as PathSlot}
use Rattle.hir_nameres.specs.declared.nameres.path_resolution.slots.Slot.TheVariants.{Module as of_module, Preludes as of_preludes}
use Rattle.hir_nameres.specs.HirDefMapRules.declared.reference.Reference.TheVariants as named
use Rattle.hir_def_map_laws.specs.ReadLaw.{has_no_variants, stops_bare}
use Rattle.hir_glob_imports.specs.Waves.{AreOfKind}
use Rattle.hir_glob_imports.specs.declared.edge.Edge.{Edge}
use Rattle.hir_glob_imports.specs.declared.edge.Target.{Target}
use Rattle.hir_glob_imports.specs.declared.edge.Target.TheVariants as targets
use Rattle.hir_import_rules.specs.declared.directive.ImportDirective.{ImportDirective}
use Rattle.hir_import_rules.specs.Directives.{path_answer}
use Rattle.hir_import_rules.specs.Names.{ScopesValue, view_of}
use Rattle.hir_import_rules.specs.State.{ImportState, scopes_of}

-- ---- imports

-- a slot is one of a module that is there, or of the preludes
abbrev pub IsThere : ℕ → PathSlot → Type 0
IsThere modules (of_module at name) = at < modules
IsThere modules (of_preludes name) = Unit {0}

-- the path of an import doesn't stop at an enum without variants, and these slots, which it reads, are of modules that are there
pub record IsFirm (finished : Maps) (s : ImportState) (r : ImportDirective) (slots : List PathSlot) : Type 0 where
  pub unstopped : stops_bare s.map (path_answer finished s.local s.map r) ≡ false
  pub there : All (IsThere (length s.map.modules)) slots

-- ---- globs

-- a module that a visibility names is there, where it lies in the map
abbrev pub IsPlaced : Map → Visibility → Type 0
IsPlaced map visibilities.Public = Unit {0}
IsPlaced map (visibilities.PubCrate krate) = Unit {0}
IsPlaced map (visibilities.Module m explicitness) = is_in map.id m ≡ true → m.index < length map.modules

-- an enum that is a target has its variants, where it lies in the map
abbrev pub HasVariants : Map → Target → Type 0
HasVariants map (targets.Own at) = Unit {0}
HasVariants map (targets.Module m) = Unit {0}
HasVariants map (targets.Enum id) = has_no_variants map (named.Enum id) ≡ false

-- a map beside finished ones, and the names that globs brought
abbrev pub beside : Maps → Map → GlobNames → ScopesValue
beside finished map globs = record { finished = finished; map = map; globs = globs }

-- its modules come after what they are in, and what holds it lies outside
pub record IsOrdered (finished : Maps) (map : Map) : Type 0 where
  pub in_order : IsInOrder map
  pub holders : All (λ (h : ModuleId). is_in map.id h ≡ false) (placed_in finished map).holders

-- what holds of the globs of a crate's map lasts as it grows: their visibilities, those under which they brought what stands in a slot, and those of traits without names, name modules that are there, and they lead out of enums that have their variants
pub record Lasts (finished : Maps) (s : ImportState) : Type 0 where
  pub of_crate : s.map.id.block ≡ None
  pub ordered : IsOrdered finished s.map
  pub placed : AreOfKind (IsPlaced s.map) (view_of (scopes_of finished s)) s.edges s.brought
  pub enums : (j : ℕ) (e : Edge) → slice_get s.edges j ≡ Some e → HasVariants s.map e.source
