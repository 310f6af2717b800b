-- What does a written visibility mean?
use Rattle.std.specs.Prelude.{ℕ, Bool, true, false, ◌||◌, Option, None, Some, cond, unwrap_or}
use Rattle.hir_scope.specs.HirIds.declared.ids.MapId.{MapId}
use Rattle.hir_scope.specs.HirIds.declared.ids.ModuleDefId.{ModuleDefId}
use Rattle.hir_scope.specs.HirIds.declared.ids.ModuleId.{ModuleId}
use Rattle.hir_scope.specs.HirIds.declared.ids.ModuleDefId.TheVariants as definitions
use Rattle.hir_raw_visibility.specs.declared.raw_visibility.RawVisibility.{RawVisibility}
use Rattle.hir_scope.specs.HirIds.declared.explicitness.VisibilityExplicitness.{VisibilityExplicitness}
use Rattle.hir_raw_visibility.specs.declared.raw_visibility.RawVisibility.TheVariants as raws
use Rattle.hir_scope.specs.HirPerNs.declared.imports.ImportOrExternCrate.{ImportOrExternCrate}
use Rattle.hir_scope.specs.HirPerNs.declared.per_ns.PerNs.{PerNs}
use Rattle.hir_scope.specs.HirPerNs.declared.visibility.Visibility.{Visibility}
use Rattle.hir_scope.specs.HirPerNs.PerNs.{Item}
use Rattle.hir_scope.specs.HirPerNs.declared.visibility.Visibility.TheVariants.{Module, PubCrate, Public}
use Rattle.hir_scope.specs.HirPerNs.ModuleTree.{same_map}
use Rattle.hir_def_map_rules.specs.State.{Local, root_of}
use Rattle.hir_def_map_rules.specs.Overlay.{Maps}
use Rattle.hir_def_map_rules.specs.Scoping.{Resolution, resolution_of}
use Rattle.hir_def_map_rules.specs.Scoping.Asking.{Asking, by_other}
use Rattle.hir_base.specs.declared.resolve_mode.BuiltinShadowMode.TheVariants as shadow_modes

-- how the path of a visibility is asked for
abbrev pub by_visibility : Local → Asking
by_visibility local = by_other local shadow_modes.Module None

-- a module that a path names; outside the map in which the visibility is written, its root stands for it, unless in an impl
abbrev pub within_map : Bool → MapId → ModuleId → ModuleId
within_map within_impl map m = cond (within_impl || same_map m.map map) m (root_of map)

abbrev pub module_seen : Bool → MapId → VisibilityExplicitness → ModuleDefId → Option Visibility
module_seen within_impl map explicitness (definitions.ModuleId m) = Some (Module (within_map within_impl map m) explicitness)
module_seen within_impl map explicitness _ = None

abbrev pub type_seen : Bool → MapId → VisibilityExplicitness → Option (Item ModuleDefId ImportOrExternCrate) → Option Visibility
type_seen within_impl map explicitness None = None
type_seen within_impl map explicitness (Some item) = module_seen within_impl map explicitness item.def

-- a visibility in the module that a path reaches; a path that stops early or reaches no module names none
abbrev pub path_seen : Bool → MapId → VisibilityExplicitness → Option ℕ → PerNs → Option Visibility
path_seen within_impl map explicitness None items = type_seen within_impl map explicitness items.types
path_seen within_impl map explicitness (Some i) items = None

abbrev pub answer_seen : Bool → MapId → VisibilityExplicitness → Resolution → Option Visibility
answer_seen within_impl map explicitness answer = path_seen within_impl map explicitness answer.segment_index answer.resolved_def

-- what a visibility means that is written in a module, where it means any
abbrev pub resolved_visibility : Maps → Local → ModuleId → Bool → RawVisibility → Option Visibility
resolved_visibility maps local at within_impl (raws.Module path e) = answer_seen within_impl at.map e (resolution_of maps (by_visibility local) at path)
resolved_visibility maps local at within_impl (raws.PubSelf e) = Some (Module at e)
resolved_visibility maps local at within_impl raws.PubCrate = Some (PubCrate at.map.krate)
resolved_visibility maps local at within_impl raws.Public = Some Public

-- what it means, where one that means none counts as public
abbrev pub written_visibility : Maps → Local → ModuleId → Bool → RawVisibility → Visibility
written_visibility maps local at within_impl raw = unwrap_or (resolved_visibility maps local at within_impl raw) Public

-- who may see an associated item: an item of a trait has the trait's visibility, an item of an impl its own
abbrev pub assoc_visibility_of : Maps → Local → ModuleId → Option RawVisibility → RawVisibility → Visibility
assoc_visibility_of maps local at (Some of_trait) raw = written_visibility maps local at false of_trait
assoc_visibility_of maps local at None raw = written_visibility maps local at true raw
