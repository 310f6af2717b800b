-- When does all that is named lie among the maps?
use Rattle.std.specs.Prelude.{◌≡◌, ℕ, true, false, is_some, List, Option, None, Some}
use Rattle.std.specs.List.{All}
use Rattle.hir_base.specs.ModPath.{Path}
use Rattle.hir_scope.specs.HirIds.declared.ids.Crate.{Crate}
use Rattle.hir_scope.specs.HirIds.declared.ids.EnumId.{EnumId}
use Rattle.hir_scope.specs.HirIds.declared.ids.ExternCrateId.{ExternCrateId}
use Rattle.hir_scope.specs.HirIds.declared.ids.MapId.{MapId}
use Rattle.hir_scope.specs.HirIds.declared.ids.ModuleDefId.{ModuleDefId}
use Rattle.hir_scope.specs.HirIds.declared.ids.ModuleId.{ModuleId}
use Rattle.hir_scope.specs.HirPerNs.declared.per_ns.PerNs.{PerNs}
use Rattle.hir_scope.specs.HirPerNs.declared.visibility.Visibility.{Visibility}
use Rattle.hir_def_map_rules.specs.State.{Local, at_name, root_of}
use Rattle.hir_def_map_rules.specs.Overlay.{Maps, entry_in, map_in, module_in, parent_in}
use Rattle.hir_def_map_rules.specs.Ancestors.{holders_in}
use Rattle.hir_def_map_rules.specs.References.{crate_map, is_missing, reference_to, test_of, test_visibility, Fails}
use Rattle.hir_def_map_rules.specs.Scoping.{resolution_of}
use Rattle.hir_def_map_rules.specs.Scoping.Asking.{Asking}
use Rattle.hir_def_map_rules.specs.Scoping.Segments.{variant_in}
use Rattle.hir_def_map_rules.specs.Scoping.Start.{is_dependency}
use Rattle.hir_map_parts.specs.declared.enum_variants.EnumVariant.{EnumVariant}

-- the module is there
abbrev pub ModuleIsThere : Maps → ModuleId → Type 0
ModuleIsThere maps m = is_some (module_in maps m) ≡ true

-- the map is there
abbrev pub MapIsThere : Maps → MapId → Type 0
MapIsThere maps id = is_some (maps id) ≡ true

-- a definition that is a module or an enum is there, and so is a variant's enum
abbrev pub IsThere : Maps → ModuleDefId → Type 0
IsThere maps def = test_of (is_missing maps) (reference_to def) ≡ false

-- the module that a visibility names is there
abbrev pub VisibilityIsThere : Maps → Visibility → Type 0
VisibilityIsThere maps vis = test_visibility (is_missing maps) vis ≡ false

-- what the items are is there, and so are the modules that may see them
abbrev pub AreThere : Maps → PerNs → Type 0
AreThere maps items = Fails (is_missing maps) items

-- all that is named in the maps lies among them
pub record IsClosed (maps : Maps) : Type 0 where
  -- a map has a root
  pub roots : (id : MapId) → MapIsThere maps id → ModuleIsThere maps (root_of id)
  -- so have the crate of each module, and the crates on which that stands
  pub crates : (m : ModuleId) → ModuleIsThere maps m → MapIsThere maps (crate_map m.map.krate)
  pub dependencies : (id : MapId) (c : Crate) → is_dependency (map_in maps id) c ≡ true → MapIsThere maps (crate_map c)
  -- what a module is in is there, and what holds its map
  pub parents : (m p : ModuleId) → parent_in maps m ≡ Some p → ModuleIsThere maps p
  pub holders : (m : ModuleId) → All (ModuleIsThere maps) (holders_in maps m)
  -- so is what its names stand for
  pub names : (m : ModuleId) (name : List ℕ) → AreThere maps (entry_in maps m name)
  -- a variant is that of its enum
  pub variants : (id : EnumId) (name : List ℕ) (variant : EnumVariant) → variant_in maps id name ≡ Some variant → variant.id.parent ≡ id

-- the crates that a path may begin with are there
pub record LocalIsThere (maps : Maps) (local : Local) : Type 0 where
  pub modules : (name : List ℕ) (entry : ModuleId × Option ExternCrateId) → at_name local name ≡ Some entry → ModuleIsThere maps entry.0

-- a path leads only to what is there
abbrev pub PathsLeadToWhatIsThere : Type 0
PathsLeadToWhatIsThere = (maps : Maps) (asking : Asking) (from : ModuleId) (path : Path)
    → IsClosed maps → LocalIsThere maps asking.local → ModuleIsThere maps from → AreThere maps (resolution_of maps asking from path).resolved_def
