-- What does an import reach?
use Rattle.std.specs.Prelude.{Bool, ◌||◌, is_some, None}
use Rattle.hir_base.specs.ModPath.{Path}
use Rattle.hir_scope.specs.HirIds.declared.ids.ModuleId.{ModuleId}
use Rattle.hir_scope.specs.HirPerNs.declared.per_ns.PerNs.{PerNs}
use Rattle.hir_def_map_rules.specs.State.{Local}
use Rattle.hir_def_map_rules.specs.Overlay.{Maps}
use Rattle.hir_def_map_rules.specs.Scoping.{resolution_of}
use Rattle.hir_def_map_rules.specs.Scoping.Asking.{Asking}
use Rattle.hir_def_map_rules.specs.declared.path_result.ResolveMode.TheVariants as modes
use Rattle.hir_base.specs.declared.resolve_mode.BuiltinShadowMode.TheVariants as shadow_modes

-- how an import asks
abbrev pub by_import : Local → Asking
by_import local = record { local = local; mode = modes.Import; shadow = shadow_modes.Module; sub_ns = None }

-- what an import's path leads to, also where it stops early
abbrev pub reached_items : Maps → Local → ModuleId → Path → PerNs
reached_items maps local from path = (resolution_of maps (by_import local) from path).resolved_def

-- whether a name stands for anything
abbrev pub is_bound : PerNs → Bool
is_bound items = is_some items.types || (is_some items.values || is_some items.macros)

-- whether an import reaches anything
abbrev pub is_reached : Maps → Local → ModuleId → Path → Bool
is_reached maps local from path = is_bound (reached_items maps local from path)
