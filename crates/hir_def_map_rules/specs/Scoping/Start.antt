-- Where does a path start?
use Rattle.std.specs.Prelude.{ℕ, zero, suc, List, [], ◌∷◌, Bool, false, ◌&&◌, ◌||◌, not, is_some, Option, None, Some, cond, option_and_then}
use Rattle.std.specs.List.{list_any}
use Rattle.hir_scope.specs.HirIds.declared.ids.Crate.{Crate}
use Rattle.hir_scope.specs.HirIds.declared.edition.Edition.{Edition}
use Rattle.hir_base.specs.declared.mod_path.PathKind.{PathKind}
use Rattle.hir_scope.specs.HirIds.declared.edition.Edition.TheVariants as editions
use Rattle.hir_scope.specs.HirIds.declared.ids.ModuleId.{ModuleId as AnyModule}
use Rattle.hir_scope.specs.HirIds.declared.ids.ModuleDefId.TheVariants.{ModuleId}
use Rattle.hir_base.specs.declared.mod_path.PathKind.TheVariants as kinds
use Rattle.hir_scope.specs.HirPerNs.declared.per_ns.PerNs.{PerNs}
use Rattle.hir_scope.specs.HirPerNs.declared.visibility.Visibility.TheVariants.{Public}
use Rattle.hir_scope.specs.HirPerNs.ModuleTree.{same_block, same_crate}
use Rattle.hir_scope.specs.HirPerNs.PerNs.{types_only}
pub use Rattle.hir_def_map_rules.specs.State.{crate_root}
use Rattle.hir_def_map_rules.specs.State.{Map}
use Rattle.hir_def_map_rules.specs.Overlay.{Maps, map_in, parent_in}
use Rattle.hir_def_map_rules.specs.Scoping.Asking.{Asking}
use Rattle.hir_def_map_rules.specs.Scoping.FirstSegment.{extern_name, is_block_root, name_in_module, name_in_crate_root_or_extern_prelude, shadow_before}
use Rattle.hir_def_map_rules.specs.Scoping.Segments.{nearest_non_block_module, rest, unresolved}
use Rattle.hir_def_map_rules.specs.declared.path_result.ResolveMode.{ResolveMode}
use Rattle.hir_def_map_rules.specs.declared.path_result.ResolveMode.TheVariants as modes
use Rattle.hir_def_map_rules.specs.declared.path_result.ReachedFixedPoint.TheVariants.{Yes, No}
use Rattle.hir_def_map_rules.specs.declared.path_result.ResolvePathResult.{ResolvePathResult}

-- a module, which all may see
abbrev pub module_bound : AnyModule → PerNs
module_bound m = types_only (ModuleId m) Public None

-- ---- what a crate's data say

abbrev pub is_edition_2015 : Edition → Bool
is_edition_2015 editions.Edition2015 = Bool.true
is_edition_2015 _ = false

abbrev pub is_in_edition_2015 : Option Map → Bool
is_in_edition_2015 None = false
is_in_edition_2015 (Some map) = is_edition_2015 map.crate_data.edition

abbrev pub is_import : ResolveMode → Bool
is_import modes.Import = Bool.true
is_import modes.Other = false

-- whether a crate is one on which another stands
abbrev pub is_dependency : Option Map → Crate → Bool
is_dependency None c = false
is_dependency (Some map) c = list_any (same_crate c) map.crate_data.dependencies

-- whether `$crate` may name a crate: the asking module's own, or one on which that stands
abbrev pub is_in_reach : Maps → AnyModule → Crate → Bool
is_in_reach maps from c = same_crate c from.map.krate || is_dependency (map_in maps from.map) c

-- ---- roots

-- the module so many levels above, where there are as many; a block's root counts as the module that holds it
abbrev pub climb : Maps → ℕ → AnyModule → Option AnyModule
climb maps zero m = Some m
climb maps (suc n) m = option_and_then (λ p. climb maps n (nearest_non_block_module maps p)) (parent_in maps m)

-- an answer that is settled where the path led into a module inside another block, which asks the preludes too
abbrev pub settled_in_block : AnyModule → ResolvePathResult → ResolvePathResult
settled_in_block m r = cond (is_some m.map.block && not (is_block_root m)) (record r { reached_fixedpoint = Yes }) r

-- a path from the module that `super` leads to, asked there where it lies in another map; past the root it names nothing
abbrev pub super_from : Maps → AnyModule → List (List ℕ) → Option AnyModule → ResolvePathResult
super_from maps from segments None = unresolved Yes
super_from maps from segments (Some m) =
    cond (same_block m.map.block from.map.block)
    (rest maps from segments 0 (module_bound m))
    (settled_in_block m (rest maps m segments 0 (module_bound m)))

-- a path from what the extern prelude names
abbrev pub abs_from : Maps → AnyModule → List (List ℕ) → PerNs → ResolvePathResult
abs_from maps from others names = cond (is_some names.types) (rest maps from others 1 names) (unresolved No)

-- a path, its root and its segments apart, asked from a module of a map
abbrev pub from_start : Maps → Asking → AnyModule → PathKind → List (List ℕ) → ResolvePathResult
from_start maps asking from kinds.Crate segments = rest maps from segments 0 (module_bound (crate_root from.map.krate))
from_start maps asking from (kinds.DollarCrate c) segments =
    cond (is_in_reach maps from c) (rest maps from segments 0 (module_bound (crate_root c))) (unresolved No)
from_start maps asking from (kinds.Super n) segments = super_from maps from segments (climb maps n (nearest_non_block_module maps from))
from_start maps asking from kinds.Plain [] = unresolved Yes
from_start maps asking from kinds.Plain (segment ∷ others) =
    cond (is_in_edition_2015 (map_in maps from.map) && is_import asking.mode)
    (rest maps from others 1 (name_in_crate_root_or_extern_prelude maps asking.local from segment))
    (rest maps from others 1 (name_in_module maps asking.local asking.sub_ns (shadow_before others asking.shadow) from segment))
from_start maps asking from kinds.Abs [] = unresolved Yes
from_start maps asking from kinds.Abs (segment ∷ others) =
    cond (is_in_edition_2015 (map_in maps from.map))
    (rest maps from others 1 (name_in_crate_root_or_extern_prelude maps asking.local from segment))
    (abs_from maps from others (extern_name asking.local segment))
