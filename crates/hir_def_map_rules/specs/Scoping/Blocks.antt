-- What does a path mean that is asked from inside a block?
use Rattle.std.specs.Prelude.{ℕ, List, [], ◌∷◌, max, ◌&&◌, ◌||◌, not, is_some, Option, None, Some, cond}
use Rattle.hir_scope.specs.HirIds.declared.ids.ModuleId.{ModuleId}
use Rattle.hir_base.specs.declared.mod_path.PathKind.{PathKind}
use Rattle.hir_base.specs.declared.mod_path.PathKind.TheVariants as kinds
use Rattle.hir_scope.specs.HirPerNs.PerNs.{or_of}
use Rattle.hir_def_map_rules.specs.Overlay.{Maps, map_in}
use Rattle.hir_def_map_rules.specs.Ancestors.{holders_in}
use Rattle.hir_def_map_rules.specs.Scoping.Asking.{Asking}
use Rattle.hir_def_map_rules.specs.Scoping.FirstSegment.{extern_name, is_block_root, name_in_preludes}
use Rattle.hir_def_map_rules.specs.Scoping.Segments.{rest, unresolved}
use Rattle.hir_def_map_rules.specs.Scoping.Start.{abs_from, crate_root, from_start, is_import, is_in_edition_2015}
use Rattle.hir_def_map_rules.specs.declared.path_result.ReachedFixedPoint.{ReachedFixedPoint}
use Rattle.hir_def_map_rules.specs.declared.path_result.ReachedFixedPoint.TheVariants.{Yes, No}
use Rattle.hir_def_map_rules.specs.declared.path_result.ResolvePathResult.{ResolvePathResult}

-- a path in the preludes of a crate, asked from its root; a path with a root of its own names nothing there
abbrev pub in_preludes : Maps → Asking → ModuleId → PathKind → List (List ℕ) → ResolvePathResult
in_preludes maps asking root kinds.Crate segments = unresolved Yes
in_preludes maps asking root (kinds.DollarCrate c) segments = unresolved Yes
in_preludes maps asking root (kinds.Super n) segments = unresolved Yes
in_preludes maps asking root kinds.Plain [] = unresolved Yes
in_preludes maps asking root kinds.Plain (segment ∷ others) =
    cond (is_in_edition_2015 (map_in maps root.map) && is_import asking.mode)
    (rest maps root others 1 (extern_name asking.local segment))
    (rest maps root others 1 (name_in_preludes maps asking.local root segment))
in_preludes maps asking root kinds.Abs [] = unresolved Yes
in_preludes maps asking root kinds.Abs (segment ∷ others) =
    cond (is_in_edition_2015 (map_in maps root.map))
    (rest maps root others 1 (extern_name asking.local segment))
    (abs_from maps root others (extern_name asking.local segment))

-- ---- answers of several maps

-- the later of two stops, or the one that is there
abbrev pub later_stop : Option ℕ → Option ℕ → Option ℕ
later_stop None b = b
later_stop (Some a) None = Some a
later_stop (Some a) (Some b) = Some (max a b)

abbrev pub either_reached : ReachedFixedPoint → ReachedFixedPoint → ReachedFixedPoint
either_reached Yes b = Yes
either_reached No b = b

-- an answer, and what another has besides
abbrev pub joined : ResolvePathResult → ResolvePathResult → ResolvePathResult
joined a b = record {
  resolved_def = or_of a.resolved_def b.resolved_def;
  segment_index = later_stop a.segment_index b.segment_index;
  reached_fixedpoint = either_reached a.reached_fixedpoint b.reached_fixedpoint;
  prefix_info = record {
    differing_crate = a.prefix_info.differing_crate || b.prefix_info.differing_crate;
    enum_variant = a.prefix_info.enum_variant || b.prefix_info.enum_variant;
  };
}

-- a module inside a block that isn't its root has the preludes of the crate
abbrev pub with_preludes : Maps → Asking → PathKind → List (List ℕ) → ResolvePathResult → ModuleId → ResolvePathResult
with_preludes maps asking kind segments r m =
    cond (is_some m.map.block && not (is_block_root m)) (joined r (in_preludes maps asking (crate_root m.map.krate) kind segments)) r

-- a block's root has what its holder has too, and so on outwards
abbrev pub inherited : Maps → Asking → PathKind → List (List ℕ) → ResolvePathResult → ModuleId → List ModuleId → ResolvePathResult
inherited maps asking kind segments r m [] = with_preludes maps asking kind segments r m
inherited maps asking kind segments r m (h ∷ holders) =
    cond (is_block_root m)
    (inherited maps asking kind segments (joined r (from_start maps asking h kind segments)) h holders)
    (with_preludes maps asking kind segments r m)

-- a path, its root and its segments apart
abbrev pub from_blocks : Maps → Asking → ModuleId → PathKind → List (List ℕ) → ResolvePathResult
from_blocks maps asking from kind segments = inherited maps asking kind segments (from_start maps asking from kind segments) from (holders_in maps from)
