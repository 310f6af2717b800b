-- What does a path mean, asked from a module?
use Rattle.hir_base.specs.ModPath.{Path}
use Rattle.hir_scope.specs.HirIds.declared.ids.ModuleId.{ModuleId}
use Rattle.hir_def_map_rules.specs.Overlay.{Maps}
use Rattle.hir_def_map_rules.specs.Scoping.Asking.{Asking as Asked}
use Rattle.hir_def_map_rules.specs.Scoping.Blocks.{from_blocks}
use Rattle.hir_def_map_rules.specs.declared.path_result.ResolvePathResult.{ResolvePathResult}
pub mod Asking
pub mod FirstSegment
pub mod Segments
pub mod Start
pub mod Blocks

-- the answer
abbrev pub Resolution : Type 0
Resolution = ResolvePathResult

-- what a path means
abbrev pub resolution_of : Maps → Asked → ModuleId → Path → Resolution
resolution_of maps asking from path = from_blocks maps asking from path.kind path.segments
