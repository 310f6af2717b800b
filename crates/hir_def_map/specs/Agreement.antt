-- Which finished maps do two worlds have alike?
use Rattle.std.specs.Prelude.{Bool, ◌&&◌}
use Rattle.std.specs.Option.{option_eq}
use Rattle.std.specs.BTreeMap.{BTreeMap}
use Rattle.hir_nameres.specs.HirIds.declared.ids.MapId.{MapId}
use Rattle.hir_nameres.specs.declared.world.finished.Finished.{Finished}
use Rattle.hir_def_map_rules.specs.Equality.{same_def_map, same_local}
use Rattle.hir_def_map_rules.specs.Overlay.{map_in}
use Rattle.hir_nameres.specs.World.{finished_in, local_in}

-- whether both have an equal map with equal crates for its paths to begin with, or neither has one
abbrev pub agrees_at : BTreeMap MapId Finished → BTreeMap MapId Finished → MapId → Bool
agrees_at one other id =
    option_eq same_def_map (map_in (finished_in one) id) (map_in (finished_in other) id) && option_eq same_local (local_in one id) (local_in other id)
