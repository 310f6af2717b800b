-- The list has the references of the map.
use Rattle.std.proofs.Common.{◌∙◌}
use Rattle.hir_def_map_rules.specs.Overlay.{overlay}
use Rattle.hir_def_map_rules.specs.References.{is_missing}
use Rattle.hir_nameres.specs.World.{finished_in}
use Rattle.hir_def_map_rules.proofs.References.{any_is}
use Rattle.hir_def_map.proofs.world.World.has_dangling.Goals as goal

pub returns : goal.returns
returns c = record {
  value = c.has_listed_dangling.ensures.value ∙ any_is (is_missing (overlay (finished_in c.args.self.now.maps) c.args.map.now)) c.args.map.now c.args.local.now;
}
