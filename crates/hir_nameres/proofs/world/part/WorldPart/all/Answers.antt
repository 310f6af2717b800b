-- The maps are those of the world, which are checked.
use Rattle.std.proofs.Common.{ap, subst, sym}
use Rattle.hir_nameres.specs.World.{IsChecked, finished_in}
use Rattle.hir_nameres.specs.WorldParts.{part_of}
use Rattle.hir_nameres.proofs.world.part.WorldPart.all.Goals as goal

pub invariant_of-result : goal.invariant_of-result
invariant_of-result g c = record { checked = subst IsChecked (sym c.finished_maps.ensures.value) (g.W.FinishedMaps.checked c.args.world.now) }

pub returns : goal.returns
unfolding part_of
returns g c = record { value = ap finished_in c.finished_maps.ensures.value }
