-- The maps are those of the world, which are checked.
use Rattle.std.proofs.Common.{ap, subst, sym}
use Rattle.std.specs.BTreeMap.{BTreeMap}
use Rattle.hir_def_map_rules.specs.HirIds.declared.ids.MapId.{MapId}
use Rattle.hir_nameres.specs.World.{IsChecked, finished_in}
use Rattle.hir_nameres.specs.WorldParts.{among, part_of}
use Rattle.hir_nameres.specs.declared.world.finished.Finished.{Finished}
use Rattle.hir_nameres.proofs.world.part.WorldPart.among.Goals as goal

pub invariant_of-result : goal.invariant_of-result
invariant_of-result g c = record { checked = subst IsChecked (sym c.finished_maps.ensures.value) (g.W.FinishedMaps.checked c.args.world.now) }

pub returns : goal.returns
unfolding part_of
returns g c = record { value = ap (λ (maps : BTreeMap MapId Finished). among c.args.crates.now c.args.holders.now (finished_in maps)) c.finished_maps.ensures.value }
