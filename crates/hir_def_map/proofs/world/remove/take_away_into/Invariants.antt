-- What is away and is listed waits, and is among those that are removed.
use Rattle.std.proofs.Common.{◌+◌, ◌≤◌}
use Rattle.std.specs.Vec.{vec_capacity, vec_len}
use Rattle.std.specs.BTreeMap.{btree_map_len}
use Rattle.hir_def_map.specs.Inner.Dependents.{IsIndexed}
use Rattle.hir_nameres.specs.Removal.{GainsRemoved}
use Rattle.hir_def_map.proofs.FallingSteps.{IsHalfFallen}
use Rattle.hir_def_map.proofs.world.remove.take_away_into.Given as goal

abbrev pub invariant-fall : goal.invariant-fall
invariant-fall l = record {
  falls : IsHalfFallen l.fn.maps l.maps l.falling.items l.fn.id;
  indexed : IsIndexed l.dependents l.maps;
  room : btree_map_len l.maps + vec_len l.falling ≤ vec_capacity l.falling;
  removed : GainsRemoved l.fn.maps l.maps l.fn.removed.items l.removed.items;
  place : btree_map_len l.maps + vec_len l.removed ≤ vec_capacity l.removed;
}

abbrev pub decreases-fall : goal.decreases-fall
decreases-fall l = btree_map_len l.maps + btree_map_len l.maps + vec_len l.falling
