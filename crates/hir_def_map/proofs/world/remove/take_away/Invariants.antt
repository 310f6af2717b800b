-- What is away and is listed waits.
use Rattle.std.proofs.Common.{◌+◌, ◌≤◌}
use Rattle.std.specs.Vec.{vec_capacity, vec_len}
use Rattle.std.specs.BTreeMap.{btree_map_len}
use Rattle.hir_def_map.specs.Inner.Dependents.{IsIndexed}
use Rattle.hir_def_map.proofs.FallingSteps.{IsHalfFallen}
use Rattle.hir_def_map.proofs.world.remove.take_away.Given as goal

abbrev pub invariant-fall : goal.invariant-fall
invariant-fall l = record {
  falls : IsHalfFallen l.fn.maps l.maps l.falling.items l.fn.id;
  indexed : IsIndexed l.dependents l.maps;
  room : btree_map_len l.maps + vec_len l.falling ≤ vec_capacity l.falling;
}

abbrev pub decreases-fall : goal.decreases-fall
decreases-fall l = btree_map_len l.maps + btree_map_len l.maps + vec_len l.falling
