-- No map is out of its place, and none depends on another.
use Rattle.hir_nameres.specs.World.{IsChecked-empty, finished_in-none}
use Rattle.hir_def_map.proofs.Entries.{empty_index}
use Rattle.hir_def_map.proofs.FallingSteps.{room_at_first}
use Rattle.hir_def_map.proofs.world.World.new.Goals as goal

pub invariant_of-result : goal.invariant_of-result
invariant_of-result c = record {
  checked = IsChecked-empty _ c.new.ensures.empty;
  indexed = empty_index _ _ c.new.ensures.empty c.new-2.ensures.none;
  room = room_at_first _ _ c.new-3.ensures.items c.new.ensures.len;
}

pub returns : goal.returns
returns c = record { value = finished_in-none _ c.new.ensures.empty }
