use Rattle.hir_scope_table.proofs.GapMaps.{value_found, value_missing}
use Rattle.hir_scope_table.proofs.gap_map.GapMap.get.Goals as goal

pub returns-then-place : goal.returns-then-place
returns-then-place g c = rw (← c.self.view_is) (record {
  value = value_found g.K.Ord.cmp g.met.K.Ord.total _ _ _ _ c.place_of-place.ensures.belongs
      c.if-place.true c.at.result.now c.at.ensures.is;
})

pub returns-else-place : goal.returns-else-place
returns-else-place g c = rw (← c.self.view_is) (record {
  value = value_missing g.K.Ord.cmp g.met.K.Ord.total _ _ _ _ c.place_of-place.ensures.belongs
      c.if-place.false c.self.invariant;
})
