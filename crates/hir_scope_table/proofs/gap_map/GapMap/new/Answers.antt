use Rattle.hir_scope_table.proofs.GapMaps.{nothing_sorted}
use Rattle.hir_scope_table.proofs.gap_map.GapMap.new.Goals as goal

pub invariant_of-result : goal.invariant_of-result
invariant_of-result g c = nothing_sorted g.K.Ord.cmp g.met.K.Ord.total c.new.result c.new.ensures.value
