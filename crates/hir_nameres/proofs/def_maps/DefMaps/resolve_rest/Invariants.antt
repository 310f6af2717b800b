-- The segments that are left give the answer that all of them give from the start.
use Rattle.std.proofs.Common.{◌≡◌, ◌+◌, ◌<◌, ◌^◌, length, cond}
use Rattle.hir_nameres.specs.DefMaps.{maps_of}
use Rattle.hir_def_map_rules.specs.Scoping.Segments.{crossing, rest}
use Rattle.hir_nameres.proofs.def_maps.DefMaps.resolve_rest.Given as goal

abbrev pub invariant-walk : goal.invariant-walk
invariant-walk l = record {
  same : rest (maps_of l.self) l.fn.from l.fn.segments l.fn.start l.fn.first
      ≡ cond l.has_crossed (crossing (rest (maps_of l.self) l.from l.left l.at l.now)) (rest (maps_of l.self) l.from l.left l.at l.now);
  room : l.at + length l.left < 2 ^ 64;
}

abbrev pub decreases-walk : goal.decreases-walk
decreases-walk l = length l.left
