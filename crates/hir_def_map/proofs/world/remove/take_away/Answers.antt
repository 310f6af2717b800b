-- Each map that falls depends on the first, and none is left that lists a missing one.
use Rattle.std.proofs.Common.{arith}
use Rattle.hir_def_map.proofs.FallingSteps.{emptied, half-end, half-popped, half-pushed, half-start, listed_by_index, none_listed}
use Rattle.hir_def_map.proofs.world.remove.take_away.Goals as goal

pub fall-init : goal.fall-init
fall-init c = record {
  falls =
      half-start c.args.maps.now c.fell.new.maps c.args.falling.now.items c.fell.new.falling.items c.args.id c.requires.closed c.requires.room.none
      c.fell.ensures.items
      c.fell.ensures.updates;
  indexed = c.fell.ensures.indexed;
  room = c.fell.ensures.room;
}

pub fall-preserved-in-Some-first : goal.fall-preserved-in-Some-first
fall-preserved-in-Some-first c = record {
  falls = half-pushed c.args.maps.now c.fall.maps c.fell-in-Some-first.new.maps c.fall.falling.items c.pop.new.self.items c.push_reserved.new.self.items
      c.fell-in-Some-first.new.falling.items c.in-Some.on c.in-Some-first.next c.args.id c.requires.closed c.fall.invariant.falls c.in-Some.ensures.items
      c.push_reserved.ensures.items c.fell-in-Some-first.ensures.items
      (listed_by_index c.fall.maps c.fall.dependents c.in-Some.on c.in-Some-first.next c.fall.invariant.indexed c.in-Some-first.ensures.some)
      c.fell-in-Some-first.ensures.updates;
  indexed = c.fell-in-Some-first.ensures.indexed;
  room = c.fell-in-Some-first.ensures.room;
}

pub fall-preserved : goal.fall-preserved
fall-preserved c = record {
  falls =
      half-popped c.args.maps.now c.fall.maps c.fall.falling.items c.pop.new.self.items c.in-Some.on c.args.id c.fall.invariant.falls c.in-Some.ensures.items
      (none_listed c.fall.maps c.fall.dependents c.in-Some.on c.fall.invariant.indexed c.in_default-first.ensures.none);
  indexed = c.fall.invariant.indexed;
  room = omega (arith, c.fall.invariant.room, c.in-Some.ensures.len, c.pop.ensures.capacity);
}

pub returns-clause-closed : goal.returns-clause-closed
returns-clause-closed c =
    half-end c.args.maps.now c.fall.maps c.fall.falling.items c.args.id c.fall.invariant.falls (emptied c.fall.falling c.in_default.ensures.cases.0)
