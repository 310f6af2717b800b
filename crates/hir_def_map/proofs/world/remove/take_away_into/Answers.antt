-- Each map that falls depends on the first and is added to those that are removed, and none is left that lists a missing one.
use Rattle.std.proofs.Common.{arith}
use Rattle.hir_def_map.proofs.FallingSteps.{emptied, half-end, half-popped, half-pushed, half-start, listed_by_index, none_listed, there_if_lists}
use Rattle.hir_def_map.proofs.Removed.{gains_first, gains_one, was_there_before}
use Rattle.hir_def_map.proofs.world.remove.take_away_into.Goals as goal

pub fall-init : goal.fall-init
fall-init c = record {
  falls =
      half-start c.args.maps.now c.fell_into.new.maps c.args.falling.now.items c.fell_into.new.falling.items c.args.id c.requires.closed
      c.requires.room.none c.fell_into.ensures.items
      c.fell_into.ensures.updates;
  indexed = c.fell_into.ensures.indexed;
  room = c.fell_into.ensures.room;
  removed =
      gains_first c.args.maps.now c.fell_into.new.maps c.args.removed.now.items c.fell_into.new.removed.items c.args.id c.requires.there
      c.fell_into.ensures.updates c.fell_into.ensures.removed;
  place = c.fell_into.ensures.place;
}

pub fall-preserved-in-Some-first : goal.fall-preserved-in-Some-first
fall-preserved-in-Some-first c =
    let lists = listed_by_index c.fall.maps c.fall.dependents c.in-Some.on c.in-Some-first.next c.fall.invariant.indexed c.in-Some-first.ensures.some in
    let here = there_if_lists c.fall.maps c.in-Some-first.next c.in-Some.on lists in
    record {
      falls = half-pushed c.args.maps.now c.fall.maps c.fell_into-in-Some-first.new.maps c.fall.falling.items c.pop.new.self.items
          c.push_reserved.new.self.items c.fell_into-in-Some-first.new.falling.items c.in-Some.on c.in-Some-first.next c.args.id c.requires.closed
          c.fall.invariant.falls c.in-Some.ensures.items c.push_reserved.ensures.items c.fell_into-in-Some-first.ensures.items lists
          c.fell_into-in-Some-first.ensures.updates;
      indexed = c.fell_into-in-Some-first.ensures.indexed;
      room = c.fell_into-in-Some-first.ensures.room;
      removed = gains_one c.args.maps.now c.fall.maps c.fell_into-in-Some-first.new.maps c.args.removed.now.items c.fall.removed.items
          c.fell_into-in-Some-first.new.removed.items c.in-Some-first.next c.fall.invariant.removed
          (was_there_before c.args.maps.now c.fall.maps c.args.id c.in-Some-first.next c.fall.invariant.falls.falls here) here
          c.fell_into-in-Some-first.ensures.updates c.fell_into-in-Some-first.ensures.removed;
      place = c.fell_into-in-Some-first.ensures.place;
    }

pub fall-preserved : goal.fall-preserved
fall-preserved c = record {
  falls =
      half-popped c.args.maps.now c.fall.maps c.fall.falling.items c.pop.new.self.items c.in-Some.on c.args.id c.fall.invariant.falls c.in-Some.ensures.items
      (none_listed c.fall.maps c.fall.dependents c.in-Some.on c.fall.invariant.indexed c.in_default-first.ensures.none);
  indexed = c.fall.invariant.indexed;
  room = omega (arith, c.fall.invariant.room, c.in-Some.ensures.len, c.pop.ensures.capacity);
  removed = c.fall.invariant.removed;
  place = c.fall.invariant.place;
}

pub returns-clause-closed : goal.returns-clause-closed
returns-clause-closed c =
    half-end c.args.maps.now c.fall.maps c.fall.falling.items c.args.id c.fall.invariant.falls (emptied c.fall.falling c.in_default.ensures.cases.0)
