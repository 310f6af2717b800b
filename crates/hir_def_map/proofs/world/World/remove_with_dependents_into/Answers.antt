-- What falls with a map depends on it.
use Rattle.std.proofs.Common.{sym, ◌∙◌}
use Rattle.hir_def_map.proofs.Falling.{absent_gone, none_there, checked_closed, dependents_gone, fallen_checked, others_stay}
use Rattle.hir_def_map.proofs.Removed.{gains_none}
use Rattle.hir_def_map.proofs.world.World.remove_with_dependents_into.Goals as goal

pub returns-then-not-contains_key-clause-gone : goal.returns-then-not-contains_key-clause-gone
returns-then-not-contains_key-clause-gone c = absent_gone _ _ c.args.self.now.checked (none_there _ (sym c.contains_key.ensures ∙ c.if-not-contains_key.true))

pub returns-then-not-contains_key-clause-removed : goal.returns-then-not-contains_key-clause-removed
returns-then-not-contains_key-clause-removed c = gains_none c.args.self.now.maps c.args.removed.now.items

pub take_away_into-requires : goal.take_away_into-requires
take_away_into-requires c = record {
  closed = checked_closed _ c.args.self.now.checked;
  indexed = c.args.self.now.indexed;
  room = c.args.self.now.room;
  place = c.requires.place;
  there = sym c.contains_key.ensures ∙ c.if-not-contains_key.false;
}

pub invariant_of-self : goal.invariant_of-self
invariant_of-self c = record {
  checked = fallen_checked _ _ _ c.args.self.now.checked c.take_away_into.ensures.falling c.take_away_into.ensures.closed;
  indexed = c.take_away_into.ensures.indexed;
  room = c.take_away_into.ensures.room;
}

pub returns-clause-gone : goal.returns-clause-gone
returns-clause-gone c = dependents_gone _ _ _ c.args.self.now.checked c.take_away_into.ensures.falling c.take_away_into.ensures.closed

pub returns-clause-stay : goal.returns-clause-stay
returns-clause-stay c = others_stay _ _ _ c.args.self.now.checked c.take_away_into.ensures.falling c.take_away_into.ensures.closed
