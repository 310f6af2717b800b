-- What there is at the key loses the place, and goes where it is left empty.
use Rattle.std.proofs.Common.{◌∙◌, ap, sym, Bool, ◌&&◌, not, is_some, Option, Some, None}
use Rattle.std.specs.BTreeMap.{get, is_at}
use Rattle.std.specs.Option.{option_copied_mut}
use Rattle.hir_collector_rules.specs.contracts.source_database.KeyOrd.TheImpl as key_order
use Rattle.hir_collector_rules.specs.declared.source_database.Key.{Key}
use Rattle.hir_session_state.specs.Askers.{KeyAskers, has_asked, is_in}
use Rattle.hir_session_state.specs.Types.{KeyPlaces}
use Rattle.hir_session_state.proofs.Entering.{absent_at, and-true, changed_at, is_id, written_twice}
use Rattle.hir_session_state.proofs.KeyIds.{equal_key}
use Rattle.hir_session_state.proofs.askers.remove_from.Goals as goal

pub returns-in_default : goal.returns-in_default
returns-in_default c = record {
  left = λ k j.
      ap (λ (m : KeyAskers). has_asked m k j) c.get_mut.follows.holds-at-none
      ∙ absent_at key_order.ghosts.cmp equal_key (λ (q : Key). has_asked c.args.keys.now q j) c.args.key (is_id c.args.id j)
      (ap (λ (o : Option KeyPlaces). is_in o j) (sym c.get_mut.ensures.value ∙ ap (λ o. option_copied_mut o) c.in_default.is)) k;
}

pub returns-then-is_empty : goal.returns-then-is_empty
returns-then-is_empty c = record {
  left = λ k j.
      changed_at key_order.ghosts.cmp equal_key (λ (a b : Bool). a && not b) and-true (λ (o : Option KeyPlaces). is_in o j)
      (get key_order.ghosts.cmp c.args.keys.now) c.args.key None (is_id c.args.id j)
      (sym (c.is_empty.ensures.none c.if-is_empty.true j)
      ∙ c.remove.ensures.left j
      ∙ ap (λ (o : Option KeyPlaces). is_in o j && not (is_id c.args.id j)) c.in-Some.ensures.value)
      k _
      (written_twice (is_at (key_order.ghosts.cmp c.args.key) k) (get key_order.ghosts.cmp (c.get_mut.follows.lender c.remove.new.self) k)
      (get key_order.ghosts.cmp c.args.keys.now k) _ (Some c.remove.new.self)
      (((c.get_mut.follows.holds c.remove.new.self).3 (ap is_some (sym c.in-Some.ensures.value))).0 k) (c.remove-then-is_empty.ensures.updates.0 k));
}

pub returns-else-is_empty : goal.returns-else-is_empty
returns-else-is_empty c = record {
  left = λ k j.
      changed_at key_order.ghosts.cmp equal_key (λ (a b : Bool). a && not b) and-true (λ (o : Option KeyPlaces). is_in o j)
      (get key_order.ghosts.cmp c.args.keys.now) c.args.key (Some c.remove.new.self) (is_id c.args.id j)
      (c.remove.ensures.left j
      ∙ ap (λ (o : Option KeyPlaces). is_in o j && not (is_id c.args.id j)) c.in-Some.ensures.value)
      k _ (((c.get_mut.follows.holds c.remove.new.self).3 (ap is_some (sym c.in-Some.ensures.value))).0 k);
}
