-- At the number the place is taken out; behind the list there is nothing.
use Rattle.std.proofs.Common.{◌∙◌, ap, sym, refl, Bool, ◌&&◌, not, true≢false, Option, ℕ, length, ◌<◌, arith}
use Rattle.std.specs.BTreeMap.{is_at}
use Rattle.std.proofs.lemmas.Option.{slice_get_read}
use Rattle.hir_collector_rules.specs.contracts.source_database.KeyOrd.TheImpl as key_order
use Rattle.hir_session_state.specs.Askers.{KeyAskers, has_asked_in, has_asked_at}
use Rattle.hir_session_state.proofs.Entering.{and-true, is_id}
use Rattle.hir_session_state.proofs.Numbered.{absent_number, none_at, written_at}
use Rattle.hir_session_state.proofs.askers.remove_at.Goals as goal

pub returns-in-Some : goal.returns-in-Some
returns-in-Some c = record {
  left = λ n k j.
      let own : Bool = is_at (key_order.ghosts.cmp c.args.key) k && is_id c.args.id j in
      let short : c.args.at < c.args.list.now.len = c.in-Some.ensures.variant.0 refl in
      let within : c.args.at < length c.args.list.now.items = omega (arith, short, c.args.list.now.ok) in
      written_at (λ (a b : Bool). a && not b) and-true (λ (o : Option KeyAskers). has_asked_in o k j) c.args.list.now.items c.args.at
      c.remove_from.new.keys own within
      (c.remove_from.ensures.left k j
      ∙ ap (λ (o : Option KeyAskers). has_asked_in o k j && not own)
      (sym (slice_get_read c.args.list.now.items (length c.args.list.now.items) c.args.at c.in-Some.keys.now refl within
      c.in-Some.ensures.value)))
      n;
}

pub returns-in_default : goal.returns-in_default
returns-in_default c = record {
  left = λ n k j.
      let short : c.args.at < length c.args.list.now.items → c.args.at < c.args.list.now.len = λ within. omega (arith, within, c.args.list.now.ok) in
      absent_number (λ (m : ℕ). has_asked_at c.args.list.now.items m k j) c.args.at (is_at (key_order.ghosts.cmp c.args.key) k && is_id c.args.id j)
      (ap (λ (o : Option KeyAskers). has_asked_in o k j)
      (none_at c.args.list.now.items c.args.at (λ within. absurd (true≢false (sym (c.in_default.ensures.variant.1 (short within)))))))
      n;
}
