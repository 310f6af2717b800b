-- The list reaches the number; there the keys gain the place.
use Rattle.std.proofs.Common.{◌≡◌, ◌∙◌, ap, sym, refl, Bool, ◌&&◌, ◌||◌, false, Option, Some, List, nat_eq, length, slice_get}
use Rattle.std.specs.BTreeMap.{is_at}
use Rattle.std.proofs.lemmas.Option.{slice_get_read}
use Rattle.hir_collector_rules.specs.contracts.source_database.KeyOrd.TheImpl as key_order
use Rattle.hir_session_state.specs.Askers.{KeyAskers, has_asked_in}
use Rattle.hir_session_state.proofs.Entering.{is_id, or-false}
use Rattle.hir_session_state.proofs.Numbered.{written_at}
use Rattle.hir_session_state.proofs.Truth.{where_err, where_ok}
use Rattle.hir_session_state.proofs.askers.add_at.Goals as goal

pub returns-clause-ok : goal.returns-clause-ok
returns-clause-ok c =
    let lists : List KeyAskers = c.grow_to.new.list.items in
    let there : Some c.index_mut.result.now ≡ slice_get lists c.args.at =
    sym (slice_get_read lists (length lists) c.args.at c.index_mut.result.now refl c.in_ok-grow_to.ensures.ok c.index_mut.ensures.value) in
    where_ok c.add_to.result c.add_to.ensures.ok (λ added n k j.
    let own : Bool = is_at (key_order.ghosts.cmp c.args.key) k && is_id c.args.id j in
    written_at (λ (a b : Bool). a || b) or-false (λ (o : Option KeyAskers). has_asked_in o k j) lists c.args.at c.add_to.new.keys own
    c.in_ok-grow_to.ensures.ok (added k j ∙ ap (λ (o : Option KeyAskers). has_asked_in o k j || own) there) n
    ∙ ap (λ (a : Bool). a || (nat_eq c.args.at n && own)) (c.grow_to.ensures.same n k j))

pub returns-clause-err : goal.returns-clause-err
returns-clause-err c =
    let lists : List KeyAskers = c.grow_to.new.list.items in
    let there : Some c.index_mut.result.now ≡ slice_get lists c.args.at =
    sym (slice_get_read lists (length lists) c.args.at c.index_mut.result.now refl c.in_ok-grow_to.ensures.ok c.index_mut.ensures.value) in
    where_err c.add_to.result c.add_to.ensures.err (λ same n k j.
    written_at (λ (a b : Bool). a) (λ (a : Bool). refl) (λ (o : Option KeyAskers). has_asked_in o k j) lists c.args.at c.add_to.new.keys false
    c.in_ok-grow_to.ensures.ok (same k j ∙ ap (λ (o : Option KeyAskers). has_asked_in o k j) there) n
    ∙ c.grow_to.ensures.same n k j)
