-- What there is at the key gains the place.
use Rattle.std.proofs.Common.{◌≡◌, ◌∙◌, ap, subst, refl, arith, Bool, false, ◌||◌, Option, Some}
use Rattle.std.specs.BTreeMap.{get}
use Rattle.std.specs.Option.{UnwrapsOrElse}
use Rattle.std.proofs.lemmas.Grind.{common_steps}
use Rattle.hir_collector_rules.specs.HirIds.declared.ids.MapId.{MapId}
use Rattle.hir_collector_rules.specs.contracts.source_database.KeyOrd.TheImpl as key_order
use Rattle.hir_session_state.specs.Askers.{has_place, is_in}
use Rattle.hir_session_state.specs.Types.{KeyPlaces}
use Rattle.hir_session_state.proofs.Entering.{changed_at, is_id, made_places, or-false}
use Rattle.hir_session_state.proofs.KeyIds.{equal_key}
use Rattle.hir_session_state.proofs.Truth.{where_err, where_ok}
use Rattle.hir_session_state.proofs.askers.add_to.Goals as goal

pub returns-clause-ok : goal.returns-clause-ok
returns-clause-ok c =
    let before : KeyPlaces = c.or_default-places.result.now in
    where_ok c.add.result c.add.ensures.ok (λ added k j.
    changed_at key_order.ghosts.cmp equal_key (λ (a b : Bool). a || b) or-false (λ (o : Option KeyPlaces). is_in o j)
    (get key_order.ghosts.cmp c.args.keys.now) c.args.key (Some c.add.new.self) (is_id c.args.id j)
    (added j
    ∙ ap (λ (a : Bool). a || is_id c.args.id j) (made_places (get key_order.ghosts.cmp c.args.keys.now c.args.key) before
    (subst (λ (o : Option KeyPlaces). UnwrapsOrElse o (λ (made : KeyPlaces). (i : MapId) → has_place made i ≡ false) before)
    c.in_ok-keys.ensures.value c.or_default-places.ensures.value) j))
    k _ (grind (arith, common_steps)))

pub returns-clause-err : goal.returns-clause-err
returns-clause-err c =
    let before : KeyPlaces = c.or_default-places.result.now in
    where_err c.add.result c.add.ensures.err (λ same k j.
    changed_at key_order.ghosts.cmp equal_key (λ (a b : Bool). a) (λ (a : Bool). refl) (λ (o : Option KeyPlaces). is_in o j)
    (get key_order.ghosts.cmp c.args.keys.now) c.args.key (Some c.add.new.self) false
    (same j
    ∙ made_places (get key_order.ghosts.cmp c.args.keys.now c.args.key) before
    (subst (λ (o : Option KeyPlaces). UnwrapsOrElse o (λ (made : KeyPlaces). (i : MapId) → has_place made i ≡ false) before)
    c.in_ok-keys.ensures.value c.or_default-places.ensures.value) j)
    k _ (grind (arith, common_steps)))
