-- What depends on the map that goes depends on it by what is kept too, and is dropped with it.
use Rattle.std.proofs.Common.{◌≡◌, ◌∙◌, ap, length, sym, subst, arith, List}
use Rattle.std.specs.Vec.{vec_len}
use Rattle.hir_collector_rules.specs.HirIds.declared.ids.MapId.{MapId}
use Rattle.hir_collector_rules.specs.HirNameres.Removal.{Depends, GainsRemoved}
use Rattle.hir_session_state.specs.Askers.{HoldsExactly, ListsFallen}
use Rattle.hir_session_state.specs.Kept.{Resolutions, kept_in, names_in, resolutions_in}
use Rattle.hir_session_state.proofs.Falling.{fallen_gone, fallen_held, fallen_listed, fallen_stays}
use Rattle.hir_session_state.proofs.kept.Kept.forget_one.Goals as goal

pub remove_with_dependents_into-requires : goal.remove_with_dependents_into-requires
remove_with_dependents_into-requires c =
    let none : vec_len c.self.inside.fallen ≡ 0 = c.self.inside.fallen.ok.0 ∙ ap length c.self.invariant.none in
    let room = c.self.invariant.room in
    record { place = omega (arith, none, room) }

pub invariant_of-self : goal.invariant_of-self
invariant_of-self c =
    let place = c.remove_with_dependents_into.ensures.place in
    let same = c.drop_runs.ensures.capacity in
    record { none = c.drop_runs.ensures.none; room = omega (arith, place, same) }

pub returns-clause-gone : goal.returns-clause-gone
returns-clause-gone c j d =
    fallen_gone c.args.tables.now c.self.inside.world.maps c.remove_with_dependents_into.new.self.maps c.self.inside.runs.by_place c.drop_runs.new.runs.by_place
    c.args.askers.now c.drop_runs.new.askers c.remove_with_dependents_into.new.removed.items c.args.id
    c.remove_with_dependents_into.ensures.gone c.remove_with_dependents_into.ensures.stay
    (subst (λ (before : List MapId). GainsRemoved c.self.inside.world.maps c.remove_with_dependents_into.new.self.maps before
    c.remove_with_dependents_into.new.removed.items) c.self.invariant.none c.remove_with_dependents_into.ensures.removed)
    c.drop_runs.ensures.dropped j
    (subst (λ (kept : Resolutions). Depends (names_in kept) c.args.id j) (sym c.self.view_is) d)

pub returns-clause-stay : goal.returns-clause-stay
returns-clause-stay c j none =
    fallen_stays c.args.tables.now c.self.inside.world.maps c.remove_with_dependents_into.new.self.maps c.self.inside.runs.by_place
    c.drop_runs.new.runs.by_place
    c.args.askers.now c.drop_runs.new.askers c.remove_with_dependents_into.new.removed.items c.args.id
    c.remove_with_dependents_into.ensures.gone c.remove_with_dependents_into.ensures.stay
    (subst (λ (before : List MapId). GainsRemoved c.self.inside.world.maps c.remove_with_dependents_into.new.self.maps before
    c.remove_with_dependents_into.new.removed.items) c.self.invariant.none c.remove_with_dependents_into.ensures.removed)
    c.drop_runs.ensures.dropped j
    (λ d. none (subst (λ (kept : Resolutions). Depends (names_in kept) c.args.id j) c.self.view_is d))
    ∙ ap (λ (kept : Resolutions). kept_in kept j) c.self.view_is

pub returns-clause-exact : goal.returns-clause-exact
returns-clause-exact c =
    fallen_held c.args.tables.now c.self.inside.world.maps c.remove_with_dependents_into.new.self.maps c.self.inside.runs.by_place
    c.drop_runs.new.runs.by_place
    c.args.askers.now c.drop_runs.new.askers c.remove_with_dependents_into.new.removed.items c.args.id
    c.remove_with_dependents_into.ensures.gone c.remove_with_dependents_into.ensures.stay
    (subst (λ (before : List MapId). GainsRemoved c.self.inside.world.maps c.remove_with_dependents_into.new.self.maps before
    c.remove_with_dependents_into.new.removed.items) c.self.invariant.none c.remove_with_dependents_into.ensures.removed)
    c.drop_runs.ensures.dropped
    (subst (λ (kept : Resolutions). HoldsExactly c.args.tables.now kept c.args.askers.now) (sym c.self.view_is) c.requires.exact)

pub returns-clause-listed : goal.returns-clause-listed
returns-clause-listed c =
    subst (λ (kept : Resolutions). ListsFallen kept (resolutions_in c.remove_with_dependents_into.new.self.maps c.drop_runs.new.runs.by_place)
    c.args.fell.now c.list_each.new.list) c.self.view_is
    (fallen_listed c.args.tables.now c.self.inside.world.maps c.remove_with_dependents_into.new.self.maps c.self.inside.runs.by_place
    c.drop_runs.new.runs.by_place
    c.args.askers.now c.drop_runs.new.askers c.remove_with_dependents_into.new.removed.items c.args.id
    c.remove_with_dependents_into.ensures.gone c.remove_with_dependents_into.ensures.stay
    (subst (λ (before : List MapId). GainsRemoved c.self.inside.world.maps c.remove_with_dependents_into.new.self.maps before
    c.remove_with_dependents_into.new.removed.items) c.self.invariant.none c.remove_with_dependents_into.ensures.removed)
    c.drop_runs.ensures.dropped c.args.fell.now c.list_each.new.list c.list_each.ensures.lengthened)
