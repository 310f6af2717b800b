-- Each helper is brought, one after another.
use Rattle.std.proofs.Common.{rules, ◌≡◌, ◌∙◌, ◌∷◌, [], ◌<◌, ◌≤◌, ◌+◌, List, ap, drop, get_or, length, map, subst, sym, arith, ℕ}
use Rattle.std.proofs.lemmas.List.{drop_all, drop_more}
use Rattle.hir_collector_state.specs.HirDefMapRules.Macros.{with_derive_helper}
use Rattle.hir_collector_state.specs.HirMapParts.declared.derive_helpers.DeriveHelper.{DeriveHelper}
use Rattle.hir_collector_state.specs.HirCollectorRules.Calls.{helper_by}
use Rattle.hir_collector_state.specs.HirCollectorRules.State.{Core, core_in, with_map}
use Rattle.hir_collector_derives.proofs.Helping.{MakesWithLeft, all_brought, none_brought, one_brought}
use Rattle.hir_collector_state.proofs.Noted.{noted_follow, noted_itself}
use Rattle.hir_collector_derives.proofs.derives.help_all.Goals as goal

pub loop-name-init : goal.loop-name-init
loop-name-init c = record {
  brought = none_brought c.args.node (map (helper_by c.args.makro c.args.became) c.args.names.now) (core_in c.args.run.now);
  noted = noted_itself c.args.run.now;
}

pub loop-name-preserved : goal.loop-name-preserved
loop-name-preserved c =
    let by : List (List ℕ) → List DeriveHelper = map (helper_by c.args.makro c.args.became) in
    let names : List (List ℕ) = c.args.names.now in
    let name : List ℕ = c.name-item.result in
    let left : List (List ℕ) = drop (c.loop-name.name-index + 1) names in
    let old : Core = core_in c.args.run.now in
    let now : Core = core_in c.loop-name.run in
    let new : Core = core_in c.help.new.self in
    let at : get_or names c.loop-name.name-index name ≡ name = search (rules, c.name-item.is) in
    let split : drop c.loop-name.name-index names ≡ name ∷ left = drop_more names c.loop-name.name-index name c.loop-name-test.true ∙ ap
    (λ (n : List ℕ). n ∷ left) at in
    let helped : new ≡ with_map now (with_derive_helper now.map c.args.node (helper_by c.args.makro c.args.became name)) =
    subst (λ (n : List ℕ). new ≡ with_map now (with_derive_helper now.map c.args.node (helper_by c.args.makro c.args.became n))) c.in_ok-clone.ensures.value
    c.in_ok-help.ensures.ok in
    record {
      brought = one_brought c.args.node (helper_by c.args.makro c.args.became name) (by left) (by names) old now new helped
          (subst (λ (ns : List (List ℕ)). MakesWithLeft c.args.node (by ns) (by names) old now) split c.loop-name.invariant.brought);
      noted = noted_follow c.loop-name.invariant.noted c.in_ok-help.ensures.noted;
    }

pub returns-clause-ok : goal.returns-clause-ok
returns-clause-ok c =
    let by : List (List ℕ) → List DeriveHelper = map (helper_by c.args.makro c.args.became) in
    let names : List (List ℕ) = c.args.names.now in
    let over : length names ≤ c.loop-name.name-index = c.loop-name-test.false in
    all_brought c.args.node (by names) (core_in c.args.run.now) (core_in c.loop-name.run)
    (subst (λ (ns : List (List ℕ)). MakesWithLeft c.args.node (by ns) (by names) (core_in c.args.run.now) (core_in c.loop-name.run))
    (drop_all c.loop-name.name-index names over) c.loop-name.invariant.brought)

pub returns-clause-noted : goal.returns-clause-noted
returns-clause-noted c = c.loop-name.invariant.noted
