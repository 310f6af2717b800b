-- Those that are passed, up to one that isn't.
use Rattle.std.proofs.Common.{◌≡◌, ◌∙◌, ◌+◌, ℕ, suc, List, Some, ap, drop, map, refl, slice_get, subst, sym, option_map, arith}
use Rattle.std.proofs.lemmas.Option.{slice_get-map}
use Rattle.hir_collector_state.specs.HirItemTree.Collected.{Numbered, numbered}
use Rattle.hir_collector_state.specs.HirItemTree.declared.attrs.Attr.{Attr}
use Rattle.hir_collector_state.specs.HirCollectorRules.Attributes.{first_looked_up, next_among}
use Rattle.hir_attr_resolution.proofs.Passing.{item_there, passed_over, place_of, stopped_at}
use Rattle.hir_attr_resolution.proofs.attributes.next_attribute.Goals as goal

pub loop-at-init : goal.loop-at-init
loop-at-init c = record { behind = omega arith; same = refl }

pub loop-at-preserved : goal.loop-at-preserved
loop-at-preserved c =
    let attributes : List Numbered = map numbered c.args.attrs.now in
    let at : ℕ = c.loop-at.at in
    let a : Attr = c.index-attrs-at.result in
    let there : slice_get c.args.attrs.now at ≡ Some a = item_there c.args.attrs.now at a c.loop-at-test.true c.index-attrs-at.is in
    let here : slice_get attributes at ≡ Some (numbered a) = slice_get-map numbered c.args.attrs.now at ∙ ap (λ (o : _). option_map numbered o) there in
    let on = passed_over c.args.map.now c.args.node attributes at (numbered a) here (sym c.is_passed.ensures.value ∙ c.if-not-is_passed.false) in
    let next : suc at ≡ at + 1 = omega arith in
    record {
      behind = (let h = c.loop-at.invariant.behind in omega arith);
      same =
          subst (λ (n : ℕ). first_looked_up c.args.map.now c.args.node n (drop n attributes) ≡ next_among c.args.map.now c.args.node c.args.done attributes)
          next (sym on ∙ c.loop-at.invariant.same);
    }

pub returns-then-not-is_passed-clause-value : goal.returns-then-not-is_passed-clause-value
returns-then-not-is_passed-clause-value c =
    let attributes : List Numbered = map numbered c.args.attrs.now in
    let at : ℕ = c.loop-at.at in
    let a : Attr = c.index-attrs-at.result in
    let there : slice_get c.args.attrs.now at ≡ Some a = item_there c.args.attrs.now at a c.loop-at-test.true c.index-attrs-at.is in
    let here : slice_get attributes at ≡ Some (numbered a) = slice_get-map numbered c.args.attrs.now at ∙ ap (λ (o : _). option_map numbered o) there in
    let stops : first_looked_up c.args.map.now c.args.node at (drop at attributes) ≡ Some (at, numbered a) =
    stopped_at c.args.map.now c.args.node attributes at (numbered a) here (sym c.is_passed.ensures.value ∙ c.if-not-is_passed.true) in
    sym (ap place_of (sym c.loop-at.invariant.same ∙ stops))
