-- One trait less is left in each turn.
use Rattle.std.proofs.Common.{◌≡◌, inl, subst, sym, rules, Some, List, [], ◌∷◌}
use Rattle.std.specs.Prelude.{Contains}
use Rattle.hir_nameres.specs.HirIds.declared.ids.TraitId.{TraitId}
use Rattle.hir_def_map_rules.specs.State.{module_at}
use Rattle.hir_import_rules.specs.Names.{trait_vis}
use Rattle.hir_import_resolution.proofs.KeyLists.{listed_in}
use Rattle.hir_import_resolution.proofs.Lists.{in_either, none_left, on_right, popped}
use Rattle.hir_import_resolution.proofs.lasting.has_traits_placed.Goals as goal

pub next-init : goal.next-init
next-init c = λ id vis is.
    inl (subst (λ (xs : List TraitId). Contains xs id) (sym c.traits-left.ensures.value) (listed_in (module_at c.args.map.now c.args.at) c.in-Some.scope.now id
    vis (search (rules, c.scope.ensures.value)) is))

pub next-preserved : goal.next-preserved
next-preserved c = λ id vis is.
    let taken : c.next.left ≡ c.in-Some-next.id ∷ c.next-in-next.new.self = search rules in
    in_either (c.next.invariant id vis is) (λ h. popped c.next.left c.next-in-next.new.self c.in-Some-next.id id taken h)
    (λ same. c.is_trait_placed.ensures.placed (search rules) vis (subst (λ (x : TraitId). trait_vis (module_at c.args.map.now c.args.at) x ≡ Some vis)
    (sym same) is))

pub returns : goal.returns
returns c = record {
  placed = λ yes id vis is.
      let done : c.next.left ≡ [] = search rules in
      on_right (c.next.invariant id vis is) (none_left c.next.left id done);
}
