use Rattle.std.proofs.Common.{◌≡◌, ◌∙◌, ap, sym, true}
use Rattle.std.specs.BTreeMap.{is_at}
use Rattle.std.specs.Cmp.Lexicographic.{slice_cmp}
use Rattle.std.specs.Map.{remove_entry}
use Rattle.std.specs.Ordering.{nat_cmp}
use Rattle.hir_ids.specs.contracts.ids.ModuleDefIdPartialEq.TheImpl as module_def
use Rattle.hir_scope.specs.Scope.{ScopeValue}
use Rattle.hir_scope.proofs.Updates.{removed_bound, removed_is, removed_others, values_change}
use Rattle.hir_scope.proofs.item_scope.ItemScope.remove_from_value_ns.Goals as goal

-- the removal took the name, and so no other
pub returns-then-eq : goal.returns-then-eq
returns-then-eq c =
    let same = module_def.ghosts.eq in
    let name = c.args.name.now in
    let old = c.args.self.now.values in
    let item = c.in-Some.item in
    let is = c.in-Some.ensures.value in
    let fits : module_def.ghosts.eq c.in-Some.item.def c.args.def ≡ true = sym c.eq.ensures ∙ c.if-eq.true in
    let now_is = c.remove_value.ensures.values
    ∙ ap (remove_entry (is_at (slice_cmp nat_cmp name))) (ap (λ (s : ScopeValue). s.values) c.self.view_is) in
    let was = removed_is same old _ name c.args.def item is fits now_is in
    record {
      value = values_change _ _ c.self.view_is _ _ _ _ c.remove_value.ensures.unresolved _ c.remove_value.ensures.types was c.remove_value.ensures.macros;
      removed = removed_bound same old _ name c.args.def item is fits now_is c.bindings_ascend.ensures.values;
      others = removed_others same old _ name c.args.def item is fits now_is;
    }
