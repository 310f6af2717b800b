use Rattle.std.proofs.Common.{◌∙◌, ap}
use Rattle.std.specs.BTreeMap.{is_at}
use Rattle.std.specs.Cmp.Lexicographic.{slice_cmp}
use Rattle.std.specs.Map.{set_value}
use Rattle.std.specs.Ordering.{nat_cmp}
use Rattle.hir_scope.specs.Bindings.{with_item_visibility}
use Rattle.hir_scope.specs.Scope.{ScopeValue}
use Rattle.hir_scope.proofs.Updates.{rewritten_bound, rewritten_is, rewritten_others, values_change}
use Rattle.hir_scope.proofs.item_scope.ItemScope.update_visibility_values.Goals as goal

pub returns-in-Some : goal.returns-in-Some
returns-in-Some c =
    let name = c.args.name.now in
    let old = c.args.self.now.values in
    let made = c.with_visibility.result in
    let is = c.in-Some.ensures.value in
    let made_is = c.with_visibility.ensures.value in
    let now_is = c.set_value.ensures.values
    ∙ ap (λ es. set_value (is_at (slice_cmp nat_cmp name)) es made) (ap (λ (s : ScopeValue). s.values) c.self.view_is) in
    let was = rewritten_is (with_item_visibility c.args.vis) old _ name c.in-Some.item made is made_is now_is in
    record {
      value = values_change _ _ c.self.view_is _ _ _ _ c.set_value.ensures.unresolved _ c.set_value.ensures.types was c.set_value.ensures.macros;
      bound = rewritten_bound (with_item_visibility c.args.vis) old _ name c.in-Some.item made is made_is now_is;
      others = rewritten_others (with_item_visibility c.args.vis) old _ name c.in-Some.item made is made_is now_is;
    }
