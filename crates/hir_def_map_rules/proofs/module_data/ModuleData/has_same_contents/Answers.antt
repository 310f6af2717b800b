-- Where the children are the same, the scopes decide.
use Rattle.std.proofs.Common.{◌≡◌, ◌∙◌, ap, sym, Bool, true, ◌&&◌}
use Rattle.hir_scope.specs.HirIds.contracts.ids.ModuleIdPartialEq.TheImpl as module_id
use Rattle.hir_scope.specs.Inner.Equality.{same_scope}
use Rattle.hir_def_map_rules.specs.State.{ModuleValue}
use Rattle.hir_def_map_rules.specs.Equality.{same_by_name, same_contents}
use Rattle.hir_def_map_rules.proofs.module_data.ModuleData.has_same_contents.Goals as goal

contents_from : (a b x y : ModuleValue) → a ≡ x → b ≡ y → (r s : Bool) → r ≡ true → r ≡ same_by_name module_id.ghosts.eq a.children b.children → s
    ≡ same_scope a.scope b.scope → s ≡ same_contents x y
contents_from a b x y e f r s t u v =
    let both : s ≡ same_contents a b = v ∙ ap (λ (k : Bool). k && same_scope a.scope b.scope) (sym (sym u ∙ t)) in
    both ∙ (λ i. same_contents (e i) (f i))

pub returns-then-same_children : goal.returns-then-same_children
returns-then-same_children c = record {
  value =
      contents_from _ _ _ _ c.self.view_is c.other.view_is c.eq-same_children.result c.eq.result c.if-same_children.true c.eq-same_children.ensures
      c.eq.ensures;
}
