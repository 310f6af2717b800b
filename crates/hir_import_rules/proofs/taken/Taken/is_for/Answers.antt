-- Equal targets are one.
use Rattle.std.proofs.Common.{◌≡◌, ◌∙◌, ap, subst, List}
use Rattle.std.specs.List.{IsAnyAnswer}
use Rattle.std.proofs.lemmas.List.Elements.{contains_decides, Decides-contains}
use Rattle.hir_glob_imports.specs.contracts.edge.TargetPartialEq.TheImpl as target
use Rattle.hir_glob_imports.specs.declared.edge.Target.{Target}
use Rattle.hir_import_rules.specs.Directives.{TakenValue}
use Rattle.hir_import_rules.proofs.Targets.{targets_decide}
use Rattle.hir_import_rules.proofs.taken.Taken.is_for.Goals as goal

pub returns : goal.returns
returns c = record {
  value =
      Decides-contains c.args.self.now.targets c.args.target c.contains.result
      (contains_decides target.ghosts.eq targets_decide c.args.self.now.targets c.args.target c.contains.result
      (subst (λ (targets : List Target). IsAnyAnswer (λ y t. target.ghosts.eq y c.args.target ≡ t) targets c.contains.result)
      (c.deref.ensures.value ∙ ap (λ (t : TakenValue). t.targets) c.self.view_is) c.contains.ensures.cases));
}
