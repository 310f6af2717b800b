-- What is left behind the scope is in its module.
use Rattle.std.proofs.Common.{◌∙◌, ap}
use Rattle.hir_collector_rules.specs.HirScope.Scope.{ScopeValue}
use Rattle.hir_collector_rules.specs.HirDefMapRules.State.{with_scope}
use Rattle.hir_collector_rules.proofs.HirImportRules.Lent.{scope_left}
use Rattle.hir_collector_start.proofs.textual.set.Goals as goal

pub returns : goal.returns
returns c = record {
  value =
      ap (λ (s : ScopeValue). with_scope c.args.map.now c.args.home (λ _. s)) c.set_textual_scope.ensures.value
      ∙ scope_left c.args.map.now c.args.home c.scope_mut.result.now (λ s. record s { legacy_macros = c.args.macros }) c.scope_mut.ensures.value;
}
