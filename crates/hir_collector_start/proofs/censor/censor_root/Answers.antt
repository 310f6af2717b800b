-- What is left behind the scope is in the root module.
use Rattle.std.proofs.Common.{◌∙◌, ap}
use Rattle.hir_collector_rules.specs.HirIds.declared.ids.MapId.{MapId}
use Rattle.hir_collector_rules.specs.HirScope.Scope.{ScopeValue}
use Rattle.hir_collector_rules.specs.HirDefMapRules.State.{with_scope}
use Rattle.hir_collector_rules.proofs.HirImportRules.Lent.{scope_left}
use Rattle.hir_collector_rules.specs.Ended.{exporting_scope}
use Rattle.hir_collector_start.proofs.censor.censor_root.Goals as goal

pub returns : goal.returns
returns c = record {
  value =
      ap (λ (s : ScopeValue). with_scope c.args.map.now 0 (λ _. s)) c.censor.ensures.value
      ∙ scope_left c.args.map.now 0 c.scope_mut.result.now (exporting_scope c.id.result.krate c.args.exported.now) c.scope_mut.ensures.value
      ∙ ap (λ (id : MapId). with_scope c.args.map.now 0 (exporting_scope id.krate c.args.exported.now)) c.id.ensures.value;
}
