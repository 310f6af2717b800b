-- What is left behind the scope is in its module.
use Rattle.std.proofs.Common.{◌∙◌, ap}
use Rattle.hir_collector_rules.specs.HirScope.Scope.{ScopeValue}
use Rattle.hir_collector_rules.specs.HirDefMapRules.State.{with_scope}
use Rattle.hir_collector_rules.proofs.HirImportRules.Lent.{scope_left}
use Rattle.hir_collector_rules.specs.Invocations.{impl_noted, with_invocation}
use Rattle.hir_collector_state.proofs.def_collector.invocations.note_impl_in_module.Goals as goal

pub returns : goal.returns
returns c =
    let change : ScopeValue → ScopeValue = with_invocation (impl_noted c.args.item c.args.imp) in
    record {
      value =
          ap (λ (s : ScopeValue). with_scope c.args.map.now c.args.home (λ _. s)) c.set_path.ensures.value
          ∙ scope_left c.args.map.now c.args.home c.scope_mut.result.now change c.scope_mut.ensures.value;
    }
