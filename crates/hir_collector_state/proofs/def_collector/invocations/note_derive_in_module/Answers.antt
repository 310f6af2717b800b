-- What is left behind the scope is in its module.
use Rattle.std.proofs.Common.{◌≡◌}
use Rattle.hir_collector_rules.proofs.HirScope.Pushes.{on_ok}
use Rattle.hir_collector_rules.specs.HirScope.Scope.{ScopeValue}
use Rattle.hir_collector_rules.specs.HirDefMapRules.State.{with_scope}
use Rattle.hir_collector_rules.proofs.HirImportRules.Lent.{scope_left}
use Rattle.hir_collector_rules.specs.Invocations.{Invocation, of_derive, with_invocation, with_noted}
use Rattle.hir_collector_state.proofs.def_collector.invocations.note_derive_in_module.Goals as goal

pub returns : goal.returns
returns c =
    let met : Invocation = of_derive c.args.item (record { attr_id = c.args.attr; attr_call_id = c.args.call; derive_call_ids = c.args.slots.items }) in
    let change : ScopeValue → ScopeValue = with_invocation met in
    record {
      ok =
          on_ok (λ (s : ScopeValue). with_scope c.args.map.now c.args.home (λ _. s) ≡ with_noted c.args.map.now c.args.home met)
          c.init_derive_attribute.result (change c.scope_mut.result.now) c.init_derive_attribute.new.self c.init_derive_attribute.ensures.ok
          (scope_left c.args.map.now c.args.home c.scope_mut.result.now change c.scope_mut.ensures.value);
    }
