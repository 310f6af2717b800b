-- What is left behind the scope is in its module.
use Rattle.std.proofs.Common.{◌≡◌}
use Rattle.hir_collector_rules.proofs.HirScope.Pushes.{on_ok}
use Rattle.hir_collector_rules.specs.HirScope.Scope.{ScopeValue}
use Rattle.hir_collector_rules.specs.HirDefMapRules.State.{with_scope}
use Rattle.hir_collector_rules.proofs.HirImportRules.Lent.{scope_left}
use Rattle.hir_collector_rules.specs.Invocations.{invocation_of, with_invocation, with_noted}
use Rattle.hir_collector_state.proofs.def_collector.invocations.note_in_module.Goals as goal

pub returns : goal.returns
returns c =
    let home = c.args.call.now.site.home in
    let change : ScopeValue → ScopeValue = with_invocation (invocation_of c.args.call.now c.args.id) in
    record {
      ok =
          on_ok (λ (s : ScopeValue). with_scope c.args.map.now home (λ _. s) ≡ with_noted c.args.map.now home (invocation_of c.args.call.now c.args.id))
          c.note_in_scope.result (change c.scope_mut.result.now) c.note_in_scope.new.scope c.note_in_scope.ensures.ok
          (scope_left c.args.map.now home c.scope_mut.result.now change c.scope_mut.ensures.value);
    }
