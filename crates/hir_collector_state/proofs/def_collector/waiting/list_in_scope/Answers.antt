-- What is left behind the scope is in its module.
use Rattle.std.proofs.Common.{◌≡◌}
use Rattle.hir_collector_rules.proofs.HirScope.Pushes.{on_ok}
use Rattle.hir_collector_rules.specs.HirScope.Scope.{ScopeValue}
use Rattle.hir_collector_rules.specs.HirDefMapRules.State.{with_scope}
use Rattle.hir_collector_rules.proofs.HirImportRules.Lent.{scope_left}
use Rattle.hir_collector_rules.specs.Changes.{with_builtin_derive, with_derived}
use Rattle.hir_collector_state.proofs.def_collector.waiting.list_in_scope.Goals as goal

pub returns : goal.returns
returns c =
    let change : ScopeValue → ScopeValue = with_builtin_derive c.args.imp in
    record {
      ok =
          on_ok (λ (s : ScopeValue). with_scope c.args.map.now c.args.home (λ _. s) ≡ with_derived c.args.map.now c.args.home c.args.imp)
          c.define_builtin_derive_impl.result (change c.scope_mut.result.now) c.define_builtin_derive_impl.new.self c.define_builtin_derive_impl.ensures.ok
          (scope_left c.args.map.now c.args.home c.scope_mut.result.now change c.scope_mut.ensures.value);
    }
