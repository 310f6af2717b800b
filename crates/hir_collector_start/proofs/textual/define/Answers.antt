-- What is left behind the scope is in its module.
use Rattle.std.proofs.Common.{◌≡◌}
use Rattle.hir_collector_rules.proofs.HirScope.Pushes.{on_ok}
use Rattle.hir_collector_rules.specs.HirScope.Scope.{ScopeValue}
use Rattle.hir_collector_rules.specs.HirTextualScope.Macros.{with_macro}
use Rattle.hir_collector_rules.specs.HirDefMapRules.State.{with_scope}
use Rattle.hir_collector_rules.proofs.HirImportRules.Lent.{scope_left}
use Rattle.hir_collector_rules.specs.Macros.{with_textual_macro}
use Rattle.hir_collector_start.proofs.textual.define.Goals as goal

pub returns : goal.returns
returns c =
    let change : ScopeValue → ScopeValue = λ s. record s { legacy_macros = with_macro s.legacy_macros c.args.name c.args.makro } in
    record {
      ok =
          on_ok (λ (s : ScopeValue). with_scope c.args.map.now c.args.home (λ _. s) ≡ with_textual_macro c.args.map.now c.args.home c.args.name c.args.makro)
          c.define_legacy_macro.result (change c.scope_mut.result.now) c.define_legacy_macro.new.self c.define_legacy_macro.ensures.ok
          (scope_left c.args.map.now c.args.home c.scope_mut.result.now change c.scope_mut.ensures.value);
    }
