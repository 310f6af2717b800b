-- What is left behind the scope is in its module, where that is there.
use Rattle.std.proofs.Common.{◌≡◌, arith}
use Rattle.hir_nameres.specs.HirScope.Scope.{ScopeValue}
use Rattle.hir_nameres.proofs.HirScope.Pushes.{on_ok}
use Rattle.hir_def_map_rules.specs.State.{with_scope}
use Rattle.hir_import_rules.specs.Names.{revised}
use Rattle.hir_import_rules.proofs.Lent.{scope_left, scope_past}
use Rattle.hir_import_resolution.proofs.scopes.revise_at.Goals as goal

pub returns-then-at-module_count : goal.returns-then-at-module_count
returns-then-at-module_count c =
    record {
      ok = scope_past c.args.map.now c.args.at (revised c.args.key.now c.args.vis)
          (omega (arith, c.if-at-module_count.true, c.module_count.ensures.value));
    }

pub returns : goal.returns
returns c = record {
  ok =
      on_ok (λ (s : ScopeValue). with_scope c.args.map.now c.args.at (λ _. s) ≡ with_scope c.args.map.now c.args.at (revised c.args.key.now c.args.vis))
      c.revise.result (revised c.args.key.now c.args.vis c.scope_mut.result.now) c.revise.new.scope c.revise.ensures.ok
      (scope_left c.args.map.now c.args.at c.scope_mut.result.now (revised c.args.key.now c.args.vis) c.scope_mut.ensures.value);
}
