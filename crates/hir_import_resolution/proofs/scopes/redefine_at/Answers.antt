-- What is left behind the scope is in its module, where that is there.
use Rattle.std.proofs.Common.{◌∙◌, ap, arith}
use Rattle.hir_nameres.specs.HirScope.Scope.{ScopeValue}
use Rattle.hir_def_map_rules.specs.State.{with_scope}
use Rattle.hir_import_rules.specs.Names.{redefined}
use Rattle.hir_import_rules.proofs.Lent.{scope_left, scope_past}
use Rattle.hir_import_resolution.proofs.scopes.redefine_at.Goals as goal

pub returns-then-at-module_count : goal.returns-then-at-module_count
returns-then-at-module_count c = record {
  value =
      ap (λ (s : ScopeValue). with_scope c.args.map.now c.args.at (λ _. s)) c.redefine.ensures.value
      ∙ scope_left c.args.map.now c.args.at c.scope_mut.result.now (redefined c.args.name.now c.args.def c.args.vis) c.scope_mut.ensures.value;
}

pub returns-else-at-module_count : goal.returns-else-at-module_count
returns-else-at-module_count c =
    record {
      value = scope_past c.args.map.now c.args.at (redefined c.args.name.now c.args.def c.args.vis)
          (omega (arith, c.if-at-module_count.false, c.module_count.ensures.value));
    }
