-- What is left behind the scope is in the module of the number.
use Rattle.std.proofs.Common.{ap, refl, sym, ◌∙◌, List, Option, Some, option_map}
use Rattle.hir_def_map_rules.specs.HirScope.Scope.{ScopeValue}
use Rattle.hir_def_map_rules.specs.State.{Map, ModuleValue, scope_at, with_module_scope, with_scope}
use Rattle.hir_nameres.specs.contracts.nameres.DefMap as def_map
use Rattle.hir_def_map_rules.proofs.Modules.{changed_at-set}
use Rattle.hir_nameres.proofs.nameres.DefMap.scope_mut.Goals as goal

pub returns : goal.returns
returns c = (
  (
    refl,
    λ w. ap (λ (ms : List ModuleValue). def_map.the_view (record c.self.inside { modules = record { map = c.self.inside.modules.map; modules = ms } }))
        (changed_at-set c.self.inside.modules.modules c.args.at (with_module_scope (λ (s : ScopeValue). w)) c.index_mut.result.now c.index_mut.ensures.value)
        ∙ ap (λ (m : Map). with_scope m c.args.at (λ (s : ScopeValue). w)) c.self.view_is,
  ),
  record {
    value = ap (λ (s : ScopeValue). Some s) c.scope_mut.ensures.value
        ∙ ap (λ (o : Option ModuleValue). option_map (λ (m : ModuleValue). m.scope) o) (sym c.index_mut.ensures.value)
        ∙ ap (λ (m : Map). scope_at m c.args.at) c.self.view_is;
    lends = tt;
  },
)
