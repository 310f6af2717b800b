-- What becomes of a module, the scope of which is lent?
use Rattle.std.specs.Borrow.{Lends, MutBor, Fml}
use Rattle.hir_scope.specs.Scope.{ScopeValue}
use Rattle.hir_scope.specs.contracts.item_scope.ItemScope as item_scope
use Rattle.hir_def_map_rules.specs.State.{ModuleValue}
use Rattle.hir_def_map_rules.specs.contracts.module_data.ModuleData as module_data

-- the module has what is left behind its scope, and is as it was besides
abbrev pub LendsScope : MutBor ModuleValue → MutBor ScopeValue → Fml
LendsScope lender lent = Lends module_data.the_row item_scope.the_row lender lent (λ left. record lender.now { scope = left })
