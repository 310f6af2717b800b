-- What do the modules of a map have under an id, and what becomes of them where one is lent?
use Rattle.std.specs.Prelude.{List, Bool, ◌&&◌, length, nat_lt, slice_set}
use Rattle.std.specs.Borrow.{Lends, MutBor, Fml, Array}
use Rattle.std.specs.List.{refill}
use Rattle.hir_scope.specs.HirIds.declared.ids.ModuleId.{ModuleId}
use Rattle.hir_scope.specs.HirIds.contracts.ids.MapIdPartialEq.TheImpl as map_id
use Rattle.hir_def_map_rules.specs.State.{Modules, ModuleValue}
use Rattle.hir_def_map_rules.specs.contracts.modules_map.ModulesMap as modules_map
use Rattle.hir_def_map_rules.specs.contracts.module_data.ModuleData as module_data

-- whether a module is one of these
abbrev pub has_id : Modules → ModuleId → Bool
has_id ms id = map_id.ghosts.eq id.map ms.map && nat_lt id.index (length ms.modules)

-- the module of an id ends as what is left behind it
abbrev pub LendsOne : MutBor Modules → ModuleId → MutBor ModuleValue → Fml
LendsOne lender id lent =
    Lends modules_map.the_row module_data.the_row lender lent (λ left. record lender.now { modules = slice_set lender.now.modules id.index left })

-- each module ends as what is left in its place; there are as many as before
abbrev pub LendsEach : MutBor Modules → MutBor (List ModuleValue) → Fml
LendsEach lender lent = Lends modules_map.the_row (Array module_data.the_row 0) lender lent
    (λ left. record lender.now { modules = refill (length lender.now.modules) lender.now.modules left })
