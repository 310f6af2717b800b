-- What becomes of a def map, a part of which is lent?
use Rattle.std.specs.Prelude.{ℕ, List, length, slice_set}
use Rattle.std.specs.Borrow.{Lends, MutBor, Fml, Array}
use Rattle.std.specs.List.{refill}
use Rattle.hir_def_map_rules.specs.HirIds.declared.ids.ModuleId.{ModuleId}
use Rattle.hir_def_map_rules.specs.HirScope.Scope.{ScopeValue}
use Rattle.hir_def_map_rules.specs.HirScope.contracts.item_scope.ItemScope as item_scope
use Rattle.hir_def_map_rules.specs.State.{CrateData, Map, ModuleValue, with_scope}
use Rattle.hir_nameres.specs.contracts.nameres.DefMap as def_map
use Rattle.hir_def_map_rules.specs.HirMapParts.contracts.crate_data.DefMapCrateData as crate_data
use Rattle.hir_def_map_rules.specs.contracts.module_data.ModuleData as module_data

-- the map has what is left behind the data of its crate, and is as it was besides
abbrev pub LendsCrateData : MutBor Map → MutBor CrateData → Fml
LendsCrateData lender lent = Lends def_map.the_row crate_data.the_row lender lent (λ left. record lender.now { crate_data = left })

-- the map has what is left behind the module of a number in its place, and is as it was besides
abbrev pub LendsModuleAt : MutBor Map → ℕ → MutBor ModuleValue → Fml
LendsModuleAt lender at lent =
    Lends def_map.the_row module_data.the_row lender lent (λ left. record lender.now { modules = slice_set lender.now.modules at left })

-- the same of the module of an id
abbrev pub LendsModule : MutBor Map → ModuleId → MutBor ModuleValue → Fml
LendsModule lender id lent = LendsModuleAt lender id.index lent

-- each module ends as what is left in its place; there are as many as before
abbrev pub LendsModules : MutBor Map → MutBor (List ModuleValue) → Fml
LendsModules lender lent = Lends def_map.the_row (Array module_data.the_row 0) lender lent
    (λ left. record lender.now { modules = refill (length lender.now.modules) lender.now.modules left })

-- the map has what is left behind the scope of the module of a number, and is as it was besides
abbrev pub LendsScopeAt : MutBor Map → ℕ → MutBor ScopeValue → Fml
LendsScopeAt lender at lent = Lends def_map.the_row item_scope.the_row lender lent (λ left. with_scope lender.now at (λ s. left))
