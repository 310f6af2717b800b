-- What does a def map say of itself?
use Rattle.std.specs.Prelude.{None, cond, length, Bool, ◌&&◌, ◌||◌, nat_lt, Option, option_and_then}
use Rattle.hir_scope.specs.HirIds.declared.ids.ModuleId.{ModuleId}
use Rattle.hir_scope.specs.HirIds.contracts.ids.MapIdPartialEq.TheImpl as map_id
use Rattle.hir_scope.specs.Bindings.{first_of}
use Rattle.hir_def_map_rules.specs.State.{CrateData, Map, ModuleValue, module_at}
pub use Rattle.hir_map_parts.specs.Reads.{feature_in}

-- whether a module is one of the map's
abbrev pub contains_module : Map → ModuleId → Bool
contains_module map m = map_id.ghosts.eq m.map map.id && nat_lt m.index (length map.modules)

-- what one of the modules is in: its parent, or for a root the module that holds the block
abbrev pub containing_module : Map → ModuleId → Option ModuleId
containing_module map id = cond (contains_module map id) (option_and_then (λ (m : ModuleValue). first_of m.parent map.holder) (module_at map id.index)) None

-- a crate without `core` is without `std` too
abbrev pub is_without_std : CrateData → Bool
is_without_std crate_data = crate_data.no_std || crate_data.no_core
