-- When a module is added.
use Rattle.std.specs.Prelude.{◌≡◌, length, Result, Ok, Err, cond, nat_lt}
use Rattle.hir_scope.specs.HirIds.declared.ids.ModuleId.{ModuleId}
use Rattle.hir_def_map_rules.specs.State.{Map, new_id}
use Rattle.hir_map_parts.specs.declared.add_module_error.AddModuleError.{AddModuleError}
use Rattle.hir_map_parts.specs.declared.add_module_error.AddModuleError.TheVariants as refusals

-- the new module's id, unless there are too many
abbrev pub new_module_verdict : Map → Result ModuleId AddModuleError
new_module_verdict map = cond (nat_lt (length map.modules) 2147483647) (Ok (new_id map)) (Err refusals.TooMany)

-- memory ran out
abbrev pub IsMemory : AddModuleError → Type 0
IsMemory e = e ≡ refusals.Memory
