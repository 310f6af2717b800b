-- What becomes of a map's macros, of the attributes that its derives bring, and of what went wrong?
use Rattle.std.specs.Prelude.{List, [], ◌∷◌, ◌++◌, Option, None, Some, cond}
use Rattle.std.specs.BTreeMap.{insert_entry, is_at}
use Rattle.std.specs.Map.{lookup}
use Rattle.hir_scope.specs.HirIds.declared.ast_id.AstId.{AstId}
use Rattle.hir_scope.specs.HirIds.declared.ids.FunctionId.{FunctionId}
use Rattle.hir_scope.specs.HirIds.declared.macro_kind.MacroId.{MacroId}
use Rattle.hir_scope.specs.HirIds.declared.macro_kind.ProcMacroId.{ProcMacroId}
use Rattle.hir_scope.specs.HirIds.contracts.ast_id.AstIdOrd.TheImpl as ast_order
use Rattle.hir_scope.specs.HirIds.contracts.ids.FunctionIdOrd.TheImpl as function_order
use Rattle.hir_scope.specs.HirIds.contracts.macro_kind.MacroIdOrd.TheImpl as macro_order
use Rattle.hir_scope.specs.HirIds.contracts.macro_kind.ProcMacroIdPartialEq.TheImpl as proc_macro
use Rattle.hir_map_parts.specs.declared.derive_helpers.DeriveHelper.{DeriveHelper}
use Rattle.hir_map_parts.specs.declared.diagnostics.DefDiagnostic.{DefDiagnostic}
use Rattle.hir_def_map_rules.specs.State.{MacroDataValue, Map}
pub use Rattle.hir_map_parts.specs.Macros.{with_behind}

-- the map with one more diagnostic
abbrev pub with_diagnostic : Map → DefDiagnostic → Map
with_diagnostic map diagnostic = record map { diagnostics = map.diagnostics ++ diagnostic ∷ [] }

-- the macro that an item defines
abbrev pub macro_at : Map → AstId → Option MacroId
macro_at map item = lookup (is_at (ast_order.ghosts.cmp item)) map.macro_ids

-- the map where an item defines a macro
abbrev pub with_macro_def : Map → AstId → MacroId → Map
with_macro_def map item makro = record map { macro_ids = insert_entry ast_order.ghosts.cmp map.macro_ids item makro }

-- the procedural macro that a function exports
abbrev pub proc_macro_at : Map → FunctionId → Option ProcMacroId
proc_macro_at map function = lookup (is_at (function_order.ghosts.cmp function)) map.proc_macros

-- the first function that exports a procedural macro
abbrev pub exporting_function : ProcMacroId → List (FunctionId × ProcMacroId) → Option FunctionId
exporting_function makro [] = None
exporting_function makro (e ∷ es) = cond (proc_macro.ghosts.eq e.1 makro) (Some e.0) (exporting_function makro es)

-- the map where a function exports a procedural macro
abbrev pub with_exported : Map → FunctionId → ProcMacroId → Map
with_exported map function makro = record map { proc_macros = insert_entry function_order.ghosts.cmp map.proc_macros function makro }

-- what is kept of a macro that the map defines
abbrev pub macro_data_at : Map → MacroId → Option MacroDataValue
macro_data_at map makro = lookup (is_at (macro_order.ghosts.cmp makro)) map.macro_data

-- the map where this is kept of a macro
abbrev pub with_macro_data : Map → MacroId → MacroDataValue → Map
with_macro_data map makro what = record map { macro_data = insert_entry macro_order.ghosts.cmp map.macro_data makro what }

-- the derive helpers on an item
abbrev pub helpers_at : Map → AstId → Option (List DeriveHelper)
helpers_at map item = lookup (is_at (ast_order.ghosts.cmp item)) map.derive_helpers

-- helpers by items, with one more behind those of an item
abbrev pub with_helper : List (AstId × List DeriveHelper) → AstId → DeriveHelper → Option (List DeriveHelper) → List (AstId × List DeriveHelper)
with_helper helpers item helper None = insert_entry ast_order.ghosts.cmp helpers item (helper ∷ [])
with_helper helpers item helper (Some of_item) = with_behind helpers item helper (Some of_item)

-- the map where one more derive helper is in scope on an item
abbrev pub with_derive_helper : Map → AstId → DeriveHelper → Map
with_derive_helper map item helper = record map { derive_helpers = with_helper map.derive_helpers item helper (helpers_at map item) }
