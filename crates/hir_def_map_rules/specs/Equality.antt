-- When are two def maps equal? Part by part, and in each list entry by entry in order.
use Rattle.std.specs.Prelude.{Option}
use Rattle.std.specs.Option.{option_eq}
use Rattle.std.specs.Ordering.{on, eq_of_both}
use Rattle.std.specs.Cmp.{IsEquivalence, on_equiv, and_equiv}
use Rattle.std.specs.Cmp.Lexicographic.{pointwise, lists_equiv, options_equiv}
use Rattle.hir_scope.specs.HirIds.contracts.ast_id.AstIdPartialEq.TheImpl as ast_id
use Rattle.hir_scope.specs.HirIds.contracts.ast_id.AstIdEq.TheImpl.Laws.{laws-law as ast_id_laws}
use Rattle.hir_scope.specs.HirIds.declared.ids.ModuleId.{ModuleId}
use Rattle.hir_scope.specs.HirIds.declared.ids.UseId.{UseId}
use Rattle.hir_scope.specs.HirIds.contracts.ids.EnumIdPartialEq.TheImpl as enum_id
use Rattle.hir_scope.specs.HirIds.contracts.ids.EnumIdEq.TheImpl.Laws.{laws-law as enum_id_laws}
use Rattle.hir_scope.specs.HirIds.contracts.ids.ExternCrateIdPartialEq.TheImpl as extern_crate
use Rattle.hir_scope.specs.HirIds.contracts.ids.ExternCrateIdEq.TheImpl.Laws.{laws-law as extern_crate_laws}
use Rattle.hir_scope.specs.HirIds.contracts.ids.FunctionIdPartialEq.TheImpl as function
use Rattle.hir_scope.specs.HirIds.contracts.ids.FunctionIdEq.TheImpl.Laws.{laws-law as function_laws}
use Rattle.hir_scope.specs.HirIds.contracts.ids.MapIdPartialEq.TheImpl as map_id
use Rattle.hir_scope.specs.HirIds.contracts.ids.MapIdEq.TheImpl.Laws.{laws-law as map_id_laws}
use Rattle.hir_scope.specs.HirIds.contracts.ids.ModuleIdPartialEq.TheImpl as module_id
use Rattle.hir_scope.specs.HirIds.contracts.ids.ModuleIdEq.TheImpl.Laws.{laws-law as module_id_laws}
use Rattle.hir_scope.specs.HirIds.contracts.ids.UseIdPartialEq.TheImpl as use_id
use Rattle.hir_scope.specs.HirIds.contracts.ids.UseIdEq.TheImpl.Laws.{laws-law as use_id_laws}
use Rattle.hir_scope.specs.HirIds.contracts.macro_kind.MacroIdPartialEq.TheImpl as makro
use Rattle.hir_scope.specs.HirIds.contracts.macro_kind.MacroIdEq.TheImpl.Laws.{laws-law as makro_laws}
use Rattle.hir_scope.specs.HirIds.contracts.macro_kind.ProcMacroIdPartialEq.TheImpl as proc_macro
use Rattle.hir_scope.specs.HirIds.contracts.macro_kind.ProcMacroIdEq.TheImpl.Laws.{laws-law as proc_macro_laws}
use Rattle.hir_scope.specs.Inner.Equality.{same_scope, same_scope_equiv}
use Rattle.hir_scope.specs.HirPerNs.contracts.visibility.VisibilityPartialEq.TheImpl as visibility
use Rattle.hir_scope.specs.HirPerNs.contracts.visibility.VisibilityEq.TheImpl.Laws.{laws-law as visibility_laws}
use Rattle.hir_map_parts.specs.contracts.origin.ModuleOriginPartialEq.TheImpl as origin
use Rattle.hir_map_parts.specs.contracts.origin.ModuleOriginEq.TheImpl.Laws.{laws-law as origin_laws}
use Rattle.hir_map_parts.specs.Inner.MacroEquality.{same_diagnostics, same_diagnostics_equiv, same_helpers, same_helpers_equiv, same_macro_data}
use Rattle.hir_map_parts.specs.Inner.MacroEquality.{same_macro_data_equiv}
use Rattle.hir_def_map_rules.specs.State.{Map, Modules, ModuleValue}
pub use Rattle.hir_map_parts.specs.Equality.{Test, same_pair, same_by_name, same_variants, same_extern, same_local, same_settings, same_flags, same_data}
pub use Rattle.hir_map_parts.specs.Equality.{same_pair_equiv, same_by_name_equiv, same_variants_equiv, same_local_equiv, same_data_equiv}

-- whether two modules are written in one place, in one module, to be seen alike
abbrev pub same_place : Test ModuleValue
same_place =
    eq_of_both (on (λ (m : ModuleValue). m.origin) origin.ghosts.eq)
    (eq_of_both (on (λ (m : ModuleValue). m.visibility) visibility.ghosts.eq)
    (on (λ (m : ModuleValue). m.parent) (option_eq module_id.ghosts.eq)))

abbrev pub same_contents : Test ModuleValue
same_contents = eq_of_both (on (λ (m : ModuleValue). m.children) (same_by_name module_id.ghosts.eq)) (on (λ (m : ModuleValue). m.scope) same_scope)

-- whether two modules are equal
abbrev pub same_module : Test ModuleValue
same_module = eq_of_both same_place same_contents

-- whether the modules of two maps of one id are equal
abbrev pub same_modules : Test Modules
same_modules = eq_of_both (on (λ (m : Modules). m.map) map_id.ghosts.eq) (on (λ (m : Modules). m.modules) (pointwise same_module))

-- whether two maps have the same modules and enums under the same id
abbrev pub same_items : Test Map
same_items =
    eq_of_both (on (λ (m : Map). m.id) map_id.ghosts.eq)
    (eq_of_both (on (λ (m : Map). m.holder) (option_eq module_id.ghosts.eq))
    (eq_of_both (on (λ (m : Map). m.modules) (pointwise same_module))
    (on (λ (m : Map). m.enums) (pointwise (same_pair enum_id.ghosts.eq same_variants)))))

abbrev pub same_macro_use : Test Map
same_macro_use = on (λ (m : Map). m.macro_use_prelude) (same_by_name (same_pair makro.ghosts.eq (option_eq extern_crate.ghosts.eq)))

abbrev pub same_prelude : Test (Option (ModuleId × Option UseId))
same_prelude = option_eq (same_pair module_id.ghosts.eq (option_eq use_id.ghosts.eq))

abbrev pub same_preludes : Test Map
same_preludes = eq_of_both same_macro_use (on (λ (m : Map). m.prelude) same_prelude)

-- whether two maps have the same macros, by item and by function, the same kept of each, and the same derive helpers
abbrev pub same_macros : Test Map
same_macros =
    eq_of_both (on (λ (m : Map). m.macro_ids) (pointwise (same_pair ast_id.ghosts.eq makro.ghosts.eq)))
    (eq_of_both (on (λ (m : Map). m.proc_macros) (pointwise (same_pair function.ghosts.eq proc_macro.ghosts.eq)))
    (eq_of_both (on (λ (m : Map). m.macro_data) (pointwise (same_pair makro.ghosts.eq same_macro_data)))
    (on (λ (m : Map). m.derive_helpers) (pointwise (same_pair ast_id.ghosts.eq same_helpers)))))

-- and the same macros and diagnostics
abbrev pub same_reports : Test Map
same_reports = eq_of_both same_macros (on (λ (m : Map). m.diagnostics) same_diagnostics)

-- whether two maps are equal
abbrev pub same_def_map : Test Map
same_def_map = eq_of_both same_items (eq_of_both same_preludes (eq_of_both same_reports (on (λ (m : Map). m.crate_data) same_data)))

-- ---- equivalences

pub same_module_equiv : IsEquivalence same_module
same_module_equiv =
    and_equiv
    (and_equiv (on_equiv (λ (m : ModuleValue). m.origin) origin_laws)
    (and_equiv (on_equiv (λ (m : ModuleValue). m.visibility) visibility_laws)
    (on_equiv (λ (m : ModuleValue). m.parent) (options_equiv module_id_laws))))
    (and_equiv (on_equiv (λ (m : ModuleValue). m.children) (same_by_name_equiv module_id_laws))
    (on_equiv (λ (m : ModuleValue). m.scope) same_scope_equiv))

pub same_modules_equiv : IsEquivalence same_modules
same_modules_equiv = and_equiv (on_equiv (λ (m : Modules). m.map) map_id_laws) (on_equiv (λ (m : Modules). m.modules) (lists_equiv same_module_equiv))

pub same_def_map_equiv : IsEquivalence same_def_map
same_def_map_equiv =
    and_equiv
    (and_equiv (on_equiv (λ (m : Map). m.id) map_id_laws)
    (and_equiv (on_equiv (λ (m : Map). m.holder) (options_equiv module_id_laws))
    (and_equiv (on_equiv (λ (m : Map). m.modules) (lists_equiv same_module_equiv))
    (on_equiv (λ (m : Map). m.enums) (lists_equiv (same_pair_equiv enum_id_laws same_variants_equiv))))))
    (and_equiv
    (and_equiv (on_equiv (λ (m : Map). m.macro_use_prelude) (same_by_name_equiv (same_pair_equiv makro_laws (options_equiv extern_crate_laws))))
    (on_equiv (λ (m : Map). m.prelude) (options_equiv (same_pair_equiv module_id_laws (options_equiv use_id_laws)))))
    (and_equiv
    (and_equiv
    (and_equiv (on_equiv (λ (m : Map). m.macro_ids) (lists_equiv (same_pair_equiv ast_id_laws makro_laws)))
    (and_equiv (on_equiv (λ (m : Map). m.proc_macros) (lists_equiv (same_pair_equiv function_laws proc_macro_laws)))
    (and_equiv (on_equiv (λ (m : Map). m.macro_data) (lists_equiv (same_pair_equiv makro_laws same_macro_data_equiv)))
    (on_equiv (λ (m : Map). m.derive_helpers) (lists_equiv (same_pair_equiv ast_id_laws same_helpers_equiv))))))
    (on_equiv (λ (m : Map). m.diagnostics) same_diagnostics_equiv))
    (on_equiv (λ (m : Map). m.crate_data) same_data_equiv)))
