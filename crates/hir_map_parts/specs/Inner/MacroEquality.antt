-- When do two maps have the same diagnostics, the same derive helpers, and the same kept of a macro?
use Rattle.std.specs.Prelude.{Bool, List, nat_eq}
use Rattle.std.specs.Ordering.{on, eq_of_both}
use Rattle.std.specs.Cmp.{IsEquivalence, on_equiv, and_equiv}
use Rattle.std.specs.Cmp.Lexicographic.{pointwise, lists_equiv, nat_list_eq_equiv}
use Rattle.hir_map_parts.specs.declared.derive_helpers.DeriveHelper.{DeriveHelper}
use Rattle.hir_map_parts.specs.declared.diagnostics.DefDiagnostic.{DefDiagnostic}
use Rattle.hir_map_parts.specs.contracts.derive_helpers.DeriveHelperPartialEq.TheImpl as helper
use Rattle.hir_map_parts.specs.contracts.derive_helpers.DeriveHelperEq.TheImpl.Laws.{laws-law as helper_laws}
use Rattle.hir_map_parts.specs.contracts.diagnostics.DefDiagnosticPartialEq.TheImpl as diagnostic
use Rattle.hir_map_parts.specs.contracts.diagnostics.DefDiagnosticEq.TheImpl.Laws.{laws-law as diagnostic_laws}
use Rattle.hir_map_parts.specs.State.{MacroDataValue}

-- whether two lists have the same diagnostics in the same order
abbrev pub same_diagnostics : List DefDiagnostic → List DefDiagnostic → Bool
same_diagnostics = pointwise diagnostic.ghosts.eq

pub same_diagnostics_equiv : IsEquivalence same_diagnostics
same_diagnostics_equiv = lists_equiv diagnostic_laws

-- and the same derive helpers
abbrev pub same_helpers : List DeriveHelper → List DeriveHelper → Bool
same_helpers = pointwise helper.ghosts.eq

pub same_helpers_equiv : IsEquivalence same_helpers
same_helpers_equiv = lists_equiv helper_laws

-- and the same kept of a macro
abbrev pub same_macro_data : MacroDataValue → MacroDataValue → Bool
same_macro_data = eq_of_both (on (λ (d : MacroDataValue). d.name) (pointwise nat_eq)) (on (λ (d : MacroDataValue). d.helpers) (pointwise (pointwise nat_eq)))

pub same_macro_data_equiv : IsEquivalence same_macro_data
same_macro_data_equiv =
    and_equiv (on_equiv (λ (d : MacroDataValue). d.name) nat_list_eq_equiv) (on_equiv (λ (d : MacroDataValue). d.helpers) (lists_equiv nat_list_eq_equiv))
