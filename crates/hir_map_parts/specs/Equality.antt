-- When are two parts of def maps equal? In each list entry by entry in order.
use Rattle.std.specs.Prelude.{ℕ, Bool, nat_eq, List, Option}
use Rattle.std.specs.Bool.{beq}
use Rattle.std.specs.Option.{option_eq}
use Rattle.std.specs.Ordering.{on, eq_of_both}
use Rattle.std.specs.Cmp.{IsEquivalence, on_equiv, and_equiv, bool_eq_equiv, nat_eq_equiv}
use Rattle.std.specs.Cmp.Lexicographic.{pointwise, lists_equiv, options_equiv, nat_list_eq_equiv}
use Rattle.hir_ids.specs.contracts.edition.EditionPartialEq.TheImpl as edition
use Rattle.hir_ids.specs.contracts.edition.EditionEq.TheImpl.Laws.{laws-law as edition_laws}
use Rattle.hir_ids.specs.contracts.ids.CratePartialEq.TheImpl as krate
use Rattle.hir_ids.specs.contracts.ids.CrateEq.TheImpl.Laws.{laws-law as krate_laws}
use Rattle.hir_ids.specs.declared.ids.ExternCrateId.{ExternCrateId}
use Rattle.hir_ids.specs.declared.ids.ModuleId.{ModuleId}
use Rattle.hir_ids.specs.contracts.ids.ExternCrateIdPartialEq.TheImpl as extern_crate
use Rattle.hir_ids.specs.contracts.ids.ExternCrateIdEq.TheImpl.Laws.{laws-law as extern_crate_laws}
use Rattle.hir_ids.specs.contracts.ids.ModuleIdPartialEq.TheImpl as module_id
use Rattle.hir_ids.specs.contracts.ids.ModuleIdEq.TheImpl.Laws.{laws-law as module_id_laws}
use Rattle.hir_map_parts.specs.contracts.enum_variants.EnumVariantPartialEq.TheImpl as enum_variant
use Rattle.hir_map_parts.specs.contracts.enum_variants.EnumVariantEq.TheImpl.Laws.{laws-law as enum_variant_laws}
use Rattle.hir_map_parts.specs.State.{CrateData, Local, Variants}

-- a test of two values
abbrev pub Test : Type 0 → Type 0
Test K = K → K → Bool

-- whether two pairs have one first and one second part
abbrev pub same_pair : {K V : Type 0} → Test K → Test V → Test (K × V)
same_pair {K} {V} key value = eq_of_both (on (λ (p : K × V). p.0) key) (on (λ (p : K × V). p.1) value)

-- a list by names
abbrev pub same_by_name : {V : Type 0} → Test V → Test (List (List ℕ × V))
same_by_name value = pointwise (same_pair (pointwise nat_eq) value)

abbrev pub same_variants : Test Variants
same_variants = same_by_name enum_variant.ghosts.eq

-- whether two names stand for the same crate, named by the same `extern crate`
abbrev pub same_extern : Test (List ℕ × (ModuleId × Option ExternCrateId))
same_extern = same_pair (pointwise nat_eq) (same_pair module_id.ghosts.eq (option_eq extern_crate.ghosts.eq))

-- whether two paths may begin with the same crates, which were named in the same order
abbrev pub same_local : Test Local
same_local = pointwise same_extern

-- whether two crates' tops say the same
abbrev pub same_settings : Test CrateData
same_settings =
    eq_of_both (on (λ (d : CrateData). d.edition) edition.ghosts.eq)
    (eq_of_both (on (λ (d : CrateData). d.registered_tools) (pointwise (pointwise nat_eq)))
    (eq_of_both (on (λ (d : CrateData). d.features) (pointwise (pointwise nat_eq)))
    (on (λ (d : CrateData). d.recursion_limit) nat_eq)))

abbrev pub same_flags : Test CrateData
same_flags =
    eq_of_both (on (λ (d : CrateData). d.rustc_coherence_is_core) beq)
    (eq_of_both (on (λ (d : CrateData). d.no_core) beq)
    (on (λ (d : CrateData). d.no_std) beq))

abbrev pub same_data : Test CrateData
same_data = eq_of_both same_settings (eq_of_both same_flags (on (λ (d : CrateData). d.dependencies) (pointwise krate.ghosts.eq)))

pub same_pair_equiv : {K V : Type 0} {key : Test K} {value : Test V} → IsEquivalence key → IsEquivalence value → IsEquivalence (same_pair key value)
same_pair_equiv {K} {V} keys values = and_equiv (on_equiv (λ (p : K × V). p.0) keys) (on_equiv (λ (p : K × V). p.1) values)

pub same_by_name_equiv : {V : Type 0} {value : Test V} → IsEquivalence value → IsEquivalence (same_by_name value)
same_by_name_equiv values = lists_equiv (same_pair_equiv nat_list_eq_equiv values)

pub same_variants_equiv : IsEquivalence same_variants
same_variants_equiv = same_by_name_equiv enum_variant_laws

pub same_local_equiv : IsEquivalence same_local
same_local_equiv = same_by_name_equiv (same_pair_equiv module_id_laws (options_equiv extern_crate_laws))

pub same_data_equiv : IsEquivalence same_data
same_data_equiv =
    and_equiv
    (and_equiv (on_equiv (λ (d : CrateData). d.edition) edition_laws)
    (and_equiv (on_equiv (λ (d : CrateData). d.registered_tools) (lists_equiv nat_list_eq_equiv))
    (and_equiv (on_equiv (λ (d : CrateData). d.features) (lists_equiv nat_list_eq_equiv))
    (on_equiv (λ (d : CrateData). d.recursion_limit) nat_eq_equiv))))
    (and_equiv
    (and_equiv (on_equiv (λ (d : CrateData). d.rustc_coherence_is_core) bool_eq_equiv)
    (and_equiv (on_equiv (λ (d : CrateData). d.no_core) bool_eq_equiv)
    (on_equiv (λ (d : CrateData). d.no_std) bool_eq_equiv)))
    (on_equiv (λ (d : CrateData). d.dependencies) (lists_equiv krate_laws)))
