-- When are two scopes equal? Table by table, and entry by entry in order.
use Rattle.std.specs.Prelude.{◌≡◌, refl, Bool, true, false, nat_eq, List}
use Rattle.std.proofs.Common.{sym, true≢false}
use Rattle.std.specs.Bool.{beq}
use Rattle.std.specs.Option.{option_eq}
use Rattle.std.specs.Ordering.{on, eq_of_both}
use Rattle.std.specs.Cmp.{IsEquivalence, on_equiv, and_equiv, bool_eq_equiv}
use Rattle.std.specs.Cmp.Lexicographic.{pointwise, lists_equiv, options_equiv, nat_list_eq_equiv}
use Rattle.std.specs.contracts.prelude.UnitPartialEq.TheImpl as unit
use Rattle.std.specs.contracts.prelude.UnitEq.TheImpl.Laws.{laws-law as unit_laws}
use Rattle.either.specs.declared.Either.TheVariants.{Left, Right}
use Rattle.hir_ids.specs.contracts.ast_id.AstIdPartialEq.TheImpl as ast_id
use Rattle.hir_ids.specs.contracts.ast_id.AstIdEq.TheImpl.Laws.{laws-law as ast_id_laws}
use Rattle.hir_ids.specs.contracts.ast_id.AttrIdPartialEq.TheImpl as attr_id
use Rattle.hir_ids.specs.contracts.ast_id.AttrIdEq.TheImpl.Laws.{laws-law as attr_id_laws}
use Rattle.hir_ids.specs.contracts.ast_id.MacroCallIdPartialEq.TheImpl as macro_call
use Rattle.hir_ids.specs.contracts.ast_id.MacroCallIdEq.TheImpl.Laws.{laws-law as macro_call_laws}
use Rattle.hir_ids.specs.contracts.ids.ConstIdPartialEq.TheImpl as const_id
use Rattle.hir_ids.specs.contracts.ids.ConstIdEq.TheImpl.Laws.{laws-law as const_id_laws}
use Rattle.hir_ids.specs.contracts.ids.ExternBlockIdPartialEq.TheImpl as extern_block
use Rattle.hir_ids.specs.contracts.ids.ExternBlockIdEq.TheImpl.Laws.{laws-law as extern_block_laws}
use Rattle.hir_ids.specs.contracts.ids.ExternCrateIdPartialEq.TheImpl as extern_crate
use Rattle.hir_ids.specs.contracts.ids.ExternCrateIdEq.TheImpl.Laws.{laws-law as extern_crate_laws}
use Rattle.hir_ids.specs.contracts.ids.ImplIdPartialEq.TheImpl as impl_id
use Rattle.hir_ids.specs.contracts.ids.ImplIdEq.TheImpl.Laws.{laws-law as impl_id_laws}
use Rattle.hir_ids.specs.contracts.ids.ModuleDefIdPartialEq.TheImpl as module_def
use Rattle.hir_ids.specs.contracts.ids.ModuleDefIdEq.TheImpl.Laws.{laws-law as module_def_laws}
use Rattle.hir_ids.specs.contracts.ids.TraitIdPartialEq.TheImpl as trait_id
use Rattle.hir_ids.specs.contracts.ids.TraitIdEq.TheImpl.Laws.{laws-law as trait_id_laws}
use Rattle.hir_ids.specs.contracts.ids.UseIdPartialEq.TheImpl as use_id
use Rattle.hir_ids.specs.contracts.ids.UseIdEq.TheImpl.Laws.{laws-law as use_id_laws}
use Rattle.hir_ids.specs.contracts.macro_kind.BuiltinDeriveImplIdPartialEq.TheImpl as builtin_impl
use Rattle.hir_ids.specs.contracts.macro_kind.BuiltinDeriveImplIdEq.TheImpl.Laws.{laws-law as builtin_impl_laws}
use Rattle.hir_ids.specs.contracts.macro_kind.MacroIdPartialEq.TheImpl as makro
use Rattle.hir_ids.specs.contracts.macro_kind.MacroIdEq.TheImpl.Laws.{laws-law as makro_laws}
use Rattle.hir_textual_scope.specs.contracts.textual_scope.TextualMacroPartialEq.TheImpl as textual_macro
use Rattle.hir_textual_scope.specs.contracts.textual_scope.TextualMacroEq.TheImpl.Laws.{laws-law as textual_macro_laws}
use Rattle.hir_per_ns.specs.contracts.imports.ImportIdPartialEq.TheImpl as import_id
use Rattle.hir_per_ns.specs.contracts.imports.ImportIdEq.TheImpl.Laws.{laws-law as import_id_laws}
use Rattle.hir_per_ns.specs.contracts.imports.ImportOrDefPartialEq.TheImpl as import_or_def
use Rattle.hir_per_ns.specs.contracts.imports.ImportOrDefEq.TheImpl.Laws.{laws-law as import_or_def_laws}
use Rattle.hir_per_ns.specs.contracts.imports.ImportOrExternCratePartialEq.TheImpl as import_or_extern_crate
use Rattle.hir_per_ns.specs.contracts.imports.ImportOrExternCrateEq.TheImpl.Laws.{laws-law as import_or_extern_crate_laws}
use Rattle.hir_per_ns.specs.contracts.imports.ImportOrGlobPartialEq.TheImpl as import_or_glob
use Rattle.hir_per_ns.specs.contracts.imports.ImportOrGlobEq.TheImpl.Laws.{laws-law as import_or_glob_laws}
use Rattle.hir_per_ns.specs.contracts.visibility.VisibilityPartialEq.TheImpl as visibility
use Rattle.hir_per_ns.specs.contracts.visibility.VisibilityEq.TheImpl.Laws.{laws-law as visibility_laws}
use Rattle.hir_per_ns.specs.PerNs.{Item}
use Rattle.hir_scope.specs.Scope.{ScopeValue, DeriveCall, DeriveCalls}

-- a test of two values
abbrev Test : Type 0 → Type 0
Test K = K → K → Bool

-- ---- what the tables hold

-- whether two entries have one key and one value
abbrev pub same_entry : {K V : Type 0} → Test K → Test V → Test (K × V)
same_entry {K} {V} key value = eq_of_both (on (λ (p : K × V). p.0) key) (on (λ (p : K × V). p.1) value)

-- whether two names stand for one item, under one visibility and by one import
abbrev pub same_item : {D I : Type 0} → Test D → Test I → Test (Item D I)
same_item {D} {I} def import =
    eq_of_both (on (λ (i : Item D I). i.def) def) (eq_of_both (on (λ (i : Item D I). i.vis) visibility.ghosts.eq)
    (on (λ (i : Item D I). i.import) (option_eq import)))

-- whether two derive paths became the same
abbrev pub same_call : Test DeriveCall
same_call (Left a) (Left b) = macro_call.ghosts.eq a b
same_call (Right a) (Right b) = builtin_impl.ghosts.eq a b
same_call (Left a) (Right b) = false
same_call (Right a) (Left b) = false

-- whether two `derive` attributes are the same, with what their paths became
abbrev pub same_derive : Test DeriveCalls
same_derive =
    eq_of_both (on (λ (d : DeriveCalls). d.attr_id) attr_id.ghosts.eq) (eq_of_both (on (λ (d : DeriveCalls). d.attr_call_id) macro_call.ghosts.eq)
    (on (λ (d : DeriveCalls). d.derive_call_ids) (pointwise (option_eq same_call))))

-- ---- the tables

-- whether two scopes have one list that a field reads
abbrev same_list : {K : Type 0} → (ScopeValue → List K) → Test K → Test ScopeValue
same_list field same = on field (pointwise same)

-- what names stand for, and the names that stand for nothing
abbrev pub same_bindings : ScopeValue → ScopeValue → Bool
same_bindings =
    eq_of_both (same_list (λ s. s.types) (same_entry (pointwise nat_eq) (same_item module_def.ghosts.eq import_or_extern_crate.ghosts.eq)))
    (eq_of_both (same_list (λ s. s.values) (same_entry (pointwise nat_eq) (same_item module_def.ghosts.eq import_or_glob.ghosts.eq)))
    (eq_of_both (same_list (λ s. s.macros) (same_entry (pointwise nat_eq) (same_item makro.ghosts.eq import_or_extern_crate.ghosts.eq)))
    (same_list (λ s. s.unresolved) (pointwise nat_eq))))

-- the definitions and impls
abbrev pub same_declarations : ScopeValue → ScopeValue → Bool
same_declarations =
    eq_of_both (same_list (λ s. s.declarations) module_def.ghosts.eq)
    (eq_of_both (same_list (λ s. s.impls) (same_entry impl_id.ghosts.eq beq))
    (eq_of_both (same_list (λ s. s.builtin_derive_impls) builtin_impl.ghosts.eq)
    (same_list (λ s. s.unnamed_consts) const_id.ghosts.eq)))

-- the `use` and `extern` items
abbrev pub same_uses : ScopeValue → ScopeValue → Bool
same_uses =
    eq_of_both (same_list (λ s. s.use_decls) use_id.ghosts.eq)
    (eq_of_both (same_list (λ s. s.extern_crate_decls) extern_crate.ghosts.eq)
    (same_list (λ s. s.extern_blocks) extern_block.ghosts.eq))

-- what imports reached, and the traits that are imported without a name
abbrev pub same_imports : ScopeValue → ScopeValue → Bool
same_imports =
    eq_of_both (same_list (λ s. s.type_imports) (same_entry import_or_extern_crate.ghosts.eq import_or_def.ghosts.eq))
    (eq_of_both (same_list (λ s. s.value_imports) (same_entry import_or_glob.ghosts.eq import_or_def.ghosts.eq))
    (eq_of_both (same_list (λ s. s.macro_imports) (same_entry import_or_extern_crate.ghosts.eq import_or_def.ghosts.eq))
    (same_list (λ s. s.unnamed_traits) (same_entry trait_id.ghosts.eq (same_item unit.ghosts.eq import_id.ghosts.eq)))))

-- the macros in textual scope, and what calls, attributes and derives became
abbrev pub same_macros : ScopeValue → ScopeValue → Bool
same_macros =
    eq_of_both (same_list (λ s. s.legacy_macros) textual_macro.ghosts.eq)
    (eq_of_both (same_list (λ s. s.attr_macros) (same_entry ast_id.ghosts.eq macro_call.ghosts.eq))
    (eq_of_both (same_list (λ s. s.macro_calls) (same_entry ast_id.ghosts.eq macro_call.ghosts.eq))
    (same_list (λ s. s.derive_macros) (same_entry ast_id.ghosts.eq (pointwise same_derive)))))

-- whether two scopes hold the same
abbrev pub same_scope : ScopeValue → ScopeValue → Bool
same_scope = eq_of_both same_bindings (eq_of_both same_declarations (eq_of_both same_uses (eq_of_both same_imports same_macros)))

-- ---- equivalences

same_entry_equiv : {K V : Type 0} {key : Test K} {value : Test V} → IsEquivalence key → IsEquivalence value → IsEquivalence (same_entry key value)
same_entry_equiv {K} {V} keys values = and_equiv (on_equiv (λ (p : K × V). p.0) keys) (on_equiv (λ (p : K × V). p.1) values)

same_item_equiv : {D I : Type 0} {def : Test D} {import : Test I} → IsEquivalence def → IsEquivalence import → IsEquivalence (same_item def import)
same_item_equiv {D} {I} defs imports =
    and_equiv (on_equiv (λ (i : Item D I). i.def) defs) (and_equiv (on_equiv (λ (i : Item D I). i.vis) visibility_laws)
    (on_equiv (λ (i : Item D I). i.import) (options_equiv imports)))

call_itself : (a : DeriveCall) → same_call a a ≡ true
call_itself (Left a) = macro_call_laws.refl a
call_itself (Right a) = builtin_impl_laws.refl a

call_flip : (a b : DeriveCall) → same_call a b ≡ same_call b a
call_flip (Left a) (Left b) = macro_call_laws.symm a b
call_flip (Right a) (Right b) = builtin_impl_laws.symm a b
call_flip (Left a) (Right b) = refl
call_flip (Right a) (Left b) = refl

call_alike : (a b c : DeriveCall) → same_call a b ≡ true → same_call a c ≡ same_call b c
call_alike (Left a) (Left b) (Left c) same = macro_call_laws.congr a b c same
call_alike (Left a) (Left b) (Right c) same = refl
call_alike (Right a) (Right b) (Right c) same = builtin_impl_laws.congr a b c same
call_alike (Right a) (Right b) (Left c) same = refl
call_alike (Left a) (Right b) c same = absurd (true≢false (sym same))
call_alike (Right a) (Left b) c same = absurd (true≢false (sym same))

same_call_equiv : IsEquivalence same_call
same_call_equiv = record { refl = call_itself; symm = call_flip; congr = call_alike }

pub same_derive_equiv : IsEquivalence same_derive
same_derive_equiv =
    and_equiv (on_equiv (λ (d : DeriveCalls). d.attr_id) attr_id_laws) (and_equiv (on_equiv (λ (d : DeriveCalls). d.attr_call_id) macro_call_laws)
    (on_equiv (λ (d : DeriveCalls). d.derive_call_ids) (lists_equiv (options_equiv same_call_equiv))))

same_list_equiv : {K : Type 0} {same : Test K} (field : ScopeValue → List K) → IsEquivalence same → IsEquivalence (same_list field same)
same_list_equiv field same = on_equiv field (lists_equiv same)

same_bindings_equiv : IsEquivalence same_bindings
same_bindings_equiv =
    and_equiv (same_list_equiv (λ s. s.types) (same_entry_equiv nat_list_eq_equiv (same_item_equiv module_def_laws import_or_extern_crate_laws)))
    (and_equiv (same_list_equiv (λ s. s.values) (same_entry_equiv nat_list_eq_equiv (same_item_equiv module_def_laws import_or_glob_laws)))
    (and_equiv (same_list_equiv (λ s. s.macros) (same_entry_equiv nat_list_eq_equiv (same_item_equiv makro_laws import_or_extern_crate_laws)))
    (same_list_equiv (λ s. s.unresolved) nat_list_eq_equiv)))

same_declarations_equiv : IsEquivalence same_declarations
same_declarations_equiv =
    and_equiv (same_list_equiv (λ s. s.declarations) module_def_laws)
    (and_equiv (same_list_equiv (λ s. s.impls) (same_entry_equiv impl_id_laws bool_eq_equiv))
    (and_equiv (same_list_equiv (λ s. s.builtin_derive_impls) builtin_impl_laws)
    (same_list_equiv (λ s. s.unnamed_consts) const_id_laws)))

same_uses_equiv : IsEquivalence same_uses
same_uses_equiv =
    and_equiv (same_list_equiv (λ s. s.use_decls) use_id_laws)
    (and_equiv (same_list_equiv (λ s. s.extern_crate_decls) extern_crate_laws)
    (same_list_equiv (λ s. s.extern_blocks) extern_block_laws))

same_imports_equiv : IsEquivalence same_imports
same_imports_equiv =
    and_equiv (same_list_equiv (λ s. s.type_imports) (same_entry_equiv import_or_extern_crate_laws import_or_def_laws))
    (and_equiv (same_list_equiv (λ s. s.value_imports) (same_entry_equiv import_or_glob_laws import_or_def_laws))
    (and_equiv (same_list_equiv (λ s. s.macro_imports) (same_entry_equiv import_or_extern_crate_laws import_or_def_laws))
    (same_list_equiv (λ s. s.unnamed_traits) (same_entry_equiv trait_id_laws (same_item_equiv unit_laws import_id_laws)))))

same_macros_equiv : IsEquivalence same_macros
same_macros_equiv =
    and_equiv (same_list_equiv (λ s. s.legacy_macros) textual_macro_laws)
    (and_equiv (same_list_equiv (λ s. s.attr_macros) (same_entry_equiv ast_id_laws macro_call_laws))
    (and_equiv (same_list_equiv (λ s. s.macro_calls) (same_entry_equiv ast_id_laws macro_call_laws))
    (same_list_equiv (λ s. s.derive_macros) (same_entry_equiv ast_id_laws (lists_equiv same_derive_equiv)))))

pub same_scope_equiv : IsEquivalence same_scope
same_scope_equiv =
    and_equiv same_bindings_equiv (and_equiv same_declarations_equiv (and_equiv same_uses_equiv (and_equiv same_imports_equiv same_macros_equiv)))
