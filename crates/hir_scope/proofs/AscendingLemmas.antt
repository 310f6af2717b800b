-- The names and the imports of a scope ascend.
use Rattle.std.proofs.Common.{◌≡◌, refl, ap, subst, sym, ◌∙◌, ℕ, List, [], ◌∷◌}
use Rattle.std.specs.List.{AllByRecursion}
use Rattle.std.specs.List.Sorted.{IsStrictlySortedBy}
use Rattle.std.specs.declared.cmp.Ordering.{Ordering}
use Rattle.std.specs.declared.cmp.Ordering.TheVariants.{Less, Equal, Greater}
use Rattle.std.specs.Cmp.Lexicographic.{slice_cmp}
use Rattle.std.specs.Map.{keys_of}
use Rattle.std.specs.Ordering.{nat_cmp}
use Rattle.hir_per_ns.specs.contracts.imports.ImportOrExternCrateOrd.TheImpl as import_or_extern_crate
use Rattle.hir_per_ns.specs.contracts.imports.ImportOrGlobOrd.TheImpl as import_or_glob
use Rattle.hir_scope.specs.Types.{ImportId, ImportOrExternCrate, ImportOrGlob}
use Rattle.hir_per_ns.specs.declared.imports.ImportOrExternCrate.TheVariants as item
use Rattle.hir_per_ns.specs.declared.imports.ImportOrGlob.TheVariants as value
use Rattle.hir_scope.specs.Scope.Entries.{entries_of, scope_names, with_bindings, import_order, imports_among, value_imports_among}
use Rattle.hir_scope.specs.Scope.{ScopeValue}

-- names with what they stand for are the names
keys_of-with_bindings : (scope : ScopeValue) (names : List (List ℕ)) → keys_of (with_bindings scope names) ≡ names
keys_of-with_bindings scope [] = refl
keys_of-with_bindings scope (name ∷ names) = ap (λ (ns : List (List ℕ)). name ∷ ns) (keys_of-with_bindings scope names)

pub entries_ascend : (scope : ScopeValue) → IsStrictlySortedBy (slice_cmp nat_cmp) (scope_names scope) → IsStrictlySortedBy (slice_cmp nat_cmp)
    (keys_of (entries_of scope))
entries_ascend scope s = subst (IsStrictlySortedBy (slice_cmp nat_cmp)) (sym (keys_of-with_bindings scope (scope_names scope))) s

-- imports stand among the keys of a table in the order of imports
imports_below : (a : ImportId) (keys : List ImportOrExternCrate) → AllByRecursion (λ k. import_or_extern_crate.ghosts.cmp (item.Import a) k ≡ Less) keys
    → AllByRecursion (λ i. import_order a i ≡ Less) (imports_among keys)
unfolding import_order
imports_below a [] h = tt
imports_below a (item.Import b ∷ keys) h = (h.0, imports_below a keys h.1)
imports_below a (item.Glob glob ∷ keys) h = imports_below a keys h.1
imports_below a (item.ExternCrate declared ∷ keys) h = imports_below a keys h.1

pub imports_among_ascend : (keys : List ImportOrExternCrate) → IsStrictlySortedBy import_or_extern_crate.ghosts.cmp keys → IsStrictlySortedBy import_order
    (imports_among keys)
unfolding IsStrictlySortedBy
imports_among_ascend [] s = tt
imports_among_ascend (item.Import a ∷ keys) s = (imports_below a keys s.0, imports_among_ascend keys s.1)
imports_among_ascend (item.Glob glob ∷ keys) s = imports_among_ascend keys s.1
imports_among_ascend (item.ExternCrate declared ∷ keys) s = imports_among_ascend keys s.1

value_imports_below : (a : ImportId) (keys : List ImportOrGlob) → AllByRecursion (λ k. import_or_glob.ghosts.cmp (value.Import a) k ≡ Less) keys
    → AllByRecursion (λ i. import_order a i ≡ Less) (value_imports_among keys)
unfolding import_order
value_imports_below a [] h = tt
value_imports_below a (value.Import b ∷ keys) h = (h.0, value_imports_below a keys h.1)
value_imports_below a (value.Glob glob ∷ keys) h = value_imports_below a keys h.1

pub value_imports_among_ascend : (keys : List ImportOrGlob) → IsStrictlySortedBy import_or_glob.ghosts.cmp keys → IsStrictlySortedBy import_order
    (value_imports_among keys)
unfolding IsStrictlySortedBy
value_imports_among_ascend [] s = tt
value_imports_among_ascend (value.Import a ∷ keys) s = (value_imports_below a keys s.0, value_imports_among_ascend keys s.1)
value_imports_among_ascend (value.Glob glob ∷ keys) s = value_imports_among_ascend keys s.1
