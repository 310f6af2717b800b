-- What a scope's names stand for is what its entries say.
use Rattle.std.proofs.Common.{◌≡◌, ◌∙◌, ap, sym, refl, ℕ, List, [], ◌∷◌, Option, None, Some, map}
use Rattle.std.specs.Cmp.Lexicographic.{slice_cmp}
use Rattle.std.specs.Ordering.{nat_cmp}
use Rattle.std.specs.BTreeMap.{is_at}
use Rattle.std.specs.List.{AllByRecursion}
use Rattle.std.specs.Map.{keys_of, lookup}
use Rattle.std.proofs.lemmas.Cmp.{nat_list_cmp_total}
use Rattle.std.proofs.lemmas.Map.Lookups.{exact_bytes}
use Rattle.hir_scope.specs.Types.{PerNs}
use Rattle.hir_scope.specs.Entries.{item_at}
use Rattle.hir_scope.specs.Inner.Entries.{ScopeSlots, bindings_of, items_found, items_of}
use Rattle.hir_scope.specs.Scope.{ScopeValue, binding_of}
use Rattle.hir_scope.specs.Scope.Entries.{entries_of, scope_names, with_bindings}
use Rattle.hir_scope.specs.Slots.{types_in, values_in, macros_in, unresolved_in}
use Rattle.hir_scope_item.specs.declared.item.Candidate.{Candidate}
use Rattle.hir_scope_table.specs.Inner.Place.{IsKept}
use Rattle.hir_scope_table.specs.Slots.{named}
use Rattle.hir_scope_table.specs.Table.{item_entry, pushed_item}
use Rattle.hir_scope_table.proofs.Names.{each_found, names_of_entries}
use Rattle.hir_scope_table.proofs.Slots.{lookup-in_slot, slot_of}

-- a scope whose namespaces are those of entries
pub record IsScopeOf (es : List (List ℕ × ScopeSlots)) (scope : ScopeValue) : Type 0 where
  pub types : scope.types ≡ types_in es
  pub values : scope.values ≡ values_in es
  pub macros : scope.macros ≡ macros_in es
  pub unresolved : scope.unresolved ≡ unresolved_in es

module _ (es : List (List ℕ × ScopeSlots)) (kept : IsKept es) where
  -- what a name stands for
  pub binding_at : (name : List ℕ) → record { types = item_at (types_in es) name; values = item_at (values_in es) name; macros = item_at (macros_in es) name }
      ≡ items_found (lookup (is_at (slice_cmp nat_cmp name)) es)
  binding_at name =
      let types = lookup-in_slot (slice_cmp nat_cmp) nat_list_cmp_total exact_bytes (λ (s : ScopeSlots). s.types) es name kept.ascends in
      let values = lookup-in_slot (slice_cmp nat_cmp) nat_list_cmp_total exact_bytes (λ (s : ScopeSlots). s.values) es name kept.ascends in
      let macros = lookup-in_slot (slice_cmp nat_cmp) nat_list_cmp_total exact_bytes (λ (s : ScopeSlots). s.macros) es name kept.ascends in
      (λ i. record { types = types i; values = values i; macros = macros i }) ∙ apart (lookup (is_at (slice_cmp nat_cmp name)) es)
    where
      apart : (o : Option ScopeSlots) → record {
        types = slot_of (λ (s : ScopeSlots). s.types) o;
        values = slot_of (λ (s : ScopeSlots). s.values) o;
        macros = slot_of (λ (s : ScopeSlots). s.macros) o;
      }
          ≡ items_found o
      apart None = refl
      apart (Some s) = refl

  module _ (scope : ScopeValue) (is : IsScopeOf es scope) where
    pub names_are : scope_names scope ≡ keys_of es
    names_are =
        (λ i. scope_names (record scope { types = is.types i; values = is.values i; macros = is.macros i; unresolved = is.unresolved i }))
        ∙ names_of_entries es kept

    stands_for : (name : List ℕ) → binding_of scope name ≡ items_found (lookup (is_at (slice_cmp nat_cmp name)) es)
    stands_for name =
        (λ i. record { types = item_at (is.types i) name; values = item_at (is.values i) name; macros = item_at (is.macros i) name }) ∙ binding_at name

    each_binding : (fs : List (List ℕ × ScopeSlots)) → AllByRecursion (λ f. lookup (is_at (slice_cmp nat_cmp f.0)) es ≡ Some f.1) fs
        → map (λ name. (name, binding_of scope name)) (keys_of fs) ≡ bindings_of fs
    each_binding [] a = refl
    each_binding (f ∷ fs) a =
        let here : binding_of scope f.0 ≡ items_of f.1 = stands_for f.0 ∙ ap items_found a.0 in
        λ i. (f.0, here i) ∷ each_binding fs a.1 i

    -- the entries of a scope are those of its list
    pub entries_are : entries_of scope ≡ bindings_of es
    entries_are = ap (with_bindings scope) names_are ∙ each_binding es (each_found (slice_cmp nat_cmp) nat_list_cmp_total es kept.ascends)

-- what a candidate binds, under its name
pub item_entry_named : {D V I T : Type 0} (name : List ℕ) (candidate : Option (Candidate D V I T)) → named name (pushed_item candidate)
    ≡ item_entry name candidate
item_entry_named name None = refl
item_entry_named name (Some c) = refl
