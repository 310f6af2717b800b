-- The names of entries are those of all namespaces together, and each is found.
use Rattle.std.proofs.Common.{◌≡◌, ◌∙◌, ap, sym, subst, refl, true, false, Bool, not, ◌||◌, List, [], ◌∷◌, Option, None, Some, cond, map}
use mathlib.Core.Bool.{true≢false}
use Rattle.std.specs.Option.{is_some}
use Rattle.std.specs.declared.cmp.Ordering.{Ordering}
use Rattle.std.specs.declared.cmp.Ordering.TheVariants.{Less, Equal, Greater}
use Rattle.std.specs.Cmp.{IsTotalOrder}
use Rattle.std.specs.Cmp.Lexicographic.{slice_cmp}
use Rattle.std.specs.Ordering.{is_eq, match_ordering, nat_cmp, ordering_reverse}
use Rattle.std.specs.BTreeMap.{is_at}
use Rattle.std.specs.List.{AllByRecursion}
use Rattle.std.specs.List.Sorted.{IsStrictlySortedBy}
use Rattle.std.specs.Map.{keys_of, lookup}
use Rattle.std.proofs.lemmas.Cmp.{nat_list_cmp_total, tied_itself}
use Rattle.std.proofs.lemmas.Map.Keys.{sorted_head, sorted_tail}
use Rattle.hir_scope_table.specs.Entries.{any_value}
use Rattle.hir_scope_table.specs.Merge.{merge, merged_in}
use Rattle.hir_scope_table.specs.Slots.{Slots, NamedSlots, in_slot, is_vacant, keys_where, types_in, values_in, macros_in, unresolved_in}
use Rattle.hir_scope_table.specs.Inner.Place.{IsKept}
use Rattle.hir_scope_table.proofs.Slots.{keys_of-in_slot}

module _ {K : Type 0} (cmp : K → K → Ordering) (total : IsTotalOrder cmp) where
  first_below : (k : K) (rest : List K → List K) (ys : List K) → AllByRecursion (λ y. cmp k y ≡ Less) ys → merged_in cmp k rest ys ≡ k ∷ rest ys
  first_below k rest [] h = refl
  first_below k rest (y ∷ ys) h = ap (λ o. match_ordering o (k ∷ rest (y ∷ ys)) (k ∷ rest ys) (y ∷ merged_in cmp k rest ys)) h.0

  second_below : (k : K) (xs ys : List K) → AllByRecursion (λ x. cmp k x ≡ Less) xs → merge cmp xs (k ∷ ys) ≡ k ∷ merge cmp xs ys
  second_below k [] ys h = refl
  second_below k (x ∷ xs) ys h =
      let above : cmp x k ≡ Greater = total.antisymm x k ∙ ap ordering_reverse h.0 in
      ap (λ o. match_ordering o (x ∷ merge cmp xs (k ∷ ys)) (x ∷ merge cmp xs ys) (k ∷ merged_in cmp x (merge cmp xs) ys)) above

  all_where : {E : Type 0} (test : E → Bool) (P : K → Type 0) (es : List (K × E)) → AllByRecursion P (keys_of es) → AllByRecursion P (keys_where test es)
  all_where test P [] h = tt
  all_where {E} test P (e ∷ es) h = go (test e.1) (all_where test P es h.1)
    where
      go : (b : Bool) → AllByRecursion P (keys_where test es) → AllByRecursion P (cond b (e.0 ∷ keys_where test es) (keys_where test es))
      go true rest = (h.0, rest)
      go false rest = rest

  -- the keys of which either of two tests holds
  pub merged : {E : Type 0} (p q : E → Bool) (es : List (K × E)) → IsStrictlySortedBy cmp (keys_of es)
      → merge cmp (keys_where p es) (keys_where q es) ≡ keys_where (λ e. p e || q e) es
  merged p q [] s = refl
  merged {E} p q (e ∷ es) s = go (p e.1) (q e.1) (merged p q es (sorted_tail cmp e.0 (keys_of es) s))
    where
      below : (test : E → Bool) → AllByRecursion (λ y. cmp e.0 y ≡ Less) (keys_where test es)
      below test = all_where test (λ y. cmp e.0 y ≡ Less) es (sorted_head cmp e.0 (keys_of es) s)

      go : (b c : Bool) → merge cmp (keys_where p es) (keys_where q es) ≡ keys_where (λ e. p e || q e) es
          → merge cmp (cond b (e.0 ∷ keys_where p es) (keys_where p es)) (cond c (e.0 ∷ keys_where q es) (keys_where q es))
          ≡ cond (b || c) (e.0 ∷ keys_where (λ e. p e || q e) es) (keys_where (λ e. p e || q e) es)
      go true true rest =
          ap (λ o. match_ordering o (e.0 ∷ merge cmp (keys_where p es) (e.0 ∷ keys_where q es)) (e.0 ∷ merge cmp (keys_where p es) (keys_where q es))
          (e.0 ∷ merged_in cmp e.0 (merge cmp (keys_where p es)) (keys_where q es))) (tied_itself total e.0)
          ∙ ap (λ ks. e.0 ∷ ks) rest
      go true false rest = first_below e.0 (merge cmp (keys_where p es)) (keys_where q es) (below q) ∙ ap (λ ks. e.0 ∷ ks) rest
      go false true rest = second_below e.0 (keys_where p es) (keys_where q es) (below p) ∙ ap (λ ks. e.0 ∷ ks) rest
      go false false rest = rest

  -- each entry is found at its key
  pub each_found : {E : Type 0} (es : List (K × E)) → IsStrictlySortedBy cmp (keys_of es) → AllByRecursion (λ e. lookup (is_at (cmp e.0)) es ≡ Some e.1) es
  each_found [] s = tt
  each_found {E} (e ∷ es) s = (
    ap (λ o. cond (is_eq o) (Some e.1) (lookup (is_at (cmp e.0)) es)) (tied_itself total e.0),
    later es (each_found es (sorted_tail cmp e.0 (keys_of es) s))
        (sorted_head cmp e.0 (keys_of es) s),
  )
    where
      later : (fs : List (K × E)) → AllByRecursion (λ f. lookup (is_at (cmp f.0)) es ≡ Some f.1) fs → AllByRecursion (λ y. cmp e.0 y ≡ Less) (keys_of fs)
          → AllByRecursion (λ f. lookup (is_at (cmp f.0)) (e ∷ es) ≡ Some f.1) fs
      later [] a l = tt
      later (f ∷ fs) a l =
          let above : cmp f.0 e.0 ≡ Greater = total.antisymm f.0 e.0 ∙ ap ordering_reverse l.0 in
          (ap (λ o. cond (is_eq o) (Some e.1) (lookup (is_at (cmp f.0)) es)) above ∙ a.0, later fs a.1 l.1)

-- ---- the entries of a scope

some_slot : (a b c d : Bool) → not (a || (b || (c || d))) ≡ false → ((a || b) || (c || d)) ≡ true
some_slot true b c d h = refl
some_slot false true c d h = refl
some_slot false false true d h = refl
some_slot false false false true h = refl
some_slot false false false false h = absurd (true≢false h)

module _ {T V M : Type 0} where
  keys_where-all : (test : Slots T V M → Bool) → ((s : Slots T V M) → is_vacant s ≡ false → test s ≡ true) → (es : NamedSlots T V M) → any_value is_vacant es
      ≡ false
      → keys_where test es ≡ keys_of es
  keys_where-all test all [] h = refl
  keys_where-all test all (e ∷ es) h = go (is_vacant e.1) refl h (keys_where-all test all es)
    where
      go : (v : Bool) → is_vacant e.1 ≡ v → (v || any_value is_vacant es) ≡ false → (any_value is_vacant es ≡ false → keys_where test es ≡ keys_of es)
          → keys_where test (e ∷ es) ≡ keys_of (e ∷ es)
      go true is n rest = absurd (true≢false n)
      go false is n rest = ap (λ b. cond b (e.0 ∷ keys_where test es) (keys_where test es)) (all e.1 is) ∙ ap (λ ks. e.0 ∷ ks) (rest n)

  -- the names of the entries are those of all namespaces, and the unresolved ones
  pub names_of_entries : (es : NamedSlots T V M) → IsKept es
      → merge (slice_cmp nat_cmp) (merge (slice_cmp nat_cmp) (keys_of (types_in es)) (keys_of (values_in es)))
      (merge (slice_cmp nat_cmp) (keys_of (macros_in es)) (unresolved_in es))
      ≡ keys_of es
  names_of_entries es kept =
      let cmp = slice_cmp nat_cmp in
      let total = nat_list_cmp_total in
      let types = keys_of-in_slot (λ (s : Slots T V M). s.types) es in
      let values = keys_of-in_slot (λ (s : Slots T V M). s.values) es in
      let macros = keys_of-in_slot (λ (s : Slots T V M). s.macros) es in
      (λ i. merge cmp (merge cmp (types i) (values i)) (merge cmp (macros i) (unresolved_in es)))
      ∙ (λ i. merge cmp (merged cmp total (λ (s : Slots T V M). is_some s.types) (λ s. is_some s.values) es kept.ascends i)
      (merged cmp total (λ (s : Slots T V M). is_some s.macros) (λ s. s.unresolved) es kept.ascends i))
      ∙ merged cmp total (λ (s : Slots T V M). is_some s.types || is_some s.values) (λ s. is_some s.macros || s.unresolved) es kept.ascends
      ∙ keys_where-all (λ (s : Slots T V M). (is_some s.types || is_some s.values) || (is_some s.macros || s.unresolved))
      (λ s. some_slot (is_some s.types) (is_some s.values) (is_some s.macros) s.unresolved) es kept.says
