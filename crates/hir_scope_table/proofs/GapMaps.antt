-- What the place where a key belongs says of the map that the entries are.
use Rattle.std.proofs.Common.{◌≡◌, ◌∙◌, ap, sym, subst, ℕ, zero, suc, true, false, Bool, not, List, [], ◌∷◌, refl, Option, None, Some, cond, get_or}
use Rattle.std.proofs.Common.{unwrap_or, Result, Ok, Err, OnOk, OnErr}
use mathlib.Core.Bool.{true≢false}
use Rattle.std.specs.Option.{is_some}
use Rattle.std.specs.declared.cmp.Ordering.{Ordering}
use Rattle.std.specs.declared.cmp.Ordering.TheVariants.{Less, Equal, Greater}
use Rattle.std.specs.Cmp.{IsTotalOrder, IsEquivalence}
use Rattle.std.specs.Ordering.{is_eq, eq_by_cmp}
use Rattle.std.specs.BTreeMap.{is_at, insert_entry}
use Rattle.std.specs.List.{AllByRecursion, insert, remove, slice_get, slice_set}
use Rattle.std.specs.List.Sorted.{IsStrictlySortedBy}
use Rattle.std.specs.Map.{keys_of, lookup, remove_entry}
use Rattle.std.proofs.lemmas.Cmp.{eq_by_cmp_equiv}
use Rattle.std.proofs.lemmas.Map.Keys.{sorted_head, sorted_tail}
use Rattle.hir_scope_table.specs.Entries.{has_key}
use Rattle.hir_scope_table.specs.Inner.Place.{BelongsAt}
use Rattle.hir_scope_table.specs.Inner.Reserved.{IsEntryFor}
use Rattle.hir_scope_table.proofs.Places.{there_is, where_found, where_missing, insert_at_place, set_at_place, remove_at_place, lookup_at_place}
use Rattle.hir_scope_table.proofs.Places.{nothing_at_place}
use Rattle.hir_scope_table.proofs.Lookups.{lookup-with_entry}
use Rattle.hir_scope_table.proofs.Slots.{insert-sorted, lookup-below, with_entry-insert}

read_there : {X : Type 0} (xs : List X) (i : ℕ) (x d : X) → slice_get xs i ≡ Some x → get_or xs i d ≡ x
read_there [] i x d f = absurd (true≢false (sym (ap is_some f)))
read_there (y ∷ ys) zero x d f = ap (λ o. unwrap_or o d) f
read_there (y ∷ ys) (suc i) x d f = read_there ys i x d f

-- entries without a key that isn't there
remove_absent : {K V : Type 0} (test : K → Bool) (es : List (K × V)) → lookup test es ≡ None → remove_entry test es ≡ es
remove_absent test [] h = refl
remove_absent {K} {V} test (e ∷ es) h = go (test e.0) h (remove_absent test es)
  where
    go : (b : Bool) → cond b (Some e.1) (lookup test es) ≡ None → (lookup test es ≡ None → remove_entry test es ≡ es)
        → cond b es (e ∷ remove_entry test es) ≡ e ∷ es
    go true f rest = absurd (true≢false (ap is_some f))
    go false f rest = ap (λ (xs : List (K × V)). e ∷ xs) (rest f)

no_value : {V : Type 0} (b : Bool) (o : Option V) → o ≡ None → o ≡ cond b None o
no_value true o none = none
no_value false o none = refl

is_equal : (r : Ordering) → is_eq r ≡ true → r ≡ Equal
is_equal Less h = absurd (true≢false (sym h))
is_equal Equal h = refl
is_equal Greater h = absurd (true≢false (sym h))

module _ {K : Type 0} (cmp : K → K → Ordering) (total : IsTotalOrder cmp) where
  laws : IsEquivalence (eq_by_cmp cmp)
  laws = eq_by_cmp_equiv total

  -- a key that is equal to one is below the keys that it is below
  alike_below : (x q : K) (ks : List K) → cmp x q ≡ Equal → AllByRecursion (λ y. cmp x y ≡ Less) ks → AllByRecursion (λ y. cmp q y ≡ Less) ks
  alike_below x q [] same h = tt
  alike_below x q (y ∷ ys) same h = (sym (total.congr x q y same) ∙ h.0, alike_below x q ys same h.1)

  pub nothing_sorted : {V : Type 0} (es : List (K × V)) → es ≡ [] → IsStrictlySortedBy cmp (keys_of es)
  unfolding IsStrictlySortedBy
  nothing_sorted {V} es none = subst (λ (xs : List (K × V)). IsStrictlySortedBy cmp (keys_of xs)) (sym none) tt

  -- what is found once an entry is put in
  pub lookup_put : {V : Type 0} (es : List (K × V)) (k : K) (v : V) → IsStrictlySortedBy cmp (keys_of es) → (q : K)
      → lookup (is_at (cmp q)) (insert_entry cmp es k v) ≡ cond (is_eq (cmp k q)) (Some v) (lookup (is_at (cmp q)) es)
  lookup_put es k v sorted q = ap (lookup (is_at (cmp q))) (sym (with_entry-insert cmp total es k v sorted)) ∙ lookup-with_entry cmp total es k v q

  -- what is found once a key is taken out
  pub lookup_removed : {V : Type 0} (es : List (K × V)) (k : K) → IsStrictlySortedBy cmp (keys_of es) → (q : K)
      → lookup (is_at (cmp q)) (remove_entry (is_at (cmp k)) es) ≡ cond (is_eq (cmp k q)) None (lookup (is_at (cmp q)) es)
  lookup_removed [] k sorted q = no_value (is_eq (cmp k q)) None refl
  lookup_removed {V} (e ∷ es) k sorted q =
      go (lookup_removed es k (sorted_tail cmp e.0 (keys_of es) sorted) q) (is_eq (cmp k e.0)) (is_eq (cmp k q)) refl refl
    where
      go : lookup (is_at (cmp q)) (remove_entry (is_at (cmp k)) es) ≡ cond (is_eq (cmp k q)) None (lookup (is_at (cmp q)) es)
          → (a b : Bool) → is_eq (cmp k e.0) ≡ a → is_eq (cmp k q) ≡ b
          → lookup (is_at (cmp q)) (cond a es (e ∷ remove_entry (is_at (cmp k)) es))
          ≡ cond b None (cond (is_eq (cmp q e.0)) (Some e.1) (lookup (is_at (cmp q)) es))
      go rest true true at_e at_q =
          let same : is_eq (cmp e.0 q) ≡ true = sym (laws.congr k e.0 q at_e) ∙ at_q in
          lookup-below cmp q es (alike_below e.0 q (keys_of es) (is_equal (cmp e.0 q) same) (sorted_head cmp e.0 (keys_of es) sorted))
      go rest true false at_e at_q =
          let apart : is_eq (cmp q e.0) ≡ false = laws.symm q e.0 ∙ sym (laws.congr k e.0 q at_e) ∙ at_q in
          sym (ap (λ b. cond b (Some e.1) (lookup (is_at (cmp q)) es)) apart)
      go rest false true at_e at_q =
          let apart : is_eq (cmp q e.0) ≡ false = sym (laws.congr k q e.0 at_q) ∙ at_e in
          ap (λ b. cond b (Some e.1) (lookup (is_at (cmp q)) (remove_entry (is_at (cmp k)) es))) apart ∙ rest
          ∙ ap (λ b. cond b None (lookup (is_at (cmp q)) es)) at_q
      go rest false false at_e at_q =
          ap (λ o. cond (is_eq (cmp q e.0)) (Some e.1) o) (rest ∙ ap (λ b. cond b None (lookup (is_at (cmp q)) es)) at_q)

module _ {K V : Type 0} (cmp : K → K → Ordering) (total : IsTotalOrder cmp) (k : K) (es : List (K × V)) (i : ℕ) (found : Bool)
    (b : BelongsAt (cmp k) es i found) where
  pub value_found : found ≡ true → (e : K × V) → e ≡ get_or es i e → Some e.1 ≡ lookup (is_at (cmp k)) es
  value_found is e at =
      let there = there_is es i (b.inside is) in
      let same : e ≡ there.0 = at ∙ read_there es i there.0 e there.1 in
      ap (λ (x : K × V). Some x.1) same ∙ sym (lookup_at_place cmp total k es i there.0 b.above (where_found found b is) there.1)

  pub value_missing : found ≡ false → IsStrictlySortedBy cmp (keys_of es) → None ≡ lookup (is_at (cmp k)) es
  value_missing is sorted = sym (nothing_at_place cmp total k es i sorted b.above (where_missing found b is))

  has_found : found ≡ true → has_key cmp es k ≡ true
  has_found is =
      let there = there_is es i (b.inside is) in
      ap is_some (lookup_at_place cmp total k es i there.0 b.above (where_found found b is) there.1)

  has_missing : found ≡ false → IsStrictlySortedBy cmp (keys_of es) → has_key cmp es k ≡ false
  has_missing is sorted = ap is_some (sym (value_missing is sorted))

  pub entry_kept : found ≡ true → (v : V) → IsEntryFor cmp es (Some (k, v)) false es
  entry_kept is v = record {
    made = sym (ap (λ h. cond h es (insert_entry cmp es k v)) (has_found is));
    was_absent = sym (ap not (has_found is));
  }

  pub entry_put : found ≡ false → (v : V) (new : List (K × V)) → new ≡ insert es i (k, v) → new ≡ insert_entry cmp es k v
  entry_put is v new made = made ∙ insert_at_place cmp total k es i v b.above (where_missing found b is)

  pub entry_added : found ≡ false → IsStrictlySortedBy cmp (keys_of es) → (v : V) (new : List (K × V)) → new ≡ insert es i (k, v)
      → IsEntryFor cmp es (Some (k, v)) true new
  entry_added is sorted v new made = record {
    made = entry_put is v new made ∙ sym (ap (λ h. cond h es (insert_entry cmp es k v)) (has_missing is sorted));
    was_absent = sym (ap not (has_missing is sorted));
  }

  pub entry_set : found ≡ true → (v : V) (new : List (K × V)) → ((e : K × V) → slice_get es i ≡ Some e → new ≡ slice_set es i (e.0, v))
      → new ≡ insert_entry cmp es k v
  entry_set is v new set =
      let there = there_is es i (b.inside is) in
      set there.0 there.1 ∙ set_at_place cmp total k es i there.0 v b.above (where_found found b is) there.1

  pub entry_removed : found ≡ true → remove es i ≡ remove_entry (is_at (cmp k)) es
  entry_removed is = remove_at_place cmp total k es i (b.inside is) b.above (where_found found b is)

  pub entry_absent : found ≡ false → IsStrictlySortedBy cmp (keys_of es) → es ≡ remove_entry (is_at (cmp k)) es
  entry_absent is sorted = sym (remove_absent (is_at (cmp k)) es (sym (value_missing is sorted)))

  pub sorted_put : {T E : Type 0} (r : Result T E) → found ≡ false → IsStrictlySortedBy cmp (keys_of es) → (v : V) (new : List (K × V))
      → OnOk r (new ≡ insert es i (k, v)) → OnErr r (new ≡ es) → IsStrictlySortedBy cmp (keys_of new)
  sorted_put (Ok x) is sorted v new ok err =
      subst (λ (xs : List (K × V)). IsStrictlySortedBy cmp (keys_of xs)) (sym (entry_put is v new ok)) (insert-sorted cmp total es k v sorted)
  sorted_put (Err e) is sorted v new ok err = subst (λ (xs : List (K × V)). IsStrictlySortedBy cmp (keys_of xs)) (sym err) sorted
