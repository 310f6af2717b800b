-- What an edit of a list of entries leaves in one slot of them.
use Rattle.std.proofs.Common.{◌≡◌, ◌∙◌, ap, sym, subst, refl, true, false, Bool, ◌||◌, List, [], ◌∷◌, Option, None, Some, cond, option_map}
use mathlib.Core.Bool.{true≢false}
use Rattle.std.specs.Option.{is_some}
use Rattle.std.specs.declared.cmp.Ordering.{Ordering}
use Rattle.std.specs.declared.cmp.Ordering.TheVariants.{Less, Equal, Greater}
use Rattle.std.specs.Cmp.{IsTotalOrder}
use Rattle.std.specs.Ordering.{is_eq, match_ordering, ordering_reverse}
use Rattle.std.specs.BTreeMap.{is_at, insert_entry}
use Rattle.std.specs.BTreeSet.{insert_key}
use Rattle.std.specs.List.{AllByRecursion, list_any}
use Rattle.std.specs.List.Sorted.{IsStrictlySortedBy}
use Rattle.std.specs.Map.{keys_of, lookup, set_value, remove_entry}
use Rattle.std.proofs.lemmas.Map.Keys.{sorted_head, sorted_tail}
use Rattle.hir_scope_table.specs.Entries.{has_key, with_entry}
use Rattle.hir_scope_table.specs.Slots.{before_others, in_slot, keys_where}

-- what a slot of an entry that was looked up has, if there is one
abbrev pub slot_of : {E X : Type 0} → (E → Option X) → Option E → Option X
slot_of slot None = None
slot_of slot (Some e) = slot e

-- a list with a key that has a value, or none
abbrev pub put_slot : {K X : Type 0} → (K → K → Ordering) → List (K × X) → K → Option X → List (K × X)
put_slot cmp xs k None = remove_entry (is_at (cmp k)) xs
put_slot cmp xs k (Some x) = insert_entry cmp xs k x

module _ {K : Type 0} (cmp : K → K → Ordering) where
  -- ---- a key that is below all others

  abbrev pub IsBelow : {X : Type 0} → K → List (K × X) → Type 0
  IsBelow k xs = AllByRecursion (λ y. cmp k y ≡ Less) (keys_of xs)

  all_weaker : (P Q : K → Type 0) → ((x : K) → P x → Q x) → (xs : List K) → AllByRecursion P xs → AllByRecursion Q xs
  all_weaker P Q f [] h = tt
  all_weaker P Q f (x ∷ xs) h = (f x h.0, all_weaker P Q f xs h.1)

  pub lookup-below : {X : Type 0} (k : K) (xs : List (K × X)) → IsBelow k xs → lookup (is_at (cmp k)) xs ≡ None
  lookup-below k [] h = refl
  lookup-below k (x ∷ xs) h = ap (λ o. cond (is_eq o) (Some x.1) (lookup (is_at (cmp k)) xs)) h.0 ∙ lookup-below k xs h.1

  remove-below : {X : Type 0} (k : K) (xs : List (K × X)) → IsBelow k xs → remove_entry (is_at (cmp k)) xs ≡ xs
  remove-below k [] h = refl
  remove-below k (x ∷ xs) h = ap (λ o. cond (is_eq o) xs (x ∷ remove_entry (is_at (cmp k)) xs)) h.0 ∙ ap (λ ys. x ∷ ys) (remove-below k xs h.1)

  insert-below : {X : Type 0} (k : K) (v : X) (xs : List (K × X)) → IsBelow k xs → insert_entry cmp xs k v ≡ (k, v) ∷ xs
  insert-below k v [] h = refl
  insert-below k v (x ∷ xs) h = ap (λ o. match_ordering o ((k, v) ∷ x ∷ xs) ((x.0, v) ∷ xs) (x ∷ insert_entry cmp xs k v)) h.0

  put-below : {X : Type 0} (k : K) (o : Option X) (xs : List (K × X)) → IsBelow k xs → put_slot cmp xs k o ≡ before_others k o xs
  put-below k None xs h = remove-below k xs h
  put-below k (Some x) xs h = insert-below k x xs h

  put-at : {X : Type 0} (k j : K) (x : X) (o : Option X) (xs : List (K × X)) → cmp k j ≡ Equal → put_slot cmp ((j, x) ∷ xs) k o ≡ before_others j o xs
  put-at k j x None xs q = ap (λ r. cond (is_eq r) xs ((j, x) ∷ remove_entry (is_at (cmp k)) xs)) q
  put-at k j x (Some y) xs q = ap (λ r. match_ordering r ((k, y) ∷ (j, x) ∷ xs) ((j, y) ∷ xs) ((j, x) ∷ insert_entry cmp xs k y)) q

  remove-apart : {X : Type 0} (k j : K) (o : Option X) (xs : List (K × X)) → is_eq (cmp k j) ≡ false
      → remove_entry (is_at (cmp k)) (before_others j o xs) ≡ before_others j o (remove_entry (is_at (cmp k)) xs)
  remove-apart k j None xs q = refl
  remove-apart k j (Some x) xs q = ap (λ b. cond b xs ((j, x) ∷ remove_entry (is_at (cmp k)) xs)) q

  put-above : {X : Type 0} (k j : K) (o p : Option X) (xs : List (K × X)) → cmp k j ≡ Greater
      → put_slot cmp (before_others j o xs) k p ≡ before_others j o (put_slot cmp xs k p)
  put-above k j o None xs q = remove-apart k j o xs (ap is_eq q)
  put-above k j None (Some y) xs q = refl
  put-above k j (Some x) (Some y) xs q = ap (λ r. match_ordering r ((k, y) ∷ (j, x) ∷ xs) ((j, y) ∷ xs) ((j, x) ∷ insert_entry cmp xs k y)) q

  module _ {E X : Type 0} (slot : E → Option X) where
    pub all_in_slot : (P : K → Type 0) (es : List (K × E)) → AllByRecursion P (keys_of es) → AllByRecursion P (keys_of (in_slot slot es))
    all_in_slot P [] h = tt
    all_in_slot P (e ∷ es) h = go (slot e.1) (all_in_slot P es h.1)
      where
        go : (o : Option X) → AllByRecursion P (keys_of (in_slot slot es)) → AllByRecursion P (keys_of (before_others e.0 o (in_slot slot es)))
        go None r = r
        go (Some x) r = (h.0, r)

    pub in_slot-sorted : (es : List (K × E)) → IsStrictlySortedBy cmp (keys_of es) → IsStrictlySortedBy cmp (keys_of (in_slot slot es))
    unfolding IsStrictlySortedBy
    in_slot-sorted [] s = tt
    in_slot-sorted (e ∷ es) s = go (slot e.1) (in_slot-sorted es s.1)
      where
        go : (o : Option X) → IsStrictlySortedBy cmp (keys_of (in_slot slot es)) → IsStrictlySortedBy cmp (keys_of (before_others e.0 o (in_slot slot es)))
        go None r = r
        go (Some x) r = (all_in_slot (λ y. cmp e.0 y ≡ Less) es s.0, r)

  module _ (total : IsTotalOrder cmp) where
    -- a key that is equal to one below others is below them too
    below_alike : {X : Type 0} (k e : K) (xs : List (K × X)) → cmp k e ≡ Equal → IsBelow e xs → IsBelow k xs
    below_alike k e xs q h = all_weaker (λ y. cmp e y ≡ Less) (λ y. cmp k y ≡ Less) (λ y l. total.congr k e y q ∙ l) (keys_of xs) h

    below_under : {X : Type 0} (k e : K) (xs : List (K × X)) → cmp k e ≡ Less → IsBelow e xs → IsBelow k xs
    below_under k e xs q h = all_weaker (λ y. cmp e y ≡ Less) (λ y. cmp k y ≡ Less) (λ y l. total.trans k e y q l) (keys_of xs) h

    module _ (exact : (x y : K) → cmp x y ≡ Equal → x ≡ y) {E X : Type 0} (slot : E → Option X) where
      later : (e : K × E) (es : List (K × E)) → IsStrictlySortedBy cmp (keys_of (e ∷ es)) → IsBelow e.0 (in_slot slot es)
      later e es s = all_in_slot slot (λ y. cmp e.0 y ≡ Less) es (sorted_head cmp e.0 (keys_of es) s)

      -- what is found in a slot is what the entry that is found has there
      pub lookup-in_slot : (es : List (K × E)) (k : K) → IsStrictlySortedBy cmp (keys_of es)
          → lookup (is_at (cmp k)) (in_slot slot es) ≡ slot_of slot (lookup (is_at (cmp k)) es)
      lookup-in_slot [] k s = refl
      lookup-in_slot (e ∷ es) k s = go (cmp k e.0) refl (slot e.1) refl (lookup-in_slot es k (sorted_tail cmp e.0 (keys_of es) s))
        where
          go : (r : Ordering) → cmp k e.0 ≡ r → (o : Option X) → slot e.1 ≡ o
              → lookup (is_at (cmp k)) (in_slot slot es) ≡ slot_of slot (lookup (is_at (cmp k)) es)
              → lookup (is_at (cmp k)) (before_others e.0 o (in_slot slot es)) ≡ slot_of slot (cond (is_eq r) (Some e.1) (lookup (is_at (cmp k)) es))
          go Less q None f rest = rest
          go Less q (Some x) f rest = ap (λ o. cond (is_eq o) (Some x) (lookup (is_at (cmp k)) (in_slot slot es))) q ∙ rest
          go Equal q None f rest = lookup-below k (in_slot slot es) (below_alike k e.0 (in_slot slot es) q (later e es s)) ∙ sym f
          go Equal q (Some x) f rest = ap (λ o. cond (is_eq o) (Some x) (lookup (is_at (cmp k)) (in_slot slot es))) q ∙ sym f
          go Greater q None f rest = rest
          go Greater q (Some x) f rest = ap (λ o. cond (is_eq o) (Some x) (lookup (is_at (cmp k)) (in_slot slot es))) q ∙ rest

      -- an entry that is put in is put into the slot, or leaves nothing there
      pub in_slot-insert : (es : List (K × E)) (k : K) (new : E) → IsStrictlySortedBy cmp (keys_of es)
          → in_slot slot (insert_entry cmp es k new) ≡ put_slot cmp (in_slot slot es) k (slot new)
      in_slot-insert [] k new s = sym (put-below k (slot new) [] tt)
      in_slot-insert (e ∷ es) k new s = go (cmp k e.0) refl (slot e.1) refl (in_slot-insert es k new (sorted_tail cmp e.0 (keys_of es) s))
        where
          below : cmp k e.0 ≡ Less → (o : Option X) → IsBelow k (before_others e.0 o (in_slot slot es))
          below q None = below_under k e.0 (in_slot slot es) q (later e es s)
          below q (Some x) = (q, below_under k e.0 (in_slot slot es) q (later e es s))

          go : (r : Ordering) → cmp k e.0 ≡ r → (o : Option X) → slot e.1 ≡ o
              → in_slot slot (insert_entry cmp es k new) ≡ put_slot cmp (in_slot slot es) k (slot new)
              → in_slot slot (match_ordering r ((k, new) ∷ e ∷ es) ((e.0, new) ∷ es) (e ∷ insert_entry cmp es k new))
              ≡ put_slot cmp (before_others e.0 o (in_slot slot es)) k (slot new)
          go Less q o f rest =
              ap (λ p. before_others k (slot new) (before_others e.0 p (in_slot slot es))) f
              ∙ sym (put-below k (slot new) (before_others e.0 o (in_slot slot es)) (below q o))
          go Equal q None f rest =
              ap (λ y. before_others y (slot new) (in_slot slot es)) (sym (exact k e.0 q))
              ∙ sym (put-below k (slot new) (in_slot slot es) (below_alike k e.0 (in_slot slot es) q (later e es s)))
          go Equal q (Some x) f rest = sym (put-at k e.0 x (slot new) (in_slot slot es) q)
          go Greater q o f rest =
              (λ i. before_others e.0 (f i) (rest i)) ∙ sym (put-above k e.0 o (slot new) (in_slot slot es) q)

      -- one that is taken out is taken out of the slot
      pub in_slot-remove : (es : List (K × E)) (k : K) → IsStrictlySortedBy cmp (keys_of es)
          → in_slot slot (remove_entry (is_at (cmp k)) es) ≡ remove_entry (is_at (cmp k)) (in_slot slot es)
      in_slot-remove [] k s = refl
      in_slot-remove (e ∷ es) k s = go (cmp k e.0) refl (slot e.1) refl (in_slot-remove es k (sorted_tail cmp e.0 (keys_of es) s))
        where
          go : (r : Ordering) → cmp k e.0 ≡ r → (o : Option X) → slot e.1 ≡ o
              → in_slot slot (remove_entry (is_at (cmp k)) es) ≡ remove_entry (is_at (cmp k)) (in_slot slot es)
              → in_slot slot (cond (is_eq r) es (e ∷ remove_entry (is_at (cmp k)) es)) ≡ remove_entry (is_at (cmp k)) (before_others e.0 o (in_slot slot es))
          go Less q o f rest = (λ i. before_others e.0 (f i) (rest i)) ∙ sym (remove-apart k e.0 o (in_slot slot es) (ap is_eq q))
          go Equal q None f rest = sym (remove-below k (in_slot slot es) (below_alike k e.0 (in_slot slot es) q (later e es s)))
          go Equal q (Some x) f rest = sym (put-at k e.0 x None (in_slot slot es) q)
          go Greater q o f rest = (λ i. before_others e.0 (f i) (rest i)) ∙ sym (remove-apart k e.0 o (in_slot slot es) (ap is_eq q))

    -- ---- an entry put in place

    -- what stands, put in again
    pub put_back : {X : Type 0} (xs : List (K × X)) (k : K) → IsStrictlySortedBy cmp (keys_of xs) → put_slot cmp xs k (lookup (is_at (cmp k)) xs) ≡ xs
    put_back [] k s = refl
    put_back {X} (x ∷ xs) k s = go (cmp k x.0) refl (put_back xs k (sorted_tail cmp x.0 (keys_of xs) s))
      where
        found : (r : Ordering) → cmp k x.0 ≡ r
            → put_slot cmp (x ∷ xs) k (lookup (is_at (cmp k)) (x ∷ xs)) ≡ put_slot cmp (x ∷ xs) k (cond (is_eq r) (Some x.1) (lookup (is_at (cmp k)) xs))
        found r q = ap (λ o. put_slot cmp (x ∷ xs) k (cond (is_eq o) (Some x.1) (lookup (is_at (cmp k)) xs))) q

        below : cmp k x.0 ≡ Less → IsBelow k (x ∷ xs)
        below q = (q, below_under k x.0 xs q (sorted_head cmp x.0 (keys_of xs) s))

        go : (r : Ordering) → cmp k x.0 ≡ r → put_slot cmp xs k (lookup (is_at (cmp k)) xs) ≡ xs
            → put_slot cmp (x ∷ xs) k (lookup (is_at (cmp k)) (x ∷ xs)) ≡ x ∷ xs
        go Less q rest = ap (put_slot cmp (x ∷ xs) k) (lookup-below k (x ∷ xs) (below q)) ∙ remove-below k (x ∷ xs) (below q)
        go Equal q rest = found Equal q ∙ put-at k x.0 x.1 (Some x.1) xs q
        go Greater q rest = found Greater q ∙ put-above k x.0 (Some x.1) (lookup (is_at (cmp k)) xs) xs q ∙ ap (λ ys. x ∷ ys) rest

    set-insert : {X : Type 0} (xs : List (K × X)) (k : K) (v x : X) → IsStrictlySortedBy cmp (keys_of xs) → lookup (is_at (cmp k)) xs ≡ Some x
        → set_value (is_at (cmp k)) xs v ≡ insert_entry cmp xs k v
    set-insert [] k v x s h = absurd (true≢false (sym (ap is_some h)))
    set-insert {X} (e ∷ es) k v x s h = go (cmp k e.0) refl (set-insert es k v x (sorted_tail cmp e.0 (keys_of es) s)) h
      where
        go : (r : Ordering) → cmp k e.0 ≡ r
            → (lookup (is_at (cmp k)) es ≡ Some x → set_value (is_at (cmp k)) es v ≡ insert_entry cmp es k v)
            → lookup (is_at (cmp k)) (e ∷ es) ≡ Some x
            → set_value (is_at (cmp k)) (e ∷ es) v ≡ insert_entry cmp (e ∷ es) k v
        go Less q rest found =
            let none : lookup (is_at (cmp k)) (e ∷ es) ≡ None = lookup-below k (e ∷ es) (q, below_under k e.0 es q (sorted_head cmp e.0 (keys_of es) s)) in
            absurd (true≢false (sym (ap is_some (sym none ∙ found))))
        go Equal q rest found =
            ap (λ o. cond (is_eq o) ((e.0, v) ∷ es) (e ∷ set_value (is_at (cmp k)) es v)) q
            ∙ sym (ap (λ o. match_ordering o ((k, v) ∷ e ∷ es) ((e.0, v) ∷ es) (e ∷ insert_entry cmp es k v)) q)
        go Greater q rest found =
            let there : lookup (is_at (cmp k)) es ≡ Some x = sym (ap (λ o. cond (is_eq o) (Some e.1) (lookup (is_at (cmp k)) es)) q) ∙ found in
            ap (λ o. cond (is_eq o) ((e.0, v) ∷ es) (e ∷ set_value (is_at (cmp k)) es v)) q
            ∙ ap (λ ys. e ∷ ys) (rest there)
            ∙ sym (ap (λ o. match_ordering o ((k, v) ∷ e ∷ es) ((e.0, v) ∷ es) (e ∷ insert_entry cmp es k v)) q)

    -- among keys in order an entry is put in at its place, whether its key is there or not
    pub with_entry-insert : {X : Type 0} (xs : List (K × X)) (k : K) (v : X) → IsStrictlySortedBy cmp (keys_of xs) → with_entry cmp xs k v
        ≡ insert_entry cmp xs k v
    with_entry-insert {X} xs k v s = go (lookup (is_at (cmp k)) xs) refl
      where
        go : (o : Option X) → lookup (is_at (cmp k)) xs ≡ o → cond (is_some o) (set_value (is_at (cmp k)) xs v) (insert_entry cmp xs k v)
            ≡ insert_entry cmp xs k v
        go None h = refl
        go (Some x) h = set-insert xs k v x s h

    -- a value that is written where one stands
    set-absent : {X : Type 0} (xs : List (K × X)) (k : K) (v : X) → lookup (is_at (cmp k)) xs ≡ None → set_value (is_at (cmp k)) xs v ≡ xs
    set-absent [] k v h = refl
    set-absent {X} (e ∷ es) k v h = go (is_eq (cmp k e.0)) (set-absent es k v) h
      where
        go : (b : Bool) → (lookup (is_at (cmp k)) es ≡ None → set_value (is_at (cmp k)) es v ≡ es) → cond b (Some e.1) (lookup (is_at (cmp k)) es) ≡ None
            → cond b ((e.0, v) ∷ es) (e ∷ set_value (is_at (cmp k)) es v) ≡ e ∷ es
        go true rest n = absurd (true≢false (ap is_some n))
        go false rest n = ap (λ ys. e ∷ ys) (rest n)

    pub overwritten : {X : Type 0} (xs : List (K × X)) (k : K) (v : X) (o : Option X) → IsStrictlySortedBy cmp (keys_of xs) → lookup (is_at (cmp k)) xs ≡ o
        → put_slot cmp xs k (option_map (λ _. v) o) ≡ set_value (is_at (cmp k)) xs v
    overwritten xs k v None s h = ap (put_slot cmp xs k) (sym h) ∙ put_back xs k s ∙ sym (set-absent xs k v h)
    overwritten xs k v (Some x) s h = sym (set-insert xs k v x s h)

    pub not_written : {X : Type 0} (xs : List (K × X)) (k : K) (v : X) → lookup (is_at (cmp k)) xs ≡ None → xs ≡ set_value (is_at (cmp k)) xs v
    not_written xs k v h = sym (set-absent xs k v h)

    -- ---- the order of keys

    all_inserted : {X : Type 0} (P : K → Type 0) (xs : List (K × X)) (k : K) (v : X) → P k → AllByRecursion P (keys_of xs)
        → AllByRecursion P (keys_of (insert_entry cmp xs k v))
    all_inserted P [] k v p h = (p, tt)
    all_inserted P (x ∷ xs) k v p h = elim (cmp k x.0)
        as (λ r. AllByRecursion P (keys_of (match_ordering r ((k, v) ∷ x ∷ xs) ((x.0, v) ∷ xs) (x ∷ insert_entry cmp xs k v))))
        [ Less ↦ (p, h) | Equal ↦ h | Greater ↦ (h.0, all_inserted P xs k v p h.1) ]

    pub insert-sorted : {X : Type 0} (xs : List (K × X)) (k : K) (v : X) → IsStrictlySortedBy cmp (keys_of xs)
        → IsStrictlySortedBy cmp (keys_of (insert_entry cmp xs k v))
    unfolding IsStrictlySortedBy
    insert-sorted [] k v s = (tt, tt)
    insert-sorted {X} (x ∷ xs) k v s = go (cmp k x.0) refl (insert-sorted xs k v s.1)
      where
        go : (r : Ordering) → cmp k x.0 ≡ r → IsStrictlySortedBy cmp (keys_of (insert_entry cmp xs k v))
            → IsStrictlySortedBy cmp (keys_of (match_ordering r ((k, v) ∷ x ∷ xs) ((x.0, v) ∷ xs) (x ∷ insert_entry cmp xs k v)))
        go Less q rest = ((q, below_under k x.0 xs q s.0), s)
        go Equal q rest = s
        go Greater q rest = (all_inserted (λ y. cmp x.0 y ≡ Less) xs k v (total.antisymm x.0 k ∙ ap ordering_reverse q) s.0, rest)

  all_removed : {X : Type 0} (P : K → Type 0) (test : K → Bool) (xs : List (K × X)) → AllByRecursion P (keys_of xs)
      → AllByRecursion P (keys_of (remove_entry test xs))
  all_removed P test [] h = tt
  all_removed P test (x ∷ xs) h = elim (test x.0) as (λ b. AllByRecursion P (keys_of (cond b xs (x ∷ remove_entry test xs))))
      [ true ↦ h.1 | false ↦ (h.0, all_removed P test xs h.1) ]

  pub remove-sorted : {X : Type 0} (test : K → Bool) (xs : List (K × X)) → IsStrictlySortedBy cmp (keys_of xs)
      → IsStrictlySortedBy cmp (keys_of (remove_entry test xs))
  unfolding IsStrictlySortedBy
  remove-sorted test [] s = tt
  remove-sorted test (x ∷ xs) s = elim (test x.0) as (λ b. IsStrictlySortedBy cmp (keys_of (cond b xs (x ∷ remove_entry test xs))))
      [ true ↦ s.1 | false ↦ (all_removed (λ y. cmp x.0 y ≡ Less) test xs s.0, remove-sorted test xs s.1) ]

  -- ---- keys

  pub keys_of-insert : {X : Type 0} (xs : List (K × X)) (k : K) (v : X) → keys_of (insert_entry cmp xs k v) ≡ insert_key cmp (keys_of xs) k
  keys_of-insert [] k v = refl
  keys_of-insert (x ∷ xs) k v = elim (cmp k x.0)
      as (λ r. keys_of (match_ordering r ((k, v) ∷ x ∷ xs) ((x.0, v) ∷ xs) (x ∷ insert_entry cmp xs k v))
      ≡ match_ordering r (k ∷ x.0 ∷ keys_of xs) (x.0 ∷ keys_of xs) (x.0 ∷ insert_key cmp (keys_of xs) k))
      [ Less ↦ refl | Equal ↦ refl | Greater ↦ ap (λ ks. x.0 ∷ ks) (keys_of-insert xs k v) ]

  pub list_any-keys : {X : Type 0} (test : K → Bool) (xs : List (K × X)) → list_any test (keys_of xs) ≡ is_some (lookup test xs)
  list_any-keys test [] = refl
  list_any-keys test (x ∷ xs) = elim (test x.0) as (λ b. (b || list_any test (keys_of xs)) ≡ is_some (cond b (Some x.1) (lookup test xs)))
      [ true ↦ refl | false ↦ list_any-keys test xs ]

-- a mark as a slot
abbrev pub mark : Bool → Option (Unit {0})
mark false = None
mark true = Some tt

module _ {K E : Type 0} where
  -- the keys of a slot are those of the entries that have something there
  pub keys_of-in_slot : {X : Type 0} (slot : E → Option X) (es : List (K × E)) → keys_of (in_slot slot es) ≡ keys_where (λ e. is_some (slot e)) es
  keys_of-in_slot slot [] = refl
  keys_of-in_slot {X} slot (e ∷ es) = go (slot e.1) (keys_of-in_slot slot es)
    where
      go : (o : Option X) → keys_of (in_slot slot es) ≡ keys_where (λ e. is_some (slot e)) es → keys_of (before_others e.0 o (in_slot slot es))
          ≡ cond (is_some o) (e.0 ∷ keys_where (λ e. is_some (slot e)) es) (keys_where (λ e. is_some (slot e)) es)
      go None rest = rest
      go (Some x) rest = ap (λ ks. e.0 ∷ ks) rest

  pub keys_where-mark : (test : E → Bool) (es : List (K × E)) → keys_where test es ≡ keys_of (in_slot (λ e. mark (test e)) es)
  keys_where-mark test [] = refl
  keys_where-mark test (e ∷ es) = go (test e.1) (keys_where-mark test es)
    where
      go : (b : Bool) → keys_where test es ≡ keys_of (in_slot (λ e. mark (test e)) es) → cond b (e.0 ∷ keys_where test es) (keys_where test es)
          ≡ keys_of (before_others e.0 (mark b) (in_slot (λ e. mark (test e)) es))
      go true rest = ap (λ ks. e.0 ∷ ks) rest
      go false rest = rest
