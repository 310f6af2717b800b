-- Pairs that are kept by their first parts, against pairs in one list.
use Rattle.std.proofs.Common.{◌≡◌, ◌∙◌, ap, sym, subst, refl, true, false, Bool, ◌||◌, not, List, [], ◌∷◌, ◌++◌, Option, None, Some, cond, map, unwrap_or}
use mathlib.Core.Bool.{true≢false}
use Rattle.std.specs.Option.{is_some}
use Rattle.std.specs.declared.cmp.Ordering.{Ordering}
use Rattle.std.specs.declared.cmp.Ordering.TheVariants.{Less, Equal, Greater}
use Rattle.std.specs.Cmp.{IsTotalOrder}
use Rattle.std.specs.Ordering.{is_eq, match_ordering, ordering_then}
use Rattle.std.specs.BTreeMap.{is_at, insert_entry}
use Rattle.std.specs.BTreeSet.{insert_key}
use Rattle.std.specs.List.{AllByRecursion, list_any}
use Rattle.std.specs.List.Sorted.{IsStrictlySortedBy}
use Rattle.std.specs.Map.{keys_of, lookup, set_value}
use Rattle.std.specs.Set.{remove_key}
use Rattle.std.proofs.lemmas.Cmp.{tied_itself}
use Rattle.std.proofs.lemmas.Map.Keys.{sorted_head, sorted_tail}
use Rattle.hir_scope_table.specs.Inner.Places.{pair_cmp, pairs_of}
use Rattle.hir_scope_table.specs.Inner.Reserved.{IsKeyFor}
use Rattle.hir_scope_table.proofs.Slots.{lookup-below}

-- the things at a key, if there are some
abbrev pub things_or_none : {N E : Type 0} → (E → List N) → Option E → List N
things_or_none things None = []
things_or_none things (Some e) = things e

-- a list without what isn't in it
pub remove-absent : {P : Type 0} (test : P → Bool) (ps : List P) → list_any test ps ≡ false → remove_key test ps ≡ ps
remove-absent test [] h = refl
remove-absent test (p ∷ ps) h = go (test p) refl h (remove-absent test ps)
  where
    go : (b : Bool) → test p ≡ b → (b || list_any test ps) ≡ false → (list_any test ps ≡ false → remove_key test ps ≡ ps)
        → remove_key test (p ∷ ps) ≡ p ∷ ps
    go true is n rest = absurd (true≢false n)
    go false is n rest = ap (λ b. cond b ps (p ∷ remove_key test ps)) is ∙ ap (λ qs. p ∷ qs) (rest n)

module _ {M N : Type 0} (first : M → M → Ordering) (second : N → N → Ordering) (m : M) (n : N) where
  -- ---- things of one key, before others

  any_apart : (k : M) (xs : List N) (rest : List (M × N)) → is_eq (first m k) ≡ false
      → list_any (is_at (pair_cmp first second (m, n))) (map (λ x. (k, x)) xs ++ rest) ≡ list_any (is_at (pair_cmp first second (m, n))) rest
  any_apart k [] rest apart = refl
  any_apart k (x ∷ xs) rest apart =
      ap (λ b. b || list_any (is_at (pair_cmp first second (m, n))) (map (λ y. (k, y)) xs ++ rest)) (go (first m k) apart) ∙ any_apart k xs rest apart
    where
      go : (o : Ordering) → is_eq o ≡ false → is_eq (ordering_then o (second n x)) ≡ false
      go Less a = refl
      go Equal a = absurd (true≢false a)
      go Greater a = refl

  any_same : (k : M) (xs : List N) (rest : List (M × N)) → first m k ≡ Equal
      → list_any (is_at (pair_cmp first second (m, n))) (map (λ x. (k, x)) xs ++ rest)
      ≡ (list_any (is_at (second n)) xs || list_any (is_at (pair_cmp first second (m, n))) rest)
  any_same k [] rest q = refl
  any_same k (x ∷ xs) rest q =
      (λ i. is_eq (ordering_then (q i) (second n x)) || any_same k xs rest q i)
      ∙ sym (joined (is_eq (second n x)) (list_any (is_at (second n)) xs) (list_any (is_at (pair_cmp first second (m, n))) rest))
    where
      joined : (a b c : Bool) → ((a || b) || c) ≡ (a || (b || c))
      joined true b c = refl
      joined false b c = refl

  insert-apart : (k : M) (xs : List N) (rest : List (M × N)) → first m k ≡ Greater
      → insert_key (pair_cmp first second) (map (λ x. (k, x)) xs ++ rest) (m, n) ≡ map (λ x. (k, x)) xs ++ insert_key (pair_cmp first second) rest (m, n)
  insert-apart k [] rest q = refl
  insert-apart k (x ∷ xs) rest q =
      ap (λ o. match_ordering (ordering_then o (second n x)) ((m, n) ∷ (k, x) ∷ (map (λ y. (k, y)) xs ++ rest)) ((k, x) ∷ (map (λ y. (k, y)) xs ++ rest))
      ((k, x) ∷ insert_key (pair_cmp first second) (map (λ y. (k, y)) xs ++ rest) (m, n))) q
      ∙ ap (λ ps. (k, x) ∷ ps) (insert-apart k xs rest q)

  insert-same : (xs : List N) (rest : List (M × N)) → first m m ≡ Equal
      → insert_key (pair_cmp first second) rest (m, n) ≡ (m, n) ∷ rest
      → insert_key (pair_cmp first second) (map (λ x. (m, x)) xs ++ rest) (m, n) ≡ map (λ x. (m, x)) (insert_key second xs n) ++ rest
  insert-same [] rest q behind = behind
  insert-same (x ∷ xs) rest q behind =
      ap (λ o. match_ordering (ordering_then o (second n x)) ((m, n) ∷ (m, x) ∷ (map (λ y. (m, y)) xs ++ rest)) ((m, x) ∷ (map (λ y. (m, y)) xs ++ rest))
      ((m, x) ∷ insert_key (pair_cmp first second) (map (λ y. (m, y)) xs ++ rest) (m, n))) q
      ∙ go (second n x) (insert-same xs rest q behind)
    where
      go : (o : Ordering)
          → insert_key (pair_cmp first second) (map (λ y. (m, y)) xs ++ rest) (m, n) ≡ map (λ y. (m, y)) (insert_key second xs n) ++ rest
          → match_ordering o ((m, n) ∷ (m, x) ∷ (map (λ y. (m, y)) xs ++ rest)) ((m, x) ∷ (map (λ y. (m, y)) xs ++ rest))
          ((m, x) ∷ insert_key (pair_cmp first second) (map (λ y. (m, y)) xs ++ rest) (m, n))
          ≡ map (λ y. (m, y)) (match_ordering o (n ∷ x ∷ xs) (x ∷ xs) (x ∷ insert_key second xs n)) ++ rest
      go Less later = refl
      go Equal later = refl
      go Greater later = ap (λ ps. (m, x) ∷ ps) later

  remove-apart : (k : M) (xs : List N) (rest : List (M × N)) → is_eq (first m k) ≡ false
      → remove_key (is_at (pair_cmp first second (m, n))) (map (λ x. (k, x)) xs ++ rest)
      ≡ map (λ x. (k, x)) xs ++ remove_key (is_at (pair_cmp first second (m, n))) rest
  remove-apart k [] rest apart = refl
  remove-apart k (x ∷ xs) rest apart =
      ap (λ b. cond b (map (λ y. (k, y)) xs ++ rest) ((k, x) ∷ remove_key (is_at (pair_cmp first second (m, n))) (map (λ y. (k, y)) xs ++ rest)))
      (go (first m k) apart)
      ∙ ap (λ ps. (k, x) ∷ ps) (remove-apart k xs rest apart)
    where
      go : (o : Ordering) → is_eq o ≡ false → is_eq (ordering_then o (second n x)) ≡ false
      go Less a = refl
      go Equal a = absurd (true≢false a)
      go Greater a = refl

  remove-same : (k : M) (xs : List N) (rest : List (M × N)) → first m k ≡ Equal
      → remove_key (is_at (pair_cmp first second (m, n))) rest ≡ rest
      → remove_key (is_at (pair_cmp first second (m, n))) (map (λ x. (k, x)) xs ++ rest) ≡ map (λ x. (k, x)) (remove_key (is_at (second n)) xs) ++ rest
  remove-same k [] rest q behind = behind
  remove-same k (x ∷ xs) rest q behind =
      ap (λ o. cond (is_eq (ordering_then o (second n x))) (map (λ y. (k, y)) xs ++ rest)
      ((k, x) ∷ remove_key (is_at (pair_cmp first second (m, n))) (map (λ y. (k, y)) xs ++ rest))) q
      ∙ go (is_eq (second n x)) (remove-same k xs rest q behind)
    where
      go : (b : Bool)
          → remove_key (is_at (pair_cmp first second (m, n))) (map (λ y. (k, y)) xs ++ rest)
          ≡ map (λ y. (k, y)) (remove_key (is_at (second n)) xs) ++ rest
          → cond b (map (λ y. (k, y)) xs ++ rest) ((k, x) ∷ remove_key (is_at (pair_cmp first second (m, n))) (map (λ y. (k, y)) xs ++ rest))
          ≡ map (λ y. (k, y)) (cond b xs (x ∷ remove_key (is_at (second n)) xs)) ++ rest
      go true later = refl
      go false later = ap (λ ps. (k, x) ∷ ps) later

  -- ---- all keys above

  module _ {E : Type 0} (things : E → List N) where
    any-below : (es : List (M × E)) → AllByRecursion (λ k. first m k ≡ Less) (keys_of es)
        → list_any (is_at (pair_cmp first second (m, n))) (pairs_of things es) ≡ false
    any-below [] below = refl
    any-below (e ∷ es) below = any_apart e.0 (things e.1) (pairs_of things es) (ap is_eq below.0) ∙ any-below es below.1

    insert-below : (es : List (M × E)) → AllByRecursion (λ k. first m k ≡ Less) (keys_of es)
        → insert_key (pair_cmp first second) (pairs_of things es) (m, n) ≡ (m, n) ∷ pairs_of things es
    insert-below [] below = refl
    insert-below (e ∷ es) below = go (things e.1) (insert-below es below.1)
      where
        go : (xs : List N) → insert_key (pair_cmp first second) (pairs_of things es) (m, n) ≡ (m, n) ∷ pairs_of things es
            → insert_key (pair_cmp first second) (map (λ x. (e.0, x)) xs ++ pairs_of things es) (m, n)
            ≡ (m, n) ∷ (map (λ x. (e.0, x)) xs ++ pairs_of things es)
        go [] later = later
        go (x ∷ xs) later =
            ap (λ o. match_ordering (ordering_then o (second n x)) ((m, n) ∷ (e.0, x) ∷ (map (λ y. (e.0, y)) xs ++ pairs_of things es))
            ((e.0, x) ∷ (map (λ y. (e.0, y)) xs ++ pairs_of things es))
            ((e.0, x) ∷ insert_key (pair_cmp first second) (map (λ y. (e.0, y)) xs ++ pairs_of things es) (m, n))) below.0

-- ---- all keys

module _ {M N E : Type 0} (first : M → M → Ordering) (total : IsTotalOrder first) (exact : (a b : M) → first a b ≡ Equal → a ≡ b)
    (second : N → N → Ordering) (things : E → List N) (m : M) (n : N) where
  weaker : (k : M) (ks : List M) → first m k ≡ Less → AllByRecursion (λ y. first k y ≡ Less) ks → AllByRecursion (λ y. first m y ≡ Less) ks
  weaker k [] q h = tt
  weaker k (y ∷ ys) q h = (total.trans m k y q h.0, weaker k ys q h.1)

  alike : (k : M) (ks : List M) → first m k ≡ Equal → AllByRecursion (λ y. first k y ≡ Less) ks → AllByRecursion (λ y. first m y ≡ Less) ks
  alike k [] q h = tt
  alike k (y ∷ ys) q h = (total.congr m k y q ∙ h.0, alike k ys q h.1)

  -- what a test of pairs finds
  pub any_of : (es : List (M × E)) → IsStrictlySortedBy first (keys_of es)
      → list_any (is_at (pair_cmp first second (m, n))) (pairs_of things es)
      ≡ list_any (is_at (second n)) (things_or_none things (lookup (is_at (first m)) es))
  any_of [] s = refl
  any_of (e ∷ es) s = go (first m e.0) refl (any_of es (sorted_tail first e.0 (keys_of es) s))
    where
      go : (o : Ordering) → first m e.0 ≡ o
          → list_any (is_at (pair_cmp first second (m, n))) (pairs_of things es)
          ≡ list_any (is_at (second n)) (things_or_none things (lookup (is_at (first m)) es))
          → list_any (is_at (pair_cmp first second (m, n))) (pairs_of things (e ∷ es))
          ≡ list_any (is_at (second n)) (things_or_none things (cond (is_eq o) (Some e.1) (lookup (is_at (first m)) es)))
      go Less q later = any_apart first second m n e.0 (things e.1) (pairs_of things es) (ap is_eq q)
          ∙ any-below first second m n things es (weaker e.0 (keys_of es) q (sorted_head first e.0 (keys_of es) s))
          ∙ sym (ap (λ o. list_any (is_at (second n)) (things_or_none things o))
          (lookup-below first m es (weaker e.0 (keys_of es) q (sorted_head first e.0 (keys_of es) s))))
      go Equal q later = any_same first second m n e.0 (things e.1) (pairs_of things es) q
          ∙ ap (λ b. list_any (is_at (second n)) (things e.1) || b)
          (any-below first second m n things es (alike e.0 (keys_of es) q (sorted_head first e.0 (keys_of es) s)))
          ∙ nothing_more (list_any (is_at (second n)) (things e.1))
        where
          nothing_more : (b : Bool) → (b || false) ≡ b
          nothing_more true = refl
          nothing_more false = refl
      go Greater q later = any_apart first second m n e.0 (things e.1) (pairs_of things es) (ap is_eq q) ∙ later

  -- one more thing at a key that is there
  pub insert_there : (es : List (M × E)) (old new : E) → IsStrictlySortedBy first (keys_of es) → lookup (is_at (first m)) es ≡ Some old
      → things new ≡ insert_key second (things old) n
      → insert_key (pair_cmp first second) (pairs_of things es) (m, n) ≡ pairs_of things (set_value (is_at (first m)) es new)
  insert_there [] old new s h made = absurd (true≢false (sym (ap is_some h)))
  insert_there (e ∷ es) old new s h made = go (first m e.0) refl h (λ f. insert_there es old new (sorted_tail first e.0 (keys_of es) s) f made)
    where
      go : (o : Ordering) → first m e.0 ≡ o → cond (is_eq o) (Some e.1) (lookup (is_at (first m)) es) ≡ Some old
          → (lookup (is_at (first m)) es ≡ Some old
          → insert_key (pair_cmp first second) (pairs_of things es) (m, n) ≡ pairs_of things (set_value (is_at (first m)) es new))
          → insert_key (pair_cmp first second) (pairs_of things (e ∷ es)) (m, n)
          ≡ pairs_of things (set_value (is_at (first m)) (e ∷ es) new)
      go Less q f later =
          let none = lookup-below first m es (weaker e.0 (keys_of es) q (sorted_head first e.0 (keys_of es) s)) in
          absurd (true≢false (sym (ap is_some (sym none ∙ f))))
      go Equal q f later =
          let behind = insert-below first second m n things es (alike e.0 (keys_of es) q (sorted_head first e.0 (keys_of es) s)) in
          let same : m ≡ e.0 = exact m e.0 q in
          let same_first : first m m ≡ Equal = ap (first m) same ∙ q in
          let what : old ≡ e.1 = ap (λ (o : Option E). value_or e.1 o) (sym f) in
          subst (λ k. insert_key (pair_cmp first second) (map (λ x. (k, x)) (things e.1) ++ pairs_of things es) (m, n)
          ≡ map (λ x. (k, x)) (things new) ++ pairs_of things es) same
          (insert-same first second m n (things e.1) (pairs_of things es) same_first behind
          ∙ ap (λ xs. map (λ x. (m, x)) xs ++ pairs_of things es) (sym (made ∙ ap (λ y. insert_key second (things y) n) what)))
          ∙ sym (ap (λ o. pairs_of things (cond (is_eq o) ((e.0, new) ∷ es) (e ∷ set_value (is_at (first m)) es new))) q)
        where
          value_or : E → Option E → E
          value_or d None = d
          value_or d (Some y) = y
      go Greater q f later =
          insert-apart first second m n e.0 (things e.1) (pairs_of things es) q
          ∙ ap (λ ps. map (λ x. (e.0, x)) (things e.1) ++ ps) (later f)
          ∙ sym (ap (λ o. pairs_of things (cond (is_eq o) ((e.0, new) ∷ es) (e ∷ set_value (is_at (first m)) es new))) q)

  -- the first thing at a key
  pub insert_first : (es : List (M × E)) (new : E) → IsStrictlySortedBy first (keys_of es) → lookup (is_at (first m)) es ≡ None
      → things new ≡ n ∷ []
      → insert_key (pair_cmp first second) (pairs_of things es) (m, n) ≡ pairs_of things (insert_entry first es m new)
  insert_first [] new s h made = sym (ap (λ xs. map (λ x. (m, x)) xs ++ []) made)
  insert_first (e ∷ es) new s h made = go (first m e.0) refl h (λ f. insert_first es new (sorted_tail first e.0 (keys_of es) s) f made)
    where
      go : (o : Ordering) → first m e.0 ≡ o → cond (is_eq o) (Some e.1) (lookup (is_at (first m)) es) ≡ None
          → (lookup (is_at (first m)) es ≡ None
          → insert_key (pair_cmp first second) (pairs_of things es) (m, n) ≡ pairs_of things (insert_entry first es m new))
          → insert_key (pair_cmp first second) (pairs_of things (e ∷ es)) (m, n)
          ≡ pairs_of things (match_ordering o ((m, new) ∷ e ∷ es) ((e.0, new) ∷ es) (e ∷ insert_entry first es m new))
      go Less q f later =
          insert-below first second m n things (e ∷ es) (q, weaker e.0 (keys_of es) q (sorted_head first e.0 (keys_of es) s))
          ∙ sym (ap (λ xs. map (λ x. (m, x)) xs ++ pairs_of things (e ∷ es)) made)
      go Equal q f later = absurd (true≢false (ap is_some f))
      go Greater q f later =
          insert-apart first second m n e.0 (things e.1) (pairs_of things es) q
          ∙ ap (λ ps. map (λ x. (e.0, x)) (things e.1) ++ ps) (later f)

  -- one thing less at a key that is there
  pub remove_there : (es : List (M × E)) (old new : E) → IsStrictlySortedBy first (keys_of es) → lookup (is_at (first m)) es ≡ Some old
      → things new ≡ remove_key (is_at (second n)) (things old)
      → remove_key (is_at (pair_cmp first second (m, n))) (pairs_of things es) ≡ pairs_of things (set_value (is_at (first m)) es new)
  remove_there [] old new s h made = absurd (true≢false (sym (ap is_some h)))
  remove_there (e ∷ es) old new s h made = go (first m e.0) refl h (λ f. remove_there es old new (sorted_tail first e.0 (keys_of es) s) f made)
    where
      go : (o : Ordering) → first m e.0 ≡ o → cond (is_eq o) (Some e.1) (lookup (is_at (first m)) es) ≡ Some old
          → (lookup (is_at (first m)) es ≡ Some old
          → remove_key (is_at (pair_cmp first second (m, n))) (pairs_of things es) ≡ pairs_of things (set_value (is_at (first m)) es new))
          → remove_key (is_at (pair_cmp first second (m, n))) (pairs_of things (e ∷ es))
          ≡ pairs_of things (set_value (is_at (first m)) (e ∷ es) new)
      go Less q f later =
          let none = lookup-below first m es (weaker e.0 (keys_of es) q (sorted_head first e.0 (keys_of es) s)) in
          absurd (true≢false (sym (ap is_some (sym none ∙ f))))
      go Equal q f later =
          let nowhere = any-below first second m n things es (alike e.0 (keys_of es) q (sorted_head first e.0 (keys_of es) s)) in
          let behind = remove-absent (is_at (pair_cmp first second (m, n))) (pairs_of things es) nowhere in
          let what : old ≡ e.1 = ap (λ (o : Option E). value_or e.1 o) (sym f) in
          remove-same first second m n e.0 (things e.1) (pairs_of things es) q behind
          ∙ ap (λ xs. map (λ x. (e.0, x)) xs ++ pairs_of things es) (sym (made ∙ ap (λ y. remove_key (is_at (second n)) (things y)) what))
          ∙ sym (ap (λ o. pairs_of things (cond (is_eq o) ((e.0, new) ∷ es) (e ∷ set_value (is_at (first m)) es new))) q)
        where
          value_or : E → Option E → E
          value_or d None = d
          value_or d (Some y) = y
      go Greater q f later =
          remove-apart first second m n e.0 (things e.1) (pairs_of things es) (ap is_eq q)
          ∙ ap (λ ps. map (λ x. (e.0, x)) (things e.1) ++ ps) (later f)
          ∙ sym (ap (λ o. pairs_of things (cond (is_eq o) ((e.0, new) ∷ es) (e ∷ set_value (is_at (first m)) es new))) q)

  -- a key that isn't there has no pairs
  pub remove_none : (es : List (M × E)) → IsStrictlySortedBy first (keys_of es) → lookup (is_at (first m)) es ≡ None
      → remove_key (is_at (pair_cmp first second (m, n))) (pairs_of things es) ≡ pairs_of things es
  remove_none es s h = remove-absent (is_at (pair_cmp first second (m, n))) (pairs_of things es)
      (any_of es s ∙ ap (λ o. list_any (is_at (second n)) (things_or_none things o)) h)

  -- other things at a key that is there, which are the same ones
  same_there : (es : List (M × E)) (old new : E) → lookup (is_at (first m)) es ≡ Some old → things new ≡ things old
      → pairs_of things (set_value (is_at (first m)) es new) ≡ pairs_of things es
  same_there [] old new h made = refl
  same_there (e ∷ es) old new h made = go (is_eq (first m e.0)) h (λ f. same_there es old new f made)
    where
      go : (b : Bool) → cond b (Some e.1) (lookup (is_at (first m)) es) ≡ Some old
          → (lookup (is_at (first m)) es ≡ Some old → pairs_of things (set_value (is_at (first m)) es new) ≡ pairs_of things es)
          → pairs_of things (cond b ((e.0, new) ∷ es) (e ∷ set_value (is_at (first m)) es new)) ≡ pairs_of things (e ∷ es)
      go true f later = ap (λ xs. map (λ x. (e.0, x)) xs ++ pairs_of things es) (made ∙ ap things (ap (λ (o : Option E). unwrap_or o e.1) (sym f)))
      go false f later = ap (λ ps. map (λ x. (e.0, x)) (things e.1) ++ ps) (later f)

  -- a key that is there gets a thing, which may be there
  pub key_there : (es : List (M × E)) (old new : E) (added : Bool) → IsStrictlySortedBy first (keys_of es) → lookup (is_at (first m)) es ≡ Some old
      → IsKeyFor second (things old) n true added (things new)
      → IsKeyFor (pair_cmp first second) (pairs_of things es) (m, n) true added (pairs_of things (set_value (is_at (first m)) es new))
  key_there es old new added s h key = record { made = go added key.made; was_absent = key.was_absent ∙ sym (ap not same) }
    where
      same : list_any (is_at (pair_cmp first second (m, n))) (pairs_of things es) ≡ list_any (is_at (second n)) (things old)
      same = any_of es s ∙ ap (λ o. list_any (is_at (second n)) (things_or_none things o)) h

      go : (b : Bool) → things new ≡ cond b (insert_key second (things old) n) (things old)
          → pairs_of things (set_value (is_at (first m)) es new)
          ≡ cond b (insert_key (pair_cmp first second) (pairs_of things es) (m, n)) (pairs_of things es)
      go true made = sym (insert_there es old new s h made)
      go false made = same_there es old new h made

  -- a key gets its first thing
  pub key_first : (es : List (M × E)) (new : E) (added : Bool) → IsStrictlySortedBy first (keys_of es) → lookup (is_at (first m)) es ≡ None
      → IsKeyFor second [] n true added (things new)
      → IsKeyFor (pair_cmp first second) (pairs_of things es) (m, n) true added (pairs_of things (insert_entry first es m new))
  key_first es new added s h key = go added key.made key.was_absent
    where
      none : list_any (is_at (pair_cmp first second (m, n))) (pairs_of things es) ≡ false
      none = any_of es s ∙ ap (λ o. list_any (is_at (second n)) (things_or_none things o)) h

      go : (b : Bool) → things new ≡ cond b (n ∷ []) [] → b ≡ true
          → IsKeyFor (pair_cmp first second) (pairs_of things es) (m, n) true b (pairs_of things (insert_entry first es m new))
      go true made is = record { made = sym (insert_first es new s h made); was_absent = sym (ap not none) }
      go false made is = absurd (true≢false (sym is))

-- ---- the order of pairs

module _ {M N E : Type 0} (first : M → M → Ordering) (total : IsTotalOrder first) (second : N → N → Ordering) (things : E → List N) where
  above_pairs : (k : M) (x : N) (es : List (M × E)) → AllByRecursion (λ y. first k y ≡ Less) (keys_of es)
      → AllByRecursion (λ p. pair_cmp first second (k, x) p ≡ Less) (pairs_of things es)
  above_pairs k x [] h = tt
  above_pairs k x (e ∷ es) h = go (things e.1) (above_pairs k x es h.1)
    where
      go : (ys : List N) → AllByRecursion (λ p. pair_cmp first second (k, x) p ≡ Less) (pairs_of things es)
          → AllByRecursion (λ p. pair_cmp first second (k, x) p ≡ Less) (map (λ y. (e.0, y)) ys ++ pairs_of things es)
      go [] later = later
      go (y ∷ ys) later = (ap (λ o. ordering_then o (second x y)) h.0, go ys later)

  block_sorted : (k : M) (xs : List N) (rest : List (M × N)) → first k k ≡ Equal → IsStrictlySortedBy second xs
      → IsStrictlySortedBy (pair_cmp first second) rest → ((x : N) → AllByRecursion (λ p. pair_cmp first second (k, x) p ≡ Less) rest)
      → IsStrictlySortedBy (pair_cmp first second) (map (λ x. (k, x)) xs ++ rest)
  unfolding IsStrictlySortedBy
  block_sorted k [] rest q s r above = r
  block_sorted k (x ∷ xs) rest q s r above = (later xs s.0, block_sorted k xs rest q s.1 r above)
    where
      later : (ys : List N) → AllByRecursion (λ y. second x y ≡ Less) ys
          → AllByRecursion (λ p. pair_cmp first second (k, x) p ≡ Less) (map (λ y. (k, y)) ys ++ rest)
      later [] h = above x
      later (y ∷ ys) h = (ap (λ o. ordering_then o (second x y)) q ∙ h.0, later ys h.1)

  pub pairs_sorted : (es : List (M × E)) → IsStrictlySortedBy first (keys_of es) → AllByRecursion (λ e. IsStrictlySortedBy second (things e.1)) es
      → IsStrictlySortedBy (pair_cmp first second) (pairs_of things es)
  unfolding IsStrictlySortedBy
  pairs_sorted [] s all = tt
  pairs_sorted (e ∷ es) s all =
      block_sorted e.0 (things e.1) (pairs_of things es) (tied_itself total e.0) all.0 (pairs_sorted es s.1 all.1) (λ x. above_pairs e.0 x es s.0)

module _ {M E : Type 0} (Q : E → Type 0) where
  -- what holds of each value, once one is written
  pub all_set : (test : M → Bool) (es : List (M × E)) (new : E) → Q new → AllByRecursion (λ e. Q e.1) es
      → AllByRecursion (λ e. Q e.1) (set_value test es new)
  all_set test [] new q h = tt
  all_set test (e ∷ es) new q h = go (test e.0) (all_set test es new q h.1)
    where
      go : (b : Bool) → AllByRecursion (λ x. Q x.1) (set_value test es new)
          → AllByRecursion (λ x. Q x.1) (cond b ((e.0, new) ∷ es) (e ∷ set_value test es new))
      go true later = (q, h.1)
      go false later = (h.0, later)

  pub all_insert : (cmp : M → M → Ordering) (es : List (M × E)) (m : M) (new : E) → Q new → AllByRecursion (λ e. Q e.1) es
      → AllByRecursion (λ e. Q e.1) (insert_entry cmp es m new)
  all_insert cmp [] m new q h = (q, tt)
  all_insert cmp (e ∷ es) m new q h = go (cmp m e.0) (all_insert cmp es m new q h.1)
    where
      go : (o : Ordering) → AllByRecursion (λ x. Q x.1) (insert_entry cmp es m new)
          → AllByRecursion (λ x. Q x.1) (match_ordering o ((m, new) ∷ e ∷ es) ((e.0, new) ∷ es) (e ∷ insert_entry cmp es m new))
      go Less later = (q, (h.0, h.1))
      go Equal later = (q, h.1)
      go Greater later = (h.0, later)
