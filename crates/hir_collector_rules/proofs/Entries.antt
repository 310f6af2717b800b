-- What is there in a list by keys is there still, once something is written to it.
use Rattle.std.specs.Prelude.{◌≡◌, ℕ, List, [], ◌∷◌, Bool, true, false, is_some, Option, None, Some, cond}
use Rattle.std.specs.BTreeMap.{insert_entry, is_at}
use Rattle.std.specs.Map.{lookup, set_value}
use Rattle.std.specs.Cmp.Lexicographic.{slice_cmp}
use Rattle.std.specs.List.{list_any}
use Rattle.std.specs.Ordering.{match_ordering, nat_cmp}
use Rattle.std.specs.declared.cmp.Ordering.{Ordering}
use Rattle.std.specs.declared.cmp.Ordering.TheVariants.{Less, Equal, Greater}
use Rattle.std.proofs.Common.{refl, sym}
use mathlib.Core.Bool.{true≢false}
use Rattle.hir_nameres.specs.HirScope.Entries.{has_key, item_at, with_entry}
use Rattle.hir_nameres.proofs.HirDefMapRules.NoneOf.{neither, none_found, not_first, not_second}

module _ {V : Type 0} where
  pub there_or : (b : Bool) (v : V) (o : Option V) → is_some o ≡ true → is_some (cond b (Some v) o) ≡ true
  there_or true v o h = refl
  there_or false v o h = h

  there_with : (b : Bool) (v w : V) (o : Option V) → is_some (cond b (Some v) o) ≡ true → is_some (cond b (Some w) o) ≡ true
  there_with true v w o h = refl
  there_with false v w o h = h

  there_later : (b : Bool) (v : V) (o p : Option V) → (is_some o ≡ true → is_some p ≡ true) → is_some (cond b (Some v) o) ≡ true → is_some (cond b (Some v) p)
      ≡ true
  there_later true v o p f h = refl
  there_later false v o p f h = f h

module _ {K V : Type 0} (test : K → Bool) where
  -- with one more value, or another at a key
  pub still_inserted : (cmp : K → K → Ordering) (es : List (K × V)) (k : K) (v : V) → is_some (lookup test es) ≡ true
      → is_some (lookup test (insert_entry cmp es k v)) ≡ true
  still_inserted cmp [] k v h = absurd (true≢false (sym h))
  still_inserted cmp (e ∷ es) k v h = go (cmp k e.0) (still_inserted cmp es k v)
    where
      go : (o : Ordering) → (is_some (lookup test es) ≡ true → is_some (lookup test (insert_entry cmp es k v)) ≡ true)
          → is_some (lookup test (match_ordering o ((k, v) ∷ e ∷ es) ((e.0, v) ∷ es) (e ∷ insert_entry cmp es k v))) ≡ true
      go Less below = there_or (test k) v (lookup test (e ∷ es)) h
      go Equal below = there_with (test e.0) e.1 v (lookup test es) h
      go Greater below = there_later (test e.0) e.1 (lookup test es) (lookup test (insert_entry cmp es k v)) below h

  -- with another value at the first key of a test
  pub still_set : (at : K → Bool) (es : List (K × V)) (v : V) → is_some (lookup test es) ≡ true → is_some (lookup test (set_value at es v)) ≡ true
  still_set at [] v h = h
  still_set at (e ∷ es) v h = go (at e.0) (still_set at es v)
    where
      go : (b : Bool) → (is_some (lookup test es) ≡ true → is_some (lookup test (set_value at es v)) ≡ true)
          → is_some (lookup test (cond b ((e.0, v) ∷ es) (e ∷ set_value at es v))) ≡ true
      go true below = there_with (test e.0) e.1 v (lookup test es) h
      go false below = there_later (test e.0) e.1 (lookup test es) (lookup test (set_value at es v)) below h

  -- with one of the two
  pub still_with_entry : (cmp : K → K → Ordering) (es : List (K × V)) (k : K) (v : V) → is_some (lookup test es) ≡ true
      → is_some (lookup test (with_entry cmp es k v)) ≡ true
  still_with_entry cmp es k v h = go (has_key cmp es k)
    where
      go : (b : Bool) → is_some (lookup test (cond b (set_value (is_at (cmp k)) es v) (insert_entry cmp es k v))) ≡ true
      go true = still_set (is_at (cmp k)) es v h
      go false = still_inserted cmp es k v h

-- ---- a test that holds of no value holds of none still

module _ {K V : Type 0} (p : V → Bool) where
  pub none_set : (test : K → Bool) (es : List (K × V)) (v : V) → list_any (λ (e : K × V). p e.1) es ≡ false → p v ≡ false → list_any (λ (e : K × V). p e.1)
      (set_value test es v) ≡ false
  none_set test [] v f g = refl
  none_set test (e ∷ es) v f g = go (test e.0) (none_set test es v (not_second (p e.1) (list_any (λ (x : K × V). p x.1) es) f) g)
    where
      go : (b : Bool) → list_any (λ (x : K × V). p x.1) (set_value test es v) ≡ false → list_any (λ (x : K × V). p x.1)
          (cond b ((e.0, v) ∷ es) (e ∷ set_value test es v)) ≡ false
      go true below = neither (p v) (list_any (λ (x : K × V). p x.1) es) g (not_second (p e.1) (list_any (λ (x : K × V). p x.1) es) f)
      go false below = neither (p e.1) (list_any (λ (x : K × V). p x.1) (set_value test es v)) (not_first (p e.1) (list_any (λ (x : K × V). p x.1) es) f) below

-- ---- a list by names, where one that a name stands for is written anew

abbrev pub rewritten_at : {X : Type 0} → (X → X) → List (List ℕ × X) → List ℕ → Option X → List (List ℕ × X)
rewritten_at new items name None = items
rewritten_at new items name (Some item) = set_value (is_at (slice_cmp nat_cmp name)) items (new item)

pub none_rewritten : {X : Type 0} (p : X → Bool) (new : X → X) (es : List (List ℕ × X)) (name : List ℕ)
    → ((x : X) → item_at es name ≡ Some x → p x ≡ false → p (new x) ≡ false)
    → list_any (λ (e : List ℕ × X). p e.1) es ≡ false → list_any (λ (e : List ℕ × X). p e.1) (rewritten_at new es name (item_at es name)) ≡ false
none_rewritten {X} p new es name keeps f = go (item_at es name) refl
  where
    go : (o : Option X) → item_at es name ≡ o → list_any (λ (e : List ℕ × X). p e.1) (rewritten_at new es name o) ≡ false
    go None e = f
    go (Some x) e = none_set p (is_at (slice_cmp nat_cmp name)) es (new x) f (keeps x e (none_found p (is_at (slice_cmp nat_cmp name)) es x f e))
