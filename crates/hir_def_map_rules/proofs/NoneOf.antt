-- A test that holds of nothing in a list.
use Rattle.std.specs.Prelude.{◌≡◌, ◌++◌, ℕ, zero, suc, Bool, true, false, ◌||◌, List, [], ◌∷◌, Some, cond, slice_get}
use Rattle.std.specs.Ordering.{match_ordering}
use Rattle.std.specs.Cmp.{first_so, second_so}
use Rattle.std.specs.List.{list_all, list_any}
use Rattle.std.specs.BTreeMap.{insert_entry, is_at}
use Rattle.std.specs.Map.{lookup, set_value}
use Rattle.std.specs.declared.cmp.Ordering.{Ordering}
use Rattle.indexmap.specs.IndexMap.{insert_entry as insert_last}
use Rattle.std.specs.declared.cmp.Ordering.TheVariants.{Less, Equal, Greater}
use Rattle.std.proofs.Common.{ap, refl, sym, ◌∙◌}
use mathlib.Core.Bool.{true≢false}
use Rattle.hir_scope.specs.Entries.{has_key, with_entry}
use Rattle.hir_def_map_rules.specs.State.{changed_at}

-- ---- of two

pub neither : (a b : Bool) → a ≡ false → b ≡ false → (a || b) ≡ false
neither true b f g = absurd (true≢false f)
neither false b f g = g

pub not_first : (a b : Bool) → (a || b) ≡ false → a ≡ false
not_first true b f = absurd (true≢false f)
not_first false b f = refl

pub not_second : (a b : Bool) → (a || b) ≡ false → b ≡ false
not_second true b f = absurd (true≢false f)
not_second false b f = f

-- ---- lists

module _ {A : Type 0} (p : A → Bool) where
  -- of none of these
  abbrev pub NoneOf : List A → Type 0
  NoneOf xs = list_any p xs ≡ false

  pub none_at : (xs : List A) → NoneOf xs → (k : ℕ) (x : A) → slice_get xs k ≡ Some x → p x ≡ false
  none_at [] f k x e = absurd cc
  none_at (y ∷ ys) f zero x e = let same : y ≡ x = cc in ap p (sym same) ∙ not_first (p y) (list_any p ys) f
  none_at (y ∷ ys) f (suc k) x e = none_at ys (not_second (p y) (list_any p ys) f) k x e

  pub none_by : (xs : List A) → ((k : ℕ) (x : A) → slice_get xs k ≡ Some x → p x ≡ false) → NoneOf xs
  none_by [] f = refl
  none_by (y ∷ ys) f = neither (p y) (list_any p ys) (f zero y refl) (none_by ys (λ k x e. f (suc k) x e))

  pub none_more : (xs : List A) (y : A) → NoneOf xs → p y ≡ false → NoneOf (xs ++ y ∷ [])
  none_more [] y f g = neither (p y) false g refl
  none_more (x ∷ xs) y f g =
      neither (p x) (list_any p (xs ++ y ∷ [])) (not_first (p x) (list_any p xs) f) (none_more xs y (not_second (p x) (list_any p xs) f) g)

  pub none_changed : (change : A → A) → ((x : A) → p x ≡ false → p (change x) ≡ false) → (xs : List A) (at : ℕ) → NoneOf xs → NoneOf (changed_at xs at change)
  none_changed change keeps [] at f = refl
  none_changed change keeps (x ∷ xs) zero f =
      neither (p (change x)) (list_any p xs) (keeps x (not_first (p x) (list_any p xs) f)) (not_second (p x) (list_any p xs) f)
  none_changed change keeps (x ∷ xs) (suc at) f =
      neither (p x) (list_any p (changed_at xs at change)) (not_first (p x) (list_any p xs) f)
      (none_changed change keeps xs at (not_second (p x) (list_any p xs) f))

-- a test that holds of less holds of none where the other does
pub none_of_less : {A : Type 0} (p q : A → Bool) → ((x : A) → p x ≡ false → q x ≡ false) → (xs : List A) → list_any p xs ≡ false → list_any q xs ≡ false
none_of_less p q less [] f = refl
none_of_less p q less (x ∷ xs) f =
    neither (q x) (list_any q xs) (less x (not_first (p x) (list_any p xs) f)) (none_of_less p q less xs (not_second (p x) (list_any p xs) f))

-- ---- lists of entries

module _ {K V : Type 0} (p : V → Bool) where
  abbrev on_value : K × V → Bool
  on_value e = p e.1

  -- of the values of none of these entries
  abbrev pub NoneOfValues : List (K × V) → Type 0
  NoneOfValues es = list_any on_value es ≡ false

  pub none_found : (test : K → Bool) (es : List (K × V)) (v : V) → NoneOfValues es → lookup test es ≡ Some v → p v ≡ false
  none_found test [] v f e = absurd cc
  none_found test (x ∷ xs) v f e = go (test x.0) (λ g. none_found test xs v (not_second (p x.1) (list_any on_value xs) f) g) e
    where
      go : (b : Bool) → (lookup test xs ≡ Some v → p v ≡ false) → cond b (Some x.1) (lookup test xs) ≡ Some v → p v ≡ false
      go true below g = let same : x.1 ≡ v = cc in ap p (sym same) ∙ not_first (p x.1) (list_any on_value xs) f
      go false below g = below g

  pub none_inserted : (cmp : K → K → Ordering) (es : List (K × V)) (k : K) (v : V) → NoneOfValues es → p v ≡ false → NoneOfValues (insert_entry cmp es k v)
  none_inserted cmp [] k v f g = neither (p v) false g refl
  none_inserted cmp (e ∷ es) k v f g = go (cmp k e.0) (none_inserted cmp es k v (not_second (p e.1) (list_any on_value es) f) g)
    where
      go : (o : Ordering) → NoneOfValues (insert_entry cmp es k v)
          → NoneOfValues (match_ordering o ((k, v) ∷ e ∷ es) ((e.0, v) ∷ es) (e ∷ insert_entry cmp es k v))
      go Less below = neither (p v) (list_any on_value (e ∷ es)) g f
      go Equal below = neither (p v) (list_any on_value es) g (not_second (p e.1) (list_any on_value es) f)
      go Greater below = neither (p e.1) (list_any on_value (insert_entry cmp es k v)) (not_first (p e.1) (list_any on_value es) f) below

  -- also where a new key comes last
  pub none_inserted_last : (eq : K → K → Bool) (es : List (K × V)) (k : K) (v : V) → NoneOfValues es → p v ≡ false → NoneOfValues (insert_last eq es k v)
  none_inserted_last eq [] k v f g = neither (p v) false g refl
  none_inserted_last eq (e ∷ es) k v f g = go (eq k e.0) (none_inserted_last eq es k v (not_second (p e.1) (list_any on_value es) f) g)
    where
      go : (b : Bool) → NoneOfValues (insert_last eq es k v) → NoneOfValues (cond b ((e.0, v) ∷ es) (e ∷ insert_last eq es k v))
      go true below = neither (p v) (list_any on_value es) g (not_second (p e.1) (list_any on_value es) f)
      go false below = neither (p e.1) (list_any on_value (insert_last eq es k v)) (not_first (p e.1) (list_any on_value es) f) below

  pub none_set : (test : K → Bool) (es : List (K × V)) (v : V) → NoneOfValues es → p v ≡ false → NoneOfValues (set_value test es v)
  none_set test [] v f g = refl
  none_set test (e ∷ es) v f g = go (test e.0) (none_set test es v (not_second (p e.1) (list_any on_value es) f) g)
    where
      go : (b : Bool) → NoneOfValues (set_value test es v) → NoneOfValues (cond b ((e.0, v) ∷ es) (e ∷ set_value test es v))
      go true below = neither (p v) (list_any on_value es) g (not_second (p e.1) (list_any on_value es) f)
      go false below = neither (p e.1) (list_any on_value (set_value test es v)) (not_first (p e.1) (list_any on_value es) f) below

  pub none_with_entry : (cmp : K → K → Ordering) (es : List (K × V)) (k : K) (v : V) → NoneOfValues es → p v ≡ false → NoneOfValues (with_entry cmp es k v)
  none_with_entry cmp es k v f g = go (has_key cmp es k)
    where
      go : (b : Bool) → NoneOfValues (cond b (set_value (is_at (cmp k)) es v) (insert_entry cmp es k v))
      go true = none_set (is_at (cmp k)) es v f g
      go false = none_inserted cmp es k v f g

-- ---- a test that holds of all

-- it holds of a value that is found
pub all_found : {K V : Type 0} (p : V → Bool) (test : K → Bool) (es : List (K × V)) (v : V) → list_all (λ (e : K × V). p e.1) es ≡ true → lookup test es
    ≡ Some v → p v ≡ true
all_found p test [] v all e = absurd cc
all_found {K} {V} p test (x ∷ xs) v all e = go (test x.0) (λ f. all_found p test xs v (second_so (p x.1) (list_all (λ (y : K × V). p y.1) xs) all) f) e
  where
    go : (b : Bool) → (lookup test xs ≡ Some v → p v ≡ true) → cond b (Some x.1) (lookup test xs) ≡ Some v → p v ≡ true
    go true below f = let same : x.1 ≡ v = cc in ap p (sym same) ∙ first_so (p x.1) (list_all (λ (y : K × V). p y.1) xs) all
    go false below f = below f
