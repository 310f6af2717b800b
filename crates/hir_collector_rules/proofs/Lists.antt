-- Lists: what is left from a place on, places, and tests.
use Rattle.std.specs.List.{list_any}
use Rattle.std.proofs.Common.{◌≡◌, ◌≢◌, ◌∙◌, ℕ, Bool, false, zero, suc, ◌+◌, ◌<◌, ◌≤◌, List, [], ◌∷◌, ◌++◌, length, map, drop, get_or, slice_get, slice_set}
use Rattle.std.proofs.Common.{Some, None, refl, sym, ap, add-one, arith}
use Rattle.std.proofs.Math.Seq.{drop-cons}
use Rattle.hir_nameres.proofs.HirDefMapRules.NoneOf.{neither, not_first, not_second}

module _ {A : Type 0} where
  -- what stands at the place, and the rest
  pub drop_at : (xs : List A) (i : ℕ) (x : A) → i < length xs → x ≡ get_or xs i x → drop i xs ≡ x ∷ drop (i + 1) xs
  drop_at xs i x h e = rw add-one (drop-cons xs i x h ∙ ap (λ (y : A). y ∷ drop (suc i) xs) (sym e))

  pub drop_some : (xs : List A) (i : ℕ) (x : A) → slice_get xs i ≡ Some x → drop i xs ≡ x ∷ drop (suc i) xs
  drop_some [] i x h = absurd (let no : ⊥ = cc in no)
  drop_some (y ∷ ys) zero x h = let same : y ≡ x = cc in ap (λ (z : A). z ∷ ys) same
  drop_some (y ∷ ys) (suc i) x h = drop_some ys i x h

  pub drop_none : (xs : List A) (i : ℕ) → slice_get xs i ≡ None → drop i xs ≡ []
  drop_none [] zero h = refl
  drop_none [] (suc i) h = refl
  drop_none (y ∷ ys) zero h = absurd (let no : ⊥ = cc in no)
  drop_none (y ∷ ys) (suc i) h = drop_none ys i h

-- ---- places

module _ {A : Type 0} where
  pub get_left : (xs ys : List A) (i : ℕ) → i < length xs → slice_get (xs ++ ys) i ≡ slice_get xs i
  get_left [] ys i h = absurd (omega arith)
  get_left (x ∷ xs) ys zero h = refl
  get_left (x ∷ xs) ys (suc i) h = get_left xs ys i (omega arith)

  pub get_right : (xs ys : List A) (i : ℕ) → length xs ≤ i → (k : ℕ) × (slice_get (xs ++ ys) i ≡ slice_get ys k)
  get_right [] ys i h = (i, refl)
  get_right (x ∷ xs) ys zero h = absurd (omega arith)
  get_right (x ∷ xs) ys (suc i) h = get_right xs ys i (omega arith)

  pub get_inside : (xs : List A) (i : ℕ) (x : A) → slice_get xs i ≡ Some x → i < length xs
  get_inside [] i x h = absurd (let no : ⊥ = cc in no)
  get_inside (y ∷ ys) zero x h = omega arith
  get_inside (y ∷ ys) (suc i) x h = omega (arith, get_inside ys i x h)

  pub get_there : (xs : List A) (i : ℕ) → i < length xs → (x : A) × (slice_get xs i ≡ Some x)
  get_there [] i h = absurd (omega arith)
  get_there (x ∷ xs) zero h = (x, refl)
  get_there (x ∷ xs) (suc i) h = get_there xs i (omega arith)

  pub get_set_same : (xs : List A) (i : ℕ) (x : A) → i < length xs → slice_get (slice_set xs i x) i ≡ Some x
  get_set_same [] i x h = absurd (omega arith)
  get_set_same (y ∷ ys) zero x h = refl
  get_set_same (y ∷ ys) (suc i) x h = get_set_same ys i x (omega arith)

  pub get_set_other : (xs : List A) (i j : ℕ) (x : A) → j ≢ i → slice_get (slice_set xs i x) j ≡ slice_get xs j
  get_set_other [] i j x ne = refl
  get_set_other (y ∷ ys) zero zero x ne = absurd (ne refl)
  get_set_other (y ∷ ys) zero (suc j) x ne = refl
  get_set_other (y ∷ ys) (suc i) zero x ne = refl
  get_set_other (y ∷ ys) (suc i) (suc j) x ne = get_set_other ys i j x (λ e. ne (ap suc e))

  pub length_set : (xs : List A) (i : ℕ) (x : A) → length (slice_set xs i x) ≡ length xs
  length_set [] i x = refl
  length_set (y ∷ ys) zero x = refl
  length_set (y ∷ ys) (suc i) x = ap suc (length_set ys i x)

  pub length_both : (xs ys : List A) → length (xs ++ ys) ≡ length xs + length ys
  length_both [] ys = omega arith
  length_both (x ∷ xs) ys = omega (arith, length_both xs ys)

module _ {A B : Type 0} where
  pub length_mapped : (f : A → B) (xs : List A) → length (map f xs) ≡ length xs
  length_mapped f [] = refl
  length_mapped f (x ∷ xs) = ap suc (length_mapped f xs)

  pub get_same : (c : B) (ys : List A) (k : ℕ) (t : B) → slice_get (map (λ _. c) ys) k ≡ Some t → c ≡ t
  get_same c [] k t h = absurd (let no : ⊥ = cc in no)
  get_same c (y ∷ ys) zero t h = cc
  get_same c (y ∷ ys) (suc k) t h = get_same c ys k t h

-- ---- tests

module _ {A : Type 0} (p : A → Bool) where
  -- of the elements of two lists a test holds of none
  pub none_joined : (xs ys : List A) → list_any p xs ≡ false → list_any p ys ≡ false → list_any p (xs ++ ys) ≡ false
  none_joined [] ys f g = g
  none_joined (x ∷ xs) ys f g =
      neither (p x) (list_any p (xs ++ ys)) (not_first (p x) (list_any p xs) f) (none_joined xs ys (not_second (p x) (list_any p xs) f) g)
