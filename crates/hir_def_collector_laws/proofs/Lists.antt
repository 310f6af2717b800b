-- What lists contain.
use Rattle.std.proofs.Common.{◌≡◌, ◌≢◌, ℕ, zero, suc, ◌<◌, List, [], ◌∷◌, ◌++◌, slice_get, slice_set, Some, ◌⊎◌, inl, inr, refl, ap, arith, Contains}
use Rattle.hir_def_collector_laws.specs.Expansions.{at_home}

module _ {A : Type 0} where
  pub later : (y : A) (ys : List A) (x : A) → Contains ys x → Contains (y ∷ ys) x
  later y ys x (n, below, is) = (suc n, omega (arith, below), is)

  pub at_first : (x : A) (xs : List A) → Contains (x ∷ xs) x
  at_first x xs = (0, omega arith, refl)

  -- what stands at a place
  pub standing : (xs : List A) (i : ℕ) (x : A) → slice_get xs i ≡ Some x → Contains xs x
  standing [] i x e = absurd (let no : ⊥ = cc in no)
  standing (y ∷ ys) zero x e = (0, omega arith, cc)
  standing (y ∷ ys) (suc i) x e = later y ys x (standing ys i x e)

  -- an element of a list in which one was replaced
  pub replaced : (xs : List A) (j : ℕ) (v x : A) → Contains (slice_set xs j v) x → Contains xs x ⊎ (v ≡ x)
  replaced [] j v x h = inl h
  replaced (y ∷ ys) zero v x (zero, below, is) = inr is
  replaced (y ∷ ys) zero v x (suc n, below, is) = inl (suc n, omega (arith, below), is)
  replaced (y ∷ ys) (suc j) v x (zero, below, is) = inl (0, omega arith, is)
  replaced (y ∷ ys) (suc j) v x (suc n, below, is) = elim (replaced ys j v x (n, omega (arith, below), is)) as (λ _. Contains (y ∷ ys) x ⊎ (v ≡ x)) [
    | inl h ↦ inl (later y ys x h)
    | inr e ↦ inr e
  ]

-- ---- what belongs to one module

module _ {A : Type 0} where
  pub at_home-same : (k : ℕ) (xs : List A) → at_home k k xs ≡ xs
  at_home-same zero xs = refl
  at_home-same (suc k) xs = at_home-same k xs

  pub at_home-below : (h k : ℕ) (xs : List A) → h < k → at_home h k xs ≡ []
  at_home-below zero zero xs low = absurd (omega arith)
  at_home-below zero (suc k) xs low = refl
  at_home-below (suc h) zero xs low = refl
  at_home-below (suc h) (suc k) xs low = at_home-below h k xs (omega arith)

  pub at_home-above : (h k : ℕ) (xs : List A) → k < h → at_home h k xs ≡ []
  at_home-above zero k xs low = absurd (omega arith)
  at_home-above (suc h) zero xs low = refl
  at_home-above (suc h) (suc k) xs low = at_home-above h k xs (omega arith)

  pub at_home-other : (h k : ℕ) (xs : List A) → h ≢ k → at_home h k xs ≡ []
  at_home-other zero zero xs apart = absurd (apart refl)
  at_home-other zero (suc k) xs apart = refl
  at_home-other (suc h) zero xs apart = refl
  at_home-other (suc h) (suc k) xs apart = at_home-other h k xs (λ e. apart (ap suc e))

  pub at_home-nothing : (h k : ℕ) → at_home {A = A} h k [] ≡ []
  at_home-nothing zero zero = refl
  at_home-nothing zero (suc k) = refl
  at_home-nothing (suc h) zero = refl
  at_home-nothing (suc h) (suc k) = at_home-nothing h k

  pub at_home-both : (h k : ℕ) (xs ys : List A) → at_home h k (xs ++ ys) ≡ at_home h k xs ++ at_home h k ys
  at_home-both zero zero xs ys = refl
  at_home-both zero (suc k) xs ys = refl
  at_home-both (suc h) zero xs ys = refl
  at_home-both (suc h) (suc k) xs ys = at_home-both h k xs ys
