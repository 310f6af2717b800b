-- What is left of a list.
use Rattle.std.proofs.Common.{◌≡◌, ◌⊎◌, inl, inr, subst, ℕ, zero, suc, ◌<◌, List, [], ◌∷◌, length, Some, slice_get, arith}
use Rattle.std.specs.Prelude.{Contains, slice_index_or}

-- what was on the left is on the left still, or is this
pub in_either : {A B X P : Type 0} → A ⊎ P → (A → B ⊎ X) → (X → P) → B ⊎ P
in_either {A} {B} {X} {P} (inl a) left is = go (left a)
  where
    go : B ⊎ X → B ⊎ P
    go (inl b) = inl b
    go (inr x) = inr (is x)
in_either {A} {B} {X} {P} (inr p) left is = inr p

pub on_right : {A P : Type 0} → A ⊎ P → (A → ⊥) → P
on_right (inl a) none = absurd (none a)
on_right (inr p) none = p

module _ {X : Type 0} where
  pub popped : (left rest : List X) (x y : X) → left ≡ x ∷ rest → Contains left y → Contains rest y ⊎ (x ≡ y)
  popped left rest x y is h = go (subst (λ (xs : List X). Contains xs y) is h)
    where
      go : Contains (x ∷ rest) y → Contains rest y ⊎ (x ≡ y)
      go (zero, low, same) = inr same
      go (suc n, low, same) = inl (n, omega (arith, low), same)

  pub none_left : (left : List X) (y : X) → left ≡ [] → Contains left y → ⊥
  none_left left y is h = go (subst (λ (xs : List X). Contains xs y) is h)
    where
      go : Contains [] y → ⊥
      go (n, low, same) = let past : n < 0 = low in omega arith

  -- what holds of what is read at a place holds of what is there
  pub got_here : (P : X → Type 0) (xs : List X) (at : ℕ) (other x : X) → at < length xs → slice_get xs at ≡ Some x → P (slice_index_or xs at other) → P x
  got_here P [] at other x low is h = absurd (omega (arith, low))
  got_here P (y ∷ xs) zero other x low is h = subst P (let same : y ≡ x = cc (is) in same) h
  got_here P (y ∷ xs) (suc at) other x low is h = got_here P xs at other x (omega (arith, low)) is h
