-- In a table that has no value twice each value has one number at most.
use Rattle.std.proofs.Common.{◌≡◌, ℕ, zero, suc, Bool, true, false, List, [], ◌∷◌, ◌||◌, Some, refl, sym, ap, ◌∙◌, rules, slice_get}
use Rattle.std.specs.Cmp.{IsEquivalence}
use Rattle.std.specs.List.{AllByRecursion, IsDistinct, list_any, position}
use Rattle.std.proofs.lemmas.List.Quantifiers.{position-Some}
use Rattle.std.proofs.lemmas.Map.Keys.{IsDistinct-head, IsDistinct-tail}
use Rattle.std.proofs.lemmas.Option.{slice_get-get_or}
use Rattle.hir_base.specs.Locations.{IsNumberOf}
use mathlib.Core.Bool.{true≢false}

-- what holds of each value holds of that at a number
holds_at : {V : Type 0} (P : V → Type 0) (values : List V) (n : ℕ) (v : V) → AllByRecursion P values → slice_get values n ≡ Some v → P v
holds_at P [] n v all at = absurd (search rules)
holds_at P (w ∷ ws) zero v all at = search rules
holds_at P (w ∷ ws) (suc n) v all at = holds_at P ws n v all.1 at

module _ {V : Type 0} (eq : V → V → Bool) (laws : IsEquivalence eq) where
  -- the first place at which a value passes has a value that passes
  pub number_is : (values : List V) (value : V) (n : ℕ) → position (eq value) values ≡ Some n → IsNumberOf eq values value n
  number_is [] value n found = search rules
  number_is (v ∷ vs) value n found =
      let at = position-Some (eq value) (v ∷ vs) n v found in
      (_, slice_get-get_or (v ∷ vs) n v at.0, at.1)

  -- a value that is equal to some has a number
  pub has_number : (values : List V) (value : V) → list_any (eq value) values ≡ true → (n : ℕ) × IsNumberOf eq values value n
  has_number [] value some = absurd (true≢false (sym some))
  has_number (v ∷ vs) value some = go (has_number vs value) (eq value v) refl some
    where
      go : (list_any (eq value) vs ≡ true → (n : ℕ) × IsNumberOf eq vs value n) → (b : Bool) → eq value v ≡ b → (b || list_any (eq value) vs) ≡ true
          → (n : ℕ) × IsNumberOf eq (v ∷ vs) value n
      go behind true same e = (zero, (v, refl, same))
      go behind false same e = let h = behind e in (suc h.0, h.1)

  -- one that is equal to none has none
  pub no_number : (values : List V) (value : V) (n : ℕ) → list_any (eq value) values ≡ false → IsNumberOf eq values value n → ⊥
  no_number [] value n none h = absurd (search rules)
  no_number (v ∷ vs) value n none h = go (no_number vs value) (eq value v) refl none n h
    where
      go : ((m : ℕ) → list_any (eq value) vs ≡ false → IsNumberOf eq vs value m → ⊥) → (b : Bool) → eq value v ≡ b → (b || list_any (eq value) vs) ≡ false
          → (m : ℕ) → IsNumberOf eq (v ∷ vs) value m → ⊥
      go behind true same e m h = true≢false e
      go behind false same e zero h = let first : v ≡ h.0 = cc in true≢false (sym h.2 ∙ ap (eq value) (sym first) ∙ same)
      go behind false same e (suc m) h = behind m e h

  -- where the first is equal to a value, no later one is
  first_alone : (v : V) (vs : List V) (value : V) (n : ℕ) → AllByRecursion (λ y. eq v y ≡ false) vs → eq value v ≡ true → IsNumberOf eq vs value n → ⊥
  first_alone v vs value n apart same h =
      true≢false (sym h.2 ∙ laws.congr value v h.0 same ∙ holds_at (λ y. eq v y ≡ false) vs n h.0 apart h.1)

  -- where no value is there twice, a value has one number
  pub one_number : (values : List V) (value : V) (m n : ℕ) → IsDistinct eq values → IsNumberOf eq values value m → IsNumberOf eq values value n → m ≡ n
  one_number [] value m n d a b = absurd (search rules)
  one_number (v ∷ vs) value zero zero d a b = refl
  one_number (v ∷ vs) value zero (suc n) d a b =
      let first : v ≡ a.0 = cc in
      absurd (first_alone v vs value n (IsDistinct-head eq v vs d) (ap (eq value) first ∙ a.2) b)
  one_number (v ∷ vs) value (suc m) zero d a b =
      let first : v ≡ b.0 = cc in
      absurd (first_alone v vs value m (IsDistinct-head eq v vs d) (ap (eq value) first ∙ b.2) a)
  one_number (v ∷ vs) value (suc m) (suc n) d a b = ap suc (one_number vs value m n (IsDistinct-tail eq v vs d) a b)
