-- The first place of a list at which a test passes.
use Rattle.std.proofs.Common.{◌≡◌, ◌≤◌, ◌<◌, ℕ, Bool, true, false, cond, List, [], ◌∷◌, Some, None, refl, ap, ◌∙◌, length, get_or, arith}
use Rattle.std.specs.Prelude.{nat_lt}
use Rattle.std.specs.List.{position, position_or_len}
use Rattle.std.proofs.lemmas.Bool.{lt-ltb, le-ltb}
use Rattle.std.proofs.lemmas.List.Sums.{position_or_len_is}

within : (n m i : ℕ) → n ≡ i → i < m → cond (nat_lt n m) (Some n) None ≡ Some i
within n m i e low = ap (λ b. cond b (Some n) None) (lt-ltb n m (omega arith)) ∙ ap (λ k. Some k) e

past : (n m : ℕ) → m ≤ n → cond (nat_lt n m) (Some n) None ≡ None
past n m high = ap (λ b. cond b (Some n) None) (le-ltb n m high)

-- it passes here, and not before
pub position_found : {X : Type 0} (p : X → Bool) (xs : List X) (i : ℕ) (d : X)
    → i < length xs → ((k : ℕ) → k < i → p (get_or xs k d) ≡ false) → p (get_or xs i d) ≡ true → position p xs ≡ Some i
position_found p xs i d low before here =
    within (position_or_len p xs) (length xs) i (position_or_len_is p xs i d (omega arith) before (λ l. here)) low

-- it passes nowhere
pub position_missing : {X : Type 0} (p : X → Bool) (xs : List X) (i : ℕ)
    → length xs ≤ i → ((k : ℕ) (d : X) → k < i → p (get_or xs k d) ≡ false) → position p xs ≡ None
position_missing p [] i high before = refl
position_missing p (x ∷ xs) i high before =
    let at : position_or_len p (x ∷ xs) ≡ length (x ∷ xs) =
    position_or_len_is p (x ∷ xs) (length (x ∷ xs)) x (omega arith) (λ k l. before k x (omega arith)) (λ l. absurd (omega arith)) in
    past (position_or_len p (x ∷ xs)) (length (x ∷ xs)) (omega (arith, at))
