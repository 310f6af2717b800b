-- Rows of bits, and the crates that they have.
use Rattle.std.proofs.Common.{◌≡◌, ◌⊎◌, inl, inr, nat_eq, ℕ, ◌+◌, ◌*◌, ◌/◌, ◌%◌, ◌^◌, ◌<◌, ◌≤◌, zero, suc, Bool, false, ◌||◌, List, [], ◌∷◌, ◌++◌, Result, Ok}
use Rattle.std.proofs.Common.{Err, OnErr, length, get_or, set, max, refl, sym, ap, ap₂, ◌∙◌, arith, w64}
use Rattle.std.specs.Int.{bit_at}
use Rattle.std.specs.Int.RustNames.{bit_and, bit_or}
use Rattle.std.proofs.lemmas.Bool.{cases_eq, cases_lt}
use Rattle.std.proofs.lemmas.List.{get_or_past, get_or-set_same, get_or-set_other}
use Rattle.std.proofs.lemmas.Nat.Bits.{bit_at-zero, bit_at_or, bit_at_set_same, bit_at_set_other, shr_and_one, bit_at-lt}
use Rattle.hir_ids.specs.declared.ids.Crate.{Crate}
use Rattle.hir_crate_graph.specs.Bits.{has_bit, members}
use Rattle.hir_crate_graph.specs.CrateSet.{has_crate, IsAscending, Gains}
use Rattle.hir_crate_graph.proofs.CrateLists.{or_true, or_false, same_number, other_number, ascending_alike, IsAscending-crates_from, length-crates_from}
use Rattle.hir_crate_graph.proofs.CrateLists.{has_above, has_within}

-- a row whose word is 0 there has no bit there
pub has_bit-zero_word : (words : List ℕ) (n : ℕ) → get_or words (n / 64) 0 ≡ 0 → has_bit words n ≡ false
unfolding has_bit
has_bit-zero_word words n e = ap (λ (w : ℕ). nat_eq (bit_at w (n % 64)) 1) e ∙ ap (λ (b : ℕ). nat_eq b 1) (bit_at-zero (n % 64))

pub has_bit-past : (words : List ℕ) (n : ℕ) → 64 * length words ≤ n → has_bit words n ≡ false
has_bit-past words n le = has_bit-zero_word words n (get_or_past words (n / 64) 0 (omega arith))

-- nor one of a whole word of zeros
pub zeros-passed : (words : List ℕ) (at n : ℕ) → at % 64 ≡ 0 → get_or words (at / 64) 0 ≡ 0 → at ≤ n → n < at + 64 → has_bit words n ≡ false
zeros-passed words at n begins e le lt =
    let same : n / 64 ≡ at / 64 = omega arith in
    has_bit-zero_word words n (ap (λ (m : ℕ). get_or words m 0) same ∙ e)

-- rows with the same words have the same bits
pub has_bit-same_word : (words others : List ℕ) (n : ℕ) → get_or words (n / 64) 0 ≡ get_or others (n / 64) 0 → has_bit words n ≡ has_bit others n
unfolding has_bit
has_bit-same_word words others n e = ap (λ (w : ℕ). nat_eq (bit_at w (n % 64)) 1) e

-- what the code tests
pub has_bit-tested : (words : List ℕ) (n : ℕ) → nat_eq (bit_and (get_or words (n / 64) 0 / 2 ^ (n % 64)) 1) 1 ≡ has_bit words n
unfolding has_bit
has_bit-tested words n = ap (λ (b : ℕ). nat_eq b 1) (shr_and_one (get_or words (n / 64) 0) (n % 64))

-- what the test of a bit answers
pub ruleset tested = (has_bit-past, has_bit-tested)

max_is : (a b : ℕ) → a < 2 → b < 2 → nat_eq (max a b) 1 ≡ (nat_eq a 1 || nat_eq b 1)
max_is a b h k = go (cases_eq a 1)
  where
    go : (a ≡ 1) ⊎ (a ≡ 1 → ⊥) → nat_eq (max a b) 1 ≡ (nat_eq a 1 || nat_eq b 1)
    go (inl e) = let m : max a b ≡ 1 = omega arith in same_number (max a b) 1 m ∙ sym (ap (λ (t : Bool). t || nat_eq b 1) (same_number a 1 e))
    go (inr ne) = let m : max a b ≡ b = omega arith in ap (λ (x : ℕ). nat_eq x 1) m ∙ sym (ap (λ (t : Bool). t || nat_eq b 1) (other_number a 1 ne))

-- a word that is joined with another has the bits of both
pub has_bit-joined : (words others new : List ℕ) (n : ℕ) → get_or new (n / 64) 0 ≡ bit_or (get_or words (n / 64) 0) (get_or others (n / 64) 0)
    → has_bit new n ≡ (has_bit words n || has_bit others n)
unfolding has_bit
has_bit-joined words others new n e =
    ap (λ (w : ℕ). nat_eq (bit_at w (n % 64)) 1) e ∙ ap (λ (b : ℕ). nat_eq b 1) (bit_at_or (get_or words (n / 64) 0) (get_or others (n / 64) 0) (n % 64))
    ∙ max_is (bit_at (get_or words (n / 64) 0) (n % 64)) (bit_at (get_or others (n / 64) 0) (n % 64)) (bit_at-lt _ _) (bit_at-lt _ _)

-- a word with one bit more
or_bit : (w s i : ℕ) → s < 64 → nat_eq (bit_at (bit_or w (1 * 2 ^ s % 2 ^ 64)) i) 1 ≡ (nat_eq (bit_at w i) 1 || nat_eq i s)
or_bit w s i lt = go (cases_eq i s)
  where
    go : (i ≡ s) ⊎ (i ≡ s → ⊥) → nat_eq (bit_at (bit_or w (1 * 2 ^ s % 2 ^ 64)) i) 1 ≡ (nat_eq (bit_at w i) 1 || nat_eq i s)
    go (inl e) =
        ap (λ (b : ℕ). nat_eq b 1) (ap (bit_at (bit_or w (1 * 2 ^ s % 2 ^ 64))) e ∙ bit_at_set_same w64 w s lt)
        ∙ sym (ap (λ (t : Bool). nat_eq (bit_at w i) 1 || t) (same_number i s e) ∙ or_true (nat_eq (bit_at w i) 1))
    go (inr ne) =
        ap (λ (b : ℕ). nat_eq b 1) (bit_at_set_other w64 w s lt i ne)
        ∙ sym (ap (λ (t : Bool). nat_eq (bit_at w i) 1 || t) (other_number i s ne) ∙ or_false (nat_eq (bit_at w i) 1))

-- in one word the places are told apart by their bits
same_in_word : (n place : ℕ) → n / 64 ≡ place / 64 → nat_eq (n % 64) (place % 64) ≡ nat_eq n place
same_in_word n place e = go (cases_eq n place)
  where
    go : (n ≡ place) ⊎ (n ≡ place → ⊥) → nat_eq (n % 64) (place % 64) ≡ nat_eq n place
    go (inl f) = same_number (n % 64) (place % 64) (ap (λ (m : ℕ). m % 64) f) ∙ sym (same_number n place f)
    go (inr ne) = other_number (n % 64) (place % 64) (λ f. ne (omega arith)) ∙ sym (other_number n place ne)

-- a bit that is set
pub has_bit-set : (words : List ℕ) (place n : ℕ) → place < 64 * length words
    → has_bit (set words (place / 64) (bit_or (get_or words (place / 64) 0) (1 * 2 ^ (place % 64) % 2 ^ 64))) n ≡ (has_bit words n || nat_eq n place)
unfolding has_bit
has_bit-set words place n within = go (cases_eq (n / 64) (place / 64))
  where
    in_words : place / 64 < length words
    in_words = omega arith

    go : (n / 64 ≡ place / 64) ⊎ (n / 64 ≡ place / 64 → ⊥)
        → has_bit (set words (place / 64) (bit_or (get_or words (place / 64) 0) (1 * 2 ^ (place % 64) % 2 ^ 64))) n ≡ (has_bit words n || nat_eq n place)
    go (inl e) =
        let v = bit_or (get_or words (place / 64) 0) (1 * 2 ^ (place % 64) % 2 ^ 64) in
        ap (λ (x : ℕ). nat_eq (bit_at x (n % 64)) 1) (ap (λ (m : ℕ). get_or (set words (place / 64) v) m 0) e ∙ get_or-set_same words (place / 64) v 0 in_words)
        ∙ or_bit (get_or words (place / 64) 0) (place % 64) (n % 64) (omega arith)
        ∙ ap₂ (λ (x : ℕ) (t : Bool). nat_eq (bit_at x (n % 64)) 1 || t) (ap (λ (m : ℕ). get_or words m 0) (sym e)) (same_in_word n place e)
    go (inr ne) =
        let v = bit_or (get_or words (place / 64) 0) (1 * 2 ^ (place % 64) % 2 ^ 64) in
        ap (λ (x : ℕ). nat_eq (bit_at x (n % 64)) 1) (get_or-set_other words (place / 64) (n / 64) v 0 ne)
        ∙ sym (ap (λ (t : Bool). nat_eq (bit_at (get_or words (n / 64) 0) (n % 64)) 1 || t) (other_number n place (λ f. ne (ap (λ (m : ℕ). m / 64) f)))
        ∙ or_false (nat_eq (bit_at (get_or words (n / 64) 0) (n % 64)) 1))

-- a word of zeros more
get_or-push_zero : (words : List ℕ) (k : ℕ) → get_or (words ++ 0 ∷ []) k 0 ≡ get_or words k 0
get_or-push_zero [] zero = refl
get_or-push_zero [] (suc k) = refl
get_or-push_zero (w ∷ ws) zero = refl
get_or-push_zero (w ∷ ws) (suc k) = get_or-push_zero ws k

pub has_bit-push_zero : (words : List ℕ) (n : ℕ) → has_bit (words ++ 0 ∷ []) n ≡ has_bit words n
has_bit-push_zero words n = has_bit-same_word (words ++ 0 ∷ []) words n (get_or-push_zero words (n / 64))

-- ---- the crates of a row

pub has-members : (words : List ℕ) (c : Crate) → has_crate (members words) c ≡ has_bit words c.0
has-members words c = go (cases_lt c.0 (64 * length words))
  where
    go : (c.0 < 64 * length words) ⊎ (64 * length words ≤ c.0) → has_crate (members words) c ≡ has_bit words c.0
    go (inl lt) = has_within (has_bit words) 0 (64 * length words) c (omega arith) (omega arith)
    go (inr le) = has_above (has_bit words) 0 (64 * length words) c (omega arith) ∙ sym (has_bit-past words c.0 le)

pub IsAscending-members : (words : List ℕ) → IsAscending (members words)
IsAscending-members words = IsAscending-crates_from (has_bit words) 0 (64 * length words)

pub members-alike : (words others : List ℕ) → ((n : ℕ) → has_bit words n ≡ has_bit others n) → members words ≡ members others
members-alike words others same = ascending_alike (members words) (members others) (IsAscending-members words) (IsAscending-members others)
    (λ c. has-members words c ∙ same c.0 ∙ sym (has-members others c))

pub Gains-members : (old new : List ℕ) (test : ℕ → Bool) → ((n : ℕ) → has_bit new n ≡ (has_bit old n || test n)) → Gains (members old) (members new)
    (λ c. test c.0)
Gains-members old new test is = record {
  has = λ c. has-members new c ∙ is c.0 ∙ ap (λ (b : Bool). b || test c.0) (sym (has-members old c));
}

pub Gains-union : (old new others : List ℕ) → ((n : ℕ) → has_bit new n ≡ (has_bit old n || has_bit others n)) → Gains (members old) (members new)
    (has_crate (members others))
Gains-union old new others is = record {
  has = λ c. has-members new c ∙ is c.0 ∙ ap₂ (λ (a b : Bool). a || b) (sym (has-members old c)) (sym (has-members others c));
}

pub length-members : (words : List ℕ) → length words ≤ 67108864 → length (members words) ≤ 2 ^ 32
length-members words few = let h = length-crates_from (has_bit words) 0 (64 * length words) in omega arith

-- what holds anyway holds where a call fails
pub on_err : {T E : Type 0} (r : Result T E) {P : Type 0} → P → OnErr r P
on_err (Ok x) holds = tt
on_err (Err e) holds = holds
