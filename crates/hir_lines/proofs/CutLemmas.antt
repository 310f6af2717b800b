-- The lines of pieces, one after another.
use Rattle.std.proofs.Common.{◌≡◌, ◌≢◌, ℕ, suc, List, [], ◌∷◌, ◌++◌, Bool, true, false, refl, sym, ap, ◌∙◌, append_assoc, append-nil, arith}
use Rattle.std.specs.Prelude.{if◌then◌else◌, ◌==◌, fold}
use Rattle.std.proofs.lemmas.List.Sums.{fold-append}
use Rattle.std.proofs.lemmas.Bool.Decides.{nat_tests}
use Rattle.hir_lines.specs.Lines.{Cut, next_byte, cut_from, with_last, HasNoEnd}

abbrev pub onto : List (List ℕ) → Cut → Cut
onto ls k = (ls ++ k.0, k.1)

onto_twice : (ls ms : List (List ℕ)) (k : Cut) → onto (ls ++ ms) k ≡ onto ls (onto ms k)
onto_twice ls ms k = ap (λ front. let pair : Cut = (front, k.1) in pair) (append_assoc ls ms k.0)

abbrev Onto : List ℕ → Type 0
Onto ys = (ls : List (List ℕ)) (part : List ℕ) → fold next_byte (ls, part) ys ≡ onto ls (cut_from part ys)

cut_onto_at : (b : Bool) (ls : List (List ℕ)) (part : List ℕ) (y : ℕ) (ys : List ℕ) → Onto ys
    → fold next_byte (if b then (ls ++ part ∷ [], []) else (ls, part ++ y ∷ [])) ys
    ≡ onto ls (fold next_byte (if b then ([] ++ part ∷ [], []) else ([], part ++ y ∷ [])) ys)
cut_onto_at true ls part y ys rest = rest (ls ++ part ∷ []) [] ∙ onto_twice ls (part ∷ []) (cut_from [] ys) ∙ ap (onto ls) (sym (rest (part ∷ []) []))
cut_onto_at false ls part y ys rest = rest ls (part ++ y ∷ [])

-- what was cut before stays
cut_onto : (ys : List ℕ) → Onto ys
cut_onto [] ls part = ap (λ front. let pair : Cut = (front, part) in pair) (sym (append-nil ls))
cut_onto (y ∷ ys) ls part = cut_onto_at (y == 10) ls part y ys (cut_onto ys)

-- the lines of two pieces
pub cut_from-append : (part xs ys : List ℕ) → cut_from part (xs ++ ys) ≡ onto (cut_from part xs).0 (cut_from (cut_from part xs).1 ys)
cut_from-append part xs ys = fold-append next_byte ([], part) xs ys ∙ cut_onto ys (cut_from part xs).0 (cut_from part xs).1

cut_plain_at : (b : Bool) (part : List ℕ) (x : ℕ) (xs : List ℕ) → b ≡ false → ((p : List ℕ) → cut_from p xs ≡ ([], p ++ xs))
    → fold next_byte (if b then ([] ++ part ∷ [], []) else ([], part ++ x ∷ [])) xs ≡ ([], part ++ x ∷ xs)
cut_plain_at true part x xs plain rest = absurd (cc)
cut_plain_at false part x xs plain rest = rest (part ++ x ∷ []) ∙ ap (λ line. let pair : Cut = ([], line) in pair) (append_assoc part (x ∷ []) xs)

is_plain : (x : ℕ) → x ≢ 10 → (x == 10) ≡ false
is_plain x other = grind (arith, nat_tests)

-- a piece without a line end lengthens the line
pub cut_from-plain : (xs : List ℕ) → HasNoEnd xs → (part : List ℕ) → cut_from part xs ≡ ([], part ++ xs)
cut_from-plain [] plain part = ap (λ line. let pair : Cut = ([], line) in pair) (sym (append-nil part))
cut_from-plain (x ∷ xs) plain part =
    cut_plain_at (x == 10) part x xs (is_plain x (plain 0 (omega arith))) (cut_from-plain xs (λ k h. plain (suc k) (omega arith)))

-- a piece that ends with the line end closes the line
pub cut_from-ended : (xs : List ℕ) → HasNoEnd xs → (part : List ℕ) → cut_from part (xs ++ 10 ∷ []) ≡ ((part ++ xs) ∷ [], [])
cut_from-ended xs plain part = cut_from-append part xs (10 ∷ []) ∙ ap (λ k. onto k.0 (cut_from k.1 (10 ∷ []))) (cut_from-plain xs plain part)

pub with_last-nil : (ls : List (List ℕ)) (part : List ℕ) → with_last ls part ≡ ls ++ with_last [] part
with_last-nil ls [] = sym (append-nil ls)
with_last-nil ls (b ∷ bs) = refl
