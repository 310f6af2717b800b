-- Texts are in the order of their heads, where those differ, and else of their rests.
use Rattle.std.proofs.Common.{Ordering, Less, Equal, Greater, ◌≡◌, ℕ, zero, suc, ◌+◌, ◌*◌, ◌<◌, ◌≤◌, ◌%◌, Bool, true, false, List, [], ◌∷◌, get_or, drop}
use Rattle.std.proofs.Common.{length, min, refl, ap, sym}
use Rattle.std.proofs.Common.{◌∙◌, arith, subst, ◌≢◌}
use Rattle.std.specs.Prelude.{nat_eq}
use Rattle.std.specs.Cmp.Lexicographic.{pointwise, slice_cmp, bytes_decides}
use Rattle.std.specs.Ordering.{nat_cmp, ordering_then, ordering_reverse, MatchOrdering}
use Rattle.std.proofs.lemmas.Cmp.{nat_list_cmp_total, ranked, tied_itself}
use Rattle.std.proofs.Math.Nat.{min-le_left, min-le_right, min-eq_left, min-eq_right}
use Rattle.std.proofs.Math.Seq.{drop-nil}
use Rattle.hir_ids.specs.Head.{head_from, head_of, rest_of, AreBytes}

bytes_first : (b : ℕ) (bs : List ℕ) → AreBytes (b ∷ bs) → b < 256
unfolding AreBytes
bytes_first b bs all = all 0

bytes_rest : (b : ℕ) (bs : List ℕ) → AreBytes (b ∷ bs) → AreBytes bs
unfolding AreBytes
bytes_rest b bs all = λ i. all (suc i)

no_bytes : AreBytes []
unfolding AreBytes
no_bytes = λ i. omega arith

-- a head only grows with the bytes behind it
above_empty : (n low high : ℕ) (bs : List ℕ) → low ≤ high → head_from low n [] ≤ head_from high n bs
above_empty zero low high bs le = le
above_empty (suc n) low high [] le = above_empty n (low * 256) (high * 256) [] (omega arith)
above_empty (suc n) low high (b ∷ bs) le = above_empty n (low * 256) (high * 256 + b) bs (omega arith)

-- what was lower stays lower
still_lower : (n low high : ℕ) (xs ys : List ℕ) → AreBytes xs → low < high → head_from low n xs < head_from high n ys
still_lower zero low high xs ys all lt = lt
still_lower (suc n) low high [] [] all lt = still_lower n (low * 256) (high * 256) [] [] all (omega arith)
still_lower (suc n) low high [] (y ∷ ys) all lt = still_lower n (low * 256) (high * 256 + y) [] ys all (omega arith)
still_lower (suc n) low high (x ∷ xs) [] all lt =
    let byte = bytes_first x xs all in
    still_lower n (low * 256 + x) (high * 256) xs [] (bytes_rest x xs all) (omega arith)
still_lower (suc n) low high (x ∷ xs) (y ∷ ys) all lt =
    let byte = bytes_first x xs all in
    still_lower n (low * 256 + x) (high * 256 + y) xs ys (bytes_rest x xs all) (omega arith)

by_first : (x y : ℕ) (rest r : Ordering) → MatchOrdering r (x < y) (x ≡ y) (y < x) → (x ≡ y → rest ≡ Less) → (y < x → ordering_then r rest ≡ Less)
    → ordering_then r rest ≡ Less
by_first x y rest Less m same above = refl
by_first x y rest Equal m same above = same m
by_first x y rest Greater m same above = above m

below_from : (n head : ℕ) (xs ys : List ℕ) → AreBytes ys → head_from head n xs < head_from head n ys → slice_cmp nat_cmp xs ys ≡ Less
below_from zero head xs ys all lt = absurd (omega (arith, lt))
below_from (suc n) head [] [] all lt = below_from n (head * 256) [] [] all lt
below_from (suc n) head [] (y ∷ ys) all lt = refl
below_from (suc n) head (x ∷ xs) [] all lt =
    let le = above_empty n (head * 256) (head * 256 + x) xs (omega arith) in
    absurd (omega (arith, lt, le))
below_from (suc n) head (x ∷ xs) (y ∷ ys) all lt =
    by_first x y (slice_cmp nat_cmp xs ys) (nat_cmp x y) (ranked x y (nat_cmp x y) refl)
    (λ same. below_from n (head * 256 + y) xs ys (bytes_rest y ys all)
    (subst (λ (b : ℕ). head_from (head * 256 + b) n xs < head_from (head * 256 + y) n ys) same lt))
    (λ above.
    let higher = still_lower n (head * 256 + y) (head * 256 + x) ys xs (bytes_rest y ys all) (omega arith) in
    absurd (omega (arith, lt, higher)))

-- the text with the lower head is the lower one
pub below_by_head : (xs ys : List ℕ) → AreBytes ys → head_of xs < head_of ys → slice_cmp nat_cmp xs ys ≡ Less
unfolding head_of
below_by_head xs ys all lt = below_from 8 0 xs ys all lt

pub above_by_head : (xs ys : List ℕ) → AreBytes xs → head_of ys < head_of xs → slice_cmp nat_cmp xs ys ≡ Greater
above_by_head xs ys all lt = nat_list_cmp_total.antisymm xs ys ∙ ap ordering_reverse (below_by_head ys xs all lt)

-- texts with two heads are two texts
pub apart_by_head : (xs ys : List ℕ) → (head_of xs ≢ head_of ys) → pointwise nat_eq xs ys ≡ false
apart_by_head xs ys apart = by (pointwise nat_eq xs ys) refl
  where
    by : (same : Bool) → pointwise nat_eq xs ys ≡ same → same ≡ false
    by true is = absurd (apart (ap head_of ((bytes_decides xs ys).0 is)))
    by false is = refl

step : (n head : ℕ) (bs : List ℕ) (k : ℕ) → head_from head (suc n) (drop k bs) ≡ head_from (head * 256 + get_or bs k 0) n (drop (suc k) bs)
step n head [] zero = ap (λ h. head_from h n []) (omega arith)
step n head [] (suc k) = ap (λ h. head_from h n []) (omega arith)
step n head (b ∷ bs) zero = refl
step n head (b ∷ bs) (suc k) = step n head bs k

first : (bs : List ℕ) → head_from 0 8 bs ≡ head_from (get_or bs 0 0) 7 (drop 1 bs)
first bs =
    let same : 0 * 256 + get_or bs 0 0 ≡ get_or bs 0 0 = omega arith in
    step 7 0 bs 0 ∙ ap (λ (h : ℕ). head_from h 7 (drop 1 bs)) same

-- the head of a text, byte by byte
pub head_by_bytes : (bs : List ℕ) → head_of bs
    ≡ ((((((get_or bs 0 0 * 256 + get_or bs 1 0) * 256 + get_or bs 2 0) * 256 + get_or bs 3 0) * 256 + get_or bs 4 0) * 256
    + get_or bs 5 0) * 256 + get_or bs 6 0) * 256 + get_or bs 7 0
unfolding head_of
head_by_bytes bs = first bs ∙ step 6 _ bs 1 ∙ step 5 _ bs 2 ∙ step 4 _ bs 3 ∙ step 3 _ bs 4 ∙ step 2 _ bs 5 ∙ step 1 _ bs 6 ∙ step 0 _ bs 7

-- the seven bytes behind the head, byte by byte
pub rest_by_bytes : (bs : List ℕ) → head_from 0 7 (drop 8 bs)
    ≡ (((((get_or bs 8 0 * 256 + get_or bs 9 0) * 256 + get_or bs 10 0) * 256 + get_or bs 11 0) * 256 + get_or bs 12 0) * 256
    + get_or bs 13 0) * 256 + get_or bs 14 0
rest_by_bytes bs = ninth ∙ step 5 _ bs 9 ∙ step 4 _ bs 10 ∙ step 3 _ bs 11 ∙ step 2 _ bs 12 ∙ step 1 _ bs 13 ∙ step 0 _ bs 14
  where
    ninth : head_from 0 7 (drop 8 bs) ≡ head_from (get_or bs 8 0) 6 (drop 9 bs)
    ninth =
        let same : 0 * 256 + get_or bs 8 0 ≡ get_or bs 8 0 = omega arith in
        step 6 0 bs 8 ∙ ap (λ (h : ℕ). head_from h 6 (drop 9 bs)) same

-- a head of more bytes goes on from one of fewer
goes_on : (m n all head : ℕ) (bs : List ℕ) → all ≡ m + n → head_from head all bs ≡ head_from (head_from head m bs) n (drop m bs)
goes_on zero n all head [] is = let same : all ≡ n = omega (arith, is) in ap (λ (k : ℕ). head_from head k []) same
goes_on zero n all head (b ∷ bs) is = let same : all ≡ n = omega (arith, is) in ap (λ (k : ℕ). head_from head k (b ∷ bs)) same
goes_on (suc m) n zero head bs is = absurd (omega (arith, is))
goes_on (suc m) n (suc all) head [] is =
    goes_on m n all (head * 256) [] (omega (arith, is)) ∙ ap (head_from (head_from (head * 256) m []) n) (drop-nil m ∙ sym (drop-nil (suc m)))
goes_on (suc m) n (suc all) head (b ∷ bs) is = goes_on m n all (head * 256 + b) bs (omega (arith, is))

-- what stands before a head is added to it
parts_of_head : (n before head : ℕ) (bs : List ℕ) → head_from (before + head) n bs ≡ head_from before n [] + head_from head n bs
parts_of_head zero before head bs = refl
parts_of_head (suc n) before head [] =
    let same : (before + head) * 256 ≡ before * 256 + head * 256 = omega arith in
    ap (λ (h : ℕ). head_from h n []) same ∙ parts_of_head n (before * 256) (head * 256) []
parts_of_head (suc n) before head (b ∷ bs) =
    let same : (before + head) * 256 + b ≡ before * 256 + (head * 256 + b) = omega arith in
    ap (λ (h : ℕ). head_from h n bs) same ∙ parts_of_head n (before * 256) (head * 256 + b) bs

-- two heads that aren't one below the other are equal
neither : (a b : ℕ) → (a < b → ⊥) → (b < a → ⊥) → a ≡ b
neither a b not_below not_above = by_order (nat_cmp a b) (ranked a b (nat_cmp a b) refl)
  where
    by_order : (r : Ordering) → MatchOrdering r (a < b) (a ≡ b) (b < a) → a ≡ b
    by_order Less m = absurd (not_below m)
    by_order Equal m = m
    by_order Greater m = absurd (not_above m)

-- of equal heads the first bytes are equal
same_first : (n head x y : ℕ) (xs ys : List ℕ) → AreBytes (x ∷ xs) → AreBytes (y ∷ ys)
    → head_from (head * 256 + x) n xs ≡ head_from (head * 256 + y) n ys → x ≡ y
same_first n head x y xs ys mine its same = neither x y
    (λ below. let lower = still_lower n (head * 256 + x) (head * 256 + y) xs ys (bytes_rest x xs mine) (omega (arith, below)) in omega (arith, lower, same))
    (λ above. let lower = still_lower n (head * 256 + y) (head * 256 + x) ys xs (bytes_rest y ys its) (omega (arith, above)) in omega (arith, lower, same))

-- texts of one head and one length, no longer than the head, are one text
one_text : (n head : ℕ) (xs ys : List ℕ) → AreBytes xs → AreBytes ys → head_from head n xs ≡ head_from head n ys → length xs ≡ length ys
    → length xs ≤ n → xs ≡ ys
one_text n head [] [] mine its same long le = refl
one_text n head [] (y ∷ ys) mine its same long le = absurd (omega (arith, long))
one_text n head (x ∷ xs) [] mine its same long le = absurd (omega (arith, long))
one_text zero head (x ∷ xs) (y ∷ ys) mine its same long le = absurd (omega (arith, le))
one_text (suc n) head (x ∷ xs) (y ∷ ys) mine its same long le =
    let first_same = same_first n head x y xs ys mine its same in
    let behind = subst (λ (b : ℕ). head_from (head * 256 + x) n xs ≡ head_from (head * 256 + b) n ys) (sym first_same) same in
    ap (λ (b : ℕ). b ∷ xs) first_same
    ∙ ap (λ (bs : List ℕ). y ∷ bs) (one_text n (head * 256 + x) xs ys (bytes_rest x xs mine) (bytes_rest y ys its) behind (omega (arith, long))
    (omega (arith, le)))

-- of two texts of one head the shorter comes first, where it is no longer than the head
shorter_first : (n head : ℕ) (xs ys : List ℕ) → AreBytes xs → AreBytes ys → head_from head n xs ≡ head_from head n ys → length xs < length ys
    → length xs ≤ n → slice_cmp nat_cmp xs ys ≡ Less
shorter_first n head [] [] mine its same lt le = absurd (omega (arith, lt))
shorter_first n head [] (y ∷ ys) mine its same lt le = refl
shorter_first n head (x ∷ xs) [] mine its same lt le = absurd (omega (arith, lt))
shorter_first zero head (x ∷ xs) (y ∷ ys) mine its same lt le = absurd (omega (arith, le))
shorter_first (suc n) head (x ∷ xs) (y ∷ ys) mine its same lt le =
    let first_same = same_first n head x y xs ys mine its same in
    let behind = subst (λ (b : ℕ). head_from (head * 256 + x) n xs ≡ head_from (head * 256 + b) n ys) (sym first_same) same in
    by_first x y (slice_cmp nat_cmp xs ys) (nat_cmp x y) (ranked x y (nat_cmp x y) refl)
    (λ equal. shorter_first n (head * 256 + x) xs ys (bytes_rest x xs mine) (bytes_rest y ys its) behind (omega (arith, lt)) (omega (arith, le)))
    (λ above. absurd (omega (arith, above, first_same)))

-- the head of fifteen bytes is that of eight, and that of the seven behind it
fifteen : (bs : List ℕ) → head_from 0 15 bs ≡ head_from (head_of bs) 7 [] + head_from 0 7 (drop 8 bs)
unfolding head_of
fifteen bs =
    let same : head_from 0 8 bs ≡ head_from 0 8 bs + 0 = omega arith in
    goes_on 8 7 15 0 bs refl ∙ ap (λ (h : ℕ). head_from h 7 (drop 8 bs)) same ∙ parts_of_head 7 (head_from 0 8 bs) 0 (drop 8 bs)

-- a length that is capped below 16 is the length
uncapped : (length_of : ℕ) → min length_of 16 < 16 → min length_of 16 ≡ length_of
uncapped length_of lt = by_order (nat_cmp length_of 16) (ranked length_of 16 (nat_cmp length_of 16) refl)
  where
    by_order : (r : Ordering) → MatchOrdering r (length_of < 16) (length_of ≡ 16) (16 < length_of) → min length_of 16 ≡ length_of
    by_order Less m = min-eq_left (omega (arith, m))
    by_order Equal m = min-eq_left (omega (arith, m))
    by_order Greater m =
        let capped = min-eq_right {n = 16} {m = length_of} (omega (arith, m)) in
        absurd (omega (arith, capped, lt))

-- the text with the lower rest is the lower one
pub below_by_rest : (xs ys : List ℕ) → AreBytes xs → AreBytes ys → head_of xs ≡ head_of ys → rest_of xs < rest_of ys
    → slice_cmp nat_cmp xs ys ≡ Less
unfolding rest_of
below_by_rest xs ys mine its same lt = by_order (nat_cmp behind its_behind) (ranked behind its_behind (nat_cmp behind its_behind) refl)
  where
    behind : ℕ
    behind = head_from 0 7 (drop 8 xs)

    its_behind : ℕ
    its_behind = head_from 0 7 (drop 8 ys)

    before : head_from (head_of xs) 7 [] ≡ head_from (head_of ys) 7 []
    before = ap (λ (h : ℕ). head_from h 7 []) same

    cap : min (length xs) 16 ≤ 16
    cap = min-le_right (length xs) 16

    its_cap : min (length ys) 16 ≤ 16
    its_cap = min-le_right (length ys) 16

    its_length : min (length ys) 16 ≤ length ys
    its_length = min-le_left (length ys) 16

    by_order : (r : Ordering) → MatchOrdering r (behind < its_behind) (behind ≡ its_behind) (its_behind < behind) → slice_cmp nat_cmp xs ys ≡ Less
    by_order Less m = below_from 15 0 xs ys its (omega (arith, fifteen xs, fifteen ys, before, m))
    by_order Equal m =
        let long = uncapped (length xs) (omega (arith, lt, m, cap, its_cap)) in
        shorter_first 15 0 xs ys mine its (omega (arith, fifteen xs, fifteen ys, before, m))
        (omega (arith, lt, m, its_length, long)) (omega (arith, lt, m, its_cap, long))
    by_order Greater m = absurd (omega (arith, lt, m, cap, its_cap))

pub above_by_rest : (xs ys : List ℕ) → AreBytes xs → AreBytes ys → head_of xs ≡ head_of ys → rest_of ys < rest_of xs
    → slice_cmp nat_cmp xs ys ≡ Greater
above_by_rest xs ys mine its same lt =
    nat_list_cmp_total.antisymm xs ys ∙ ap ordering_reverse (below_by_rest ys xs its mine (sym same) lt)

-- texts of one head and one rest that are no longer than fifteen bytes are one text
pub same_by_rest : (xs ys : List ℕ) → AreBytes xs → AreBytes ys → head_of xs ≡ head_of ys → rest_of xs ≡ rest_of ys → rest_of xs % 256 < 16 → xs ≡ ys
unfolding rest_of
same_by_rest xs ys mine its same alike short =
    let cap = min-le_right (length xs) 16 in
    let its_cap = min-le_right (length ys) 16 in
    let before = ap (λ (h : ℕ). head_from h 7 []) same in
    let long = uncapped (length xs) (omega (arith, short, cap)) in
    let its_long = uncapped (length ys) (omega (arith, short, alike, cap, its_cap)) in
    one_text 15 0 xs ys mine its (omega (arith, fifteen xs, fifteen ys, before, alike, cap, its_cap))
    (omega (arith, alike, cap, its_cap, long, its_long)) (omega (arith, short, cap, long))

pub equal_by_rest : (xs ys : List ℕ) → AreBytes xs → AreBytes ys → head_of xs ≡ head_of ys → rest_of xs ≡ rest_of ys → rest_of xs % 256 < 16
    → slice_cmp nat_cmp xs ys ≡ Equal
equal_by_rest xs ys mine its same alike short =
    ap (λ (bs : List ℕ). slice_cmp nat_cmp bs ys) (same_by_rest xs ys mine its same alike short) ∙ tied_itself nat_list_cmp_total ys

pub alike_by_rest : (xs ys : List ℕ) → AreBytes xs → AreBytes ys → head_of xs ≡ head_of ys → rest_of xs ≡ rest_of ys → rest_of xs % 256 < 16
    → pointwise nat_eq xs ys ≡ true
alike_by_rest xs ys mine its same alike short = (bytes_decides xs ys).1 (same_by_rest xs ys mine its same alike short)

-- texts with two rests are two texts
pub apart_by_rest : (xs ys : List ℕ) → (rest_of xs ≢ rest_of ys) → pointwise nat_eq xs ys ≡ false
apart_by_rest xs ys apart = by (pointwise nat_eq xs ys) refl
  where
    by : (same : Bool) → pointwise nat_eq xs ys ≡ same → same ≡ false
    by true is = absurd (apart (ap rest_of ((bytes_decides xs ys).0 is)))
    by false is = refl
