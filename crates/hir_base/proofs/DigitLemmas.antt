-- What a dollar and a number at the beginning of a path's part mean.
use Rattle.std.proofs.Common.{◌≡◌, ◌≢◌, ◌<◌, ◌^◌, ◌==◌, ℕ, List, [], ◌∷◌, Bool, true, false, not, ◌&&◌, refl, sym, ap, drop, length, slice_index, nat_lt, subst}
use Rattle.std.proofs.Common.{arith, if◌then◌else◌, get_or}
use Rattle.std.proofs.lemmas.Bool.{eqb-true, cond-true, cond-false, false_from_ne_true, and_parts, and_from, lt-ltb, ltb-true, ne_eqb, not-true, not_from_false}
use Rattle.std.proofs.lemmas.Bool.Decides.{nat_tests}
use Rattle.std.proofs.lemmas.Str.Parse.{IsNumeralModel, numerals_by_value, tells_all_ascii_digits, parse_plain}
use Rattle.std.specs.Borrow.{Bor}
use Rattle.std.specs.Option.{MatchOption, option_copied}
use Rattle.std.specs.Prelude.{Option, Some, None, Result, Ok, Err}
use Rattle.std.specs.Result.{MatchResult}
use Rattle.std.specs.Str.{all_ascii_digits}
use Rattle.std.specs.Str.Parse.{ParsesUnsigned, digits_value}
use Rattle.hir_base.specs.ParsePath.{crate_of_digits}

-- a text without a leading dollar has no rest
no_dollar : (bs : List ℕ) → ((rest : List ℕ) → bs ≢ 36 ∷ rest)
    → None ≡ (if slice_index bs 0 == 36 then Some (drop 1 bs) else None)
no_dollar [] h = refl
no_dollar (b ∷ bs) h =
    sym (cond-false (b == 36) (Some bs) None (false_from_ne_true (b == 36) (λ e. h bs (ap (λ x. x ∷ bs) (eqb-true b 36 e)))))

-- what `strip_prefix` gives at a dollar
pub dollar_stripped : (bs : List ℕ) (r : Option (Bor (List ℕ)))
    → MatchOption r ((rest : List ℕ) → bs ≢ 36 ∷ rest) (λ x. bs ≡ 36 ∷ x.now)
    → option_copied r ≡ (if slice_index bs 0 == 36 then Some (drop 1 bs) else None)
dollar_stripped bs None h = no_dollar bs h
dollar_stripped bs (Some x) h =
    subst (λ (t : List ℕ). Some x.now ≡ (if slice_index t 0 == 36 then Some (drop 1 t) else None)) (sym h) refl

-- the digits that count are those of a decimal number
own : IsNumeralModel (λ ds. all_ascii_digits ds ≡ true) (digits_value 10)
own = numerals_by_value (λ ds. all_ascii_digits ds ≡ true) tells_all_ascii_digits

-- whether a text is a crate's number
abbrev is_number : List ℕ → Bool
is_number ds = not (length ds == 0) && all_ascii_digits ds && nat_lt (digits_value 10 ds) (2 ^ 32)

-- `parse` reads just the numbers of crates
pub digits_parsed : {E : Type 0} (bs : List ℕ) (r : Result ℕ E) → get_or bs 0 0 ≢ 43 → ParsesUnsigned 32 10 bs r
    → MatchResult r (λ n. Some (record { 0 = n }) ≡ crate_of_digits bs) (λ _. None ≡ crate_of_digits bs)
digits_parsed {E} bs (Ok n) plain h =
    let p : ((all_ascii_digits bs ≡ true) × (0 < length bs) × (digits_value 10 bs < 2 ^ 32)) × (n ≡ digits_value 10 bs) =
    parse_plain own {E = E} 32 bs (Ok n) h plain in
    let some : not (length bs == 0) ≡ true = not_from_false _ (ne_eqb (length bs) 0 (λ e. omega arith)) in
    let test : is_number bs ≡ true = and_from _ _ (and_from _ _ some p.0.0) (lt-ltb _ _ p.0.2) in
    rw p.1 (sym (cond-true (is_number bs) (Some (record { 0 = digits_value 10 bs })) None test))
digits_parsed {E} bs (Err e) plain h =
    let p : ¬ ((all_ascii_digits bs ≡ true) × (0 < length bs) × (digits_value 10 bs < 2 ^ 32)) = parse_plain own {E = E} 32 bs (Err e) h plain in
    let test : is_number bs ≡ false =
    false_from_ne_true _ (λ t.
    let front : (not (length bs == 0) && all_ascii_digits bs) ≡ true = (and_parts _ _ t).0 in
    let small : digits_value 10 bs < 2 ^ 32 = ltb-true _ _ (and_parts _ _ t).1 in
    let some : (length bs == 0) ≡ false = not-true _ (and_parts _ _ front).0 in
    let long : 0 < length bs = grind (arith, nat_tests) in
    p ((and_parts _ _ front).1, long, small)) in
    sym (cond-false (is_number bs) (Some (record { 0 = digits_value 10 bs })) None test)
