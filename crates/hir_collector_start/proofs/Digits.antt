-- What `parse` reads is the number that digits write, perhaps behind a plus.
use Rattle.std.proofs.Common.{◌≡◌, ◌<◌, ◌^◌, ◌==◌, ℕ, List, Bool, true, false, not, ◌&&◌, sym, length, nat_lt, arith}
use Rattle.std.proofs.lemmas.Bool.{cond-true, cond-false, false_from_ne_true, and_parts, and_from, lt-ltb, ltb-true, ne_eqb, not-true, not_from_false}
use Rattle.std.proofs.lemmas.Bool.Decides.{nat_tests}
use Rattle.std.proofs.lemmas.Str.Parse.{IsNumeralModel, numerals_by_value, tells_all_ascii_digits}
use Rattle.std.specs.Prelude.{Some, None, Result, Ok, Err}
use Rattle.std.specs.Result.{result_ok}
use Rattle.std.specs.Str.{all_ascii_digits}
use Rattle.std.specs.Str.Parse.{ParsesUnsigned, digits_value, without_leading_plus}
use Rattle.hir_collector_rules.specs.CrateTop.{number_in}

-- the digits that count are those of a decimal number
own : IsNumeralModel (λ ds. all_ascii_digits ds ≡ true) (digits_value 10)
own = numerals_by_value (λ ds. all_ascii_digits ds ≡ true) tells_all_ascii_digits

-- whether digits write a number of 32 bits
abbrev is_number : List ℕ → Bool
is_number ds = not (length ds == 0) && all_ascii_digits ds && nat_lt (digits_value 10 ds) (2 ^ 32)

pub number_parsed : {E : Type 0} (text : List ℕ) (r : Result ℕ E) → ParsesUnsigned 32 10 text r → result_ok r ≡ number_in (without_leading_plus text)
number_parsed text (Ok n) h =
    let ds = without_leading_plus text in
    let some : not (length ds == 0) ≡ true = not_from_false _ (ne_eqb (length ds) 0 (λ e. omega (arith, h.0.0.0))) in
    let test : is_number ds ≡ true = and_from _ _ (and_from _ _ some (own.from ds h.0.0.1)) (lt-ltb _ _ h.0.1) in
    rw h.1 (sym (cond-true (is_number ds) (Some (digits_value 10 ds)) None test))
number_parsed text (Err e) h =
    let ds = without_leading_plus text in
    let test : is_number ds ≡ false =
    false_from_ne_true _ (λ t.
    let front : (not (length ds == 0) && all_ascii_digits ds) ≡ true = (and_parts _ _ t).0 in
    let small : digits_value 10 ds < 2 ^ 32 = ltb-true _ _ (and_parts _ _ t).1 in
    let some : (length ds == 0) ≡ false = not-true _ (and_parts _ _ front).0 in
    let long : 0 < length ds = grind (arith, nat_tests) in
    h ((long, own.to ds (and_parts _ _ front).1), small)) in
    sym (cond-false (is_number ds) (Some (digits_value 10 ds)) None test)
