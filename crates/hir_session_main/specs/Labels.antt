-- Which number stands behind a label in a text?
use Rattle.std.specs.Prelude.{◌≡◌, ℕ, ◌<◌, List, ◌++◌, drop}
use Rattle.std.specs.Char.{is_whitespace, is_not_whitespace}
use Rattle.std.specs.Str.{EmptyOrStartsWithPassing, NoCharPasses}
use Rattle.std.specs.Str.Parse.{IsNumeral, digits_value, without_leading_plus}
use Rattle.std.specs.Str.Pattern.{LacksTextAt}

-- the word behind the first place at which the label stands is the number
pub record StandsBehind (label text : List ℕ) (number : ℕ) : Type 0 where
  pub place : ℕ
  pub gap : List ℕ
  pub word : List ℕ
  pub rest : List ℕ
  pub stands : drop place text ≡ label ++ (gap ++ (word ++ rest))
  pub first : (i : ℕ) → i < place → LacksTextAt label text i
  pub white : NoCharPasses is_not_whitespace gap
  pub unbroken : NoCharPasses is_whitespace word
  pub ends : (more : List ℕ) × EmptyOrStartsWithPassing is_whitespace rest more
  pub numeral : IsNumeral 10 (without_leading_plus word)
  pub value : digits_value 10 (without_leading_plus word) ≡ number
