-- Which values have numbers in a table.
use Rattle.std.proofs.Common.{◌≡◌, ℕ, zero, suc, Bool, List, [], ◌∷◌, ◌++◌, Some, rules}
use Rattle.std.specs.List.{position}
use Rattle.std.proofs.lemmas.List.Quantifiers.{position-Some}
use Rattle.std.proofs.lemmas.Option.{slice_get-get_or}
use Rattle.hir_base.specs.Locations.{KeepsNumbers, IsNumberOf}

-- the first place at which a value passes has a value that passes
pub stored_at : {V : Type 0} (eq : V → V → Bool) (values : List V) (value : V) (number : ℕ)
    → position (eq value) values ≡ Some number → IsNumberOf eq values value number
stored_at eq [] value number found = search rules
stored_at eq (v ∷ vs) value number found =
    let at = position-Some (eq value) (v ∷ vs) number v found in
    (_, slice_get-get_or (v ∷ vs) number v at.0, at.1)

-- a value that is put behind the others leaves them their numbers
pub kept_by_append : {V : Type 0} (values : List V) (value : V) → KeepsNumbers values (values ++ value ∷ [])
kept_by_append [] value number stored at = search rules
kept_by_append (v ∷ vs) value zero stored at = at
kept_by_append (v ∷ vs) value (suc number) stored at = kept_by_append vs value number stored at
