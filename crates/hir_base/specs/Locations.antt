-- Which number does a value get?
use Rattle.std.specs.Prelude.{◌≡◌, ◌<◌, ℕ, Bool, true, false, List, [], ◌∷◌, ◌++◌, length, nat_lt, Result, Ok, Err, Some, if◌then◌else◌, slice_get, ◌||◌}
use Rattle.std.specs.List.{list_any, position_or_len}
use Rattle.hir_base.specs.declared.locations.LocationsError.{LocationsError}
use Rattle.hir_base.specs.declared.locations.LocationsError.TheVariants.{TooMany, Memory}

-- memory ran out
abbrev pub IsMemory : LocationsError → Type 0
IsMemory e = e ≡ Memory

-- the most values of a table
abbrev pub max_locations : ℕ
max_locations = 2147483647

-- the number of the first value that is equal, and without one the next number, as long as there is room
abbrev pub number_given : {V : Type 0} → (V → V → Bool) → List V → V → Result ℕ LocationsError
number_given eq values value =
    if list_any (eq value) values || nat_lt (length values) max_locations then Ok (position_or_len (eq value) values) else Err TooMany

-- the values by number once this one has a number
abbrev pub with_value : {V : Type 0} → (V → V → Bool) → List V → V → List V
with_value eq values value = if list_any (eq value) values then values else values ++ value ∷ []

-- the value has no number, and there is one for it
pub record NeedsRoom {V : Type 0} (eq : V → V → Bool) (values : List V) (value : V) : Type 0 where
  pub absent : list_any (eq value) values ≡ false
  pub below : length values < max_locations

-- each number that had a value still has it
abbrev pub KeepsNumbers : {V : Type 0} → List V → List V → Type 0
KeepsNumbers {V} old new = (number : ℕ) (value : V) → slice_get old number ≡ Some value → slice_get new number ≡ Some value

-- the number has a value that is equal to this one
abbrev pub IsNumberOf : {V : Type 0} → (V → V → Bool) → List V → V → ℕ → Type 0
IsNumberOf {V} eq values value number = (stored : V) × (slice_get values number ≡ Some stored) × (eq value stored ≡ true)
