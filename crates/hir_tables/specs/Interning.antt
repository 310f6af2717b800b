-- What does a value's number leave of the others?
use Rattle.std.specs.Prelude.{◌≡◌, ℕ, List, [], ◌∷◌, ◌++◌, length, Some, slice_get}
use Rattle.hir_base.specs.Locations.{max_locations}

-- some number means the value
abbrev pub HasNumber : {V : Type 0} → List V → V → Type 0
HasNumber values value = (number : ℕ) × (slice_get values number ≡ Some value)

-- the value had a number and nothing changes, or it gets the next one
pub data Interns {V : Type 0} (old new : List V) (value : V) : Type 0 where
  had_number : HasNumber old value → new ≡ old → Interns old new value
  gets_next : ¬ HasNumber old value → new ≡ old ++ value ∷ [] → Interns old new value

-- the value has no number, and there is none left for it
pub record IsFull {V : Type 0} (values : List V) (value : V) : Type 0 where
  pub absent : ¬ HasNumber values value
  pub full : length values ≡ max_locations

-- no two numbers mean the same
abbrev pub IsOnce : {V : Type 0} → List V → Type 0
IsOnce {V} values = (m n : ℕ) (value : V) → slice_get values m ≡ Some value → slice_get values n ≡ Some value → m ≡ n
