-- In which order does a walk meet the items of rows?
use Rattle.std.specs.Prelude.{◌≡◌, ℕ, List, [], ◌∷◌, ◌++◌, length, Some}
use Rattle.std.specs.List.{slice_get, range_with_len}
use Rattle.std.specs.List.Sorted.{IsPermutation}
use Rattle.hir_item_tree.specs.Rows.{RowValue, held_numbers, IsLaid}

-- a walk from some numbers meets those: of each number first itself, then what its row holds
pub data Meets (rows : List RowValue) : List ℕ → List ℕ → Type 0 where
  ends : Meets rows [] []
  goes_on : (n : ℕ) (r : RowValue) (ns inside beside : List ℕ) → slice_get rows n ≡ Some r
      → Meets rows (held_numbers r.content) inside → Meets rows ns beside → Meets rows (n ∷ ns) (n ∷ (inside ++ beside))

-- from some numbers there is one walk
abbrev pub WalksAreDetermined : Type 0
WalksAreDetermined = (rows : List RowValue) (ns met others : List ℕ) → Meets rows ns met → Meets rows ns others → met ≡ others

-- the walk from the top of rows that are laid out ends, and meets each row once
abbrev pub EachRowIsMetOnce : Type 0
EachRowIsMetOnce =
    (rows : List RowValue) (top : List ℕ) → IsLaid rows top
    → (met : List ℕ) × Meets rows top met × IsPermutation met (range_with_len 0 (length rows))
