-- Into which lines is an input cut?
use Rattle.std.specs.Prelude.{◌≡◌, ◌≢◌, ℕ, ◌<◌, List, [], ◌∷◌, ◌++◌, length, slice_index, ◌==◌, if◌then◌else◌, fold}

-- ended lines, and what stands behind the last line end
abbrev pub Cut : Type 0
Cut = List (List ℕ) × List ℕ

-- a line end closes the line, and any other byte lengthens it
abbrev pub next_byte : Cut → ℕ → Cut
next_byte cut byte = if byte == 10 then (cut.0 ++ cut.1 ∷ [], []) else (cut.0, cut.1 ++ byte ∷ [])

-- the lines that end in some bytes, where a part of a line stands before them
abbrev pub cut_from : List ℕ → List ℕ → Cut
cut_from part bytes = fold next_byte ([], part) bytes

-- the lines that have their line end in the input
abbrev pub ended_lines : List ℕ → List (List ℕ)
ended_lines input = (cut_from [] input).0

-- what follows the last line end is a line too, unless nothing does
abbrev pub with_last : List (List ℕ) → List ℕ → List (List ℕ)
with_last lines [] = lines
with_last lines (byte ∷ bytes) = lines ++ (byte ∷ bytes) ∷ []

-- the lines of a whole input
abbrev pub lines_of : List ℕ → List (List ℕ)
lines_of input = with_last (ended_lines input) (cut_from [] input).1

-- no byte of a piece is a line end
abbrev pub HasNoEnd : List ℕ → Type 0
HasNoEnd bytes = (k : ℕ) → k < length bytes → slice_index bytes k ≢ 10

-- the bytes are a line, its end and more
pub record EndsLine (bytes line more : List ℕ) : Type 0 where
  pub plain : HasNoEnd line
  pub whole : bytes ≡ (line ++ 10 ∷ []) ++ more
