-- Which texts are names?
use Rattle.std.specs.Prelude.{◌≡◌, ◌≤◌, ℕ, Bool, true, not, ◌&&◌, ◌||◌, ◌==◌, nat_eq, List, length, slice_index, codes}
use Rattle.std.specs.Char.{is_whitespace}
use Rattle.std.specs.List.{list_any}
use Rattle.std.specs.Str.{chars}
use Rattle.std.specs.Cmp.Lexicographic.{pointwise}

-- whether two texts have the same bytes
abbrev pub same_text : List ℕ → List ℕ → Bool
same_text = pointwise nat_eq

-- no name has one of these characters: a colon, a slash, white space
abbrev pub ends_name : ℕ → Bool
ends_name c = c == 58 || c == 47 || is_whitespace c

-- the words that stand where a name could stand
abbrev pub is_path_word : List ℕ → Bool
is_path_word text = same_text text (codes "self") || same_text text (codes "super") || same_text text (codes "crate")
    || same_text text (codes "_") || same_text text (codes "*")

-- whether a text has the form of a name, however long it is
abbrev pub is_name : List ℕ → Bool
is_name text = not (length text == 0) && not (slice_index text 0 == 36) && not (is_path_word text) && not (list_any ends_name (chars text))

-- the most bytes of a name
abbrev pub max_name : ℕ
max_name = 1000

-- the texts that a `Name` can hold
abbrev pub IsName : List ℕ → Type 0
IsName text = (is_name text ≡ true) × (length text ≤ max_name)
