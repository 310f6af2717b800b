-- Which crates does a row of bits have?
use Rattle.std.specs.Prelude.{◌≡◌, ◌==◌, ℕ, ◌*◌, ◌/◌, ◌%◌, ◌<◌, ◌≤◌, Bool, true, false, List, length, slice_index}
use Rattle.std.specs.Int.{bit_at}
use Rattle.hir_ids.specs.declared.ids.Crate.{Crate}
use Rattle.hir_crate_graph.specs.CrateSet.{crates_below}

-- whether the bit at a place is set, 64 a word
unfoldable pub has_bit : List ℕ → ℕ → Bool
has_bit words place = bit_at (slice_index words (place / 64)) (place % 64) == 1

-- the crates whose bits are set
abbrev pub members : List ℕ → List Crate
members words = crates_below (has_bit words) (64 * length words)

-- the first place of a range at which a bit is set
pub record IsFirstBit (words : List ℕ) (from to place : ℕ) : Type 0 where
  pub from_on : from ≤ place
  pub below : place < to
  pub is_set : has_bit words place ≡ true
  pub others : (n : ℕ) → from ≤ n → n < place → has_bit words n ≡ false

-- the last place of a range at which a bit is set
pub record IsLastBit (words : List ℕ) (from to place : ℕ) : Type 0 where
  pub from_on : from ≤ place
  pub below : place < to
  pub is_set : has_bit words place ≡ true
  pub others : (n : ℕ) → place < n → n < to → has_bit words n ≡ false
