-- What waits, by position.
use Rattle.std.specs.Prelude.{◌≡◌, ℕ, ◌≤◌, Bool, true, false, not, ◌&&◌, ◌||◌, nat_le, nat_lt, List, length, slice_index_or}
use Rattle.std.specs.Ordering.{nat_cmp}
use Rattle.std.specs.BTreeMap.{is_at}
use Rattle.std.specs.List.{list_any}

-- things at the positions from 0 on, and a pass over them
pub record Queue : Type 0 where
  -- of each thing, whether it's never tried again
  pub finished : List Bool
  -- the positions that are still to be taken in the pass, ascending
  pub current : List ℕ
  -- those that are to be taken in the next pass, ascending
  pub later : List ℕ
  -- the first position that the pass has not reached
  pub next : ℕ
  -- where the pass ends: how many things there were when it began; 0 outside a pass
  pub end : ℕ

-- how many things there are
abbrev pub count_of : Queue → ℕ
count_of q = length q.finished

-- whether a position is among some
abbrev pub is_among : ℕ → List ℕ → Bool
is_among p positions = list_any (is_at (nat_cmp p)) positions

-- whether a thing is to be taken, in this pass or in the next
abbrev pub is_queued : Queue → ℕ → Bool
is_queued q p = is_among p q.current || is_among p q.later

-- whether there is a thing that isn't finished
abbrev pub is_unfinished : Queue → ℕ → Bool
is_unfinished q p = not (slice_index_or q.finished p true)

-- whether the pass has still to come to a position
abbrev pub is_ahead : Queue → ℕ → Bool
is_ahead q p = nat_le q.next p && nat_lt p q.end

-- a thing that is neither finished nor queued
pub record IsIdle (q : Queue) (p : ℕ) : Type 0 where
  pub unfinished : is_unfinished q p ≡ true
  pub not_queued : is_queued q p ≡ false

-- what is queued isn't finished; in this pass what it has still to come to, in the next anything else
pub record IsInOrder (q : Queue) : Type 0 where
  pub current_unfinished : (p : ℕ) → is_among p q.current ≡ true → is_unfinished q p ≡ true
  pub later_unfinished : (p : ℕ) → is_among p q.later ≡ true → is_unfinished q p ≡ true
  pub current_ahead : (p : ℕ) → is_among p q.current ≡ true → is_ahead q p ≡ true
  pub later_behind : (p : ℕ) → is_among p q.later ≡ true → is_ahead q p ≡ false
  pub within : q.end ≤ count_of q
