-- How does what waits change?
use Rattle.std.specs.Prelude.{◌≡◌, ◌==◌, ℕ, ◌+◌, ◌≤◌, Bool, true, false, not, ◌&&◌, ◌||◌, [], ◌∷◌, ◌++◌, slice_set}
use Rattle.hir_worklist.specs.Queue.{Queue, count_of, is_ahead, is_among, is_queued, is_unfinished}

-- no things
abbrev pub empty_queue : Queue
empty_queue = record { finished = []; current = []; later = []; next = 0; end = 0 }

-- a thing is appended, for the next pass
pub record Appends (old new : Queue) : Type 0 where
  pub finished : new.finished ≡ old.finished ++ false ∷ []
  pub current : new.current ≡ old.current
  pub later : (p : ℕ) → is_among p new.later ≡ (is_among p old.later || count_of old == p)
  pub next : new.next ≡ old.next
  pub end : new.end ≡ old.end

-- a pass over what was to be taken in the next one
abbrev pub opened : Queue → Queue
opened q = record { finished = q.finished; current = q.later; later = []; next = 0; end = count_of q }

-- the least position of the pass is taken, of a thing that isn't finished, behind those that were taken before
pub record Takes (old new : Queue) (p : ℕ) : Type 0 where
  pub first : old.current ≡ p ∷ new.current
  pub least : (other : ℕ) → is_among other new.current ≡ true → p + 1 ≤ other
  pub ahead : is_ahead old p ≡ true
  pub unfinished : is_unfinished old p ≡ true
  pub left : is_queued new p ≡ false
  pub others : (other : ℕ) → is_among other new.current ≡ (is_among other old.current && not (p == other))
  pub later : new.later ≡ old.later
  pub finished : new.finished ≡ old.finished
  pub next : new.next ≡ p + 1
  pub end : new.end ≡ old.end

-- outside a pass
abbrev pub closed : Queue → Queue
closed q = record q { next = 0; end = 0 }

-- the chosen ones of the things that aren't finished are queued: in this pass where it has still to come to them, else in the next
pub record Wakes (old new : Queue) (chosen : ℕ → Bool) : Type 0 where
  pub current : (p : ℕ) → is_among p new.current ≡ (is_among p old.current || (chosen p && is_unfinished old p && is_ahead old p))
  pub later : (p : ℕ) → is_among p new.later ≡ (is_among p old.later || (chosen p && is_unfinished old p && not (is_ahead old p)))
  pub finished : new.finished ≡ old.finished
  pub next : new.next ≡ old.next
  pub end : new.end ≡ old.end

-- some of the chosen ones are
abbrev pub WakesSome : Queue → Queue → (ℕ → Bool) → Type 0
WakesSome old new chosen = (some : ℕ → Bool) × ((p : ℕ) → some p ≡ true → chosen p ≡ true) × Wakes old new some

-- a thing is finished, and queued no more
pub record Finishes (old new : Queue) (p : ℕ) : Type 0 where
  pub finished : new.finished ≡ slice_set old.finished p true
  pub current : (other : ℕ) → is_among other new.current ≡ (is_among other old.current && not (p == other))
  pub later : (other : ℕ) → is_among other new.later ≡ (is_among other old.later && not (p == other))
  pub next : new.next ≡ old.next
  pub end : new.end ≡ old.end
