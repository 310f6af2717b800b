-- What is queued where slots change, and what stays as it was?
use Rattle.std.specs.Prelude.{◌≡◌, ℕ, ◌<◌, true, List, [], ◌∷◌}
use Rattle.std.specs.declared.cmp.Ordering.{Ordering}
use Rattle.hir_worklist.specs.Moves.{Wakes}
use Rattle.hir_worklist.specs.Queue.{Queue, IsIdle, count_of, is_among, is_unfinished}
use Rattle.hir_worklist.specs.Watching.{Forgets, is_watching}
use Rattle.hir_worklist.specs.declared.watchers.Watchers.{Watchers}

-- things were appended, and are to be tried in the next pass
pub record IsLonger (q r : Queue) : Type 0 where
  -- what is idle was there, and was idle
  pub idle : (p : ℕ) → IsIdle r p → IsIdle q p
  -- where nothing was finished, nothing is
  pub unfinished : ((p : ℕ) → p < count_of q → is_unfinished q p ≡ true) → (p : ℕ) → p < count_of r → is_unfinished r p ≡ true
  pub current : r.current ≡ q.current
  pub end : r.end ≡ q.end

-- a queue has the same things, and its pass is where it was
pub record IsSamePass (q r : Queue) : Type 0 where
  pub finished : r.finished ≡ q.finished
  pub next : r.next ≡ q.next
  pub end : r.end ≡ q.end
  -- what is queued outside a pass waits for the next one
  pub outside : q.current ≡ [] → q.end ≡ 0 → r.current ≡ []

-- what was to be taken in a pass is so still
pub record KeepsQueued (q r : Queue) : Type 0 where
  pub still : (p : ℕ) → is_among p q.current ≡ true → is_among p r.current ≡ true

module _ {K : Type 0} (cmp : K → K → Ordering) where
  -- what watched a slot watches it still
  abbrev pub KeepsWatched : Watchers K → Watchers K → Type 0
  KeepsWatched old new = (slot : K) (p : ℕ) → is_watching cmp old slot p ≡ true → is_watching cmp new slot p ≡ true

  -- what watches each of these slots is queued, one slot after another, and watches it no more
  pub data WakesEach (r : Queue) (after : Watchers K) : Queue → Watchers K → List K → Type 0 where
    none : WakesEach r after r after []
    more : (q between : Queue) (watchers left : Watchers K) (slot : K) (slots : List K)
        → Wakes q between (is_watching cmp watchers slot) → Forgets cmp watchers left slot → WakesEach r after between left slots
        → WakesEach r after q watchers (slot ∷ slots)
