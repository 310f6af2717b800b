-- What is idle watches all that it has read.
use Rattle.std.specs.Prelude.{◌≡◌, ◌≢◌, ℕ, ◌<◌, true, List, [], Option, None, Some, Contains}
use Rattle.std.specs.List.{All}
use Rattle.std.specs.declared.cmp.Ordering.{Ordering}
use Rattle.hir_worklist.specs.declared.watchers.Watchers.{Watchers}
use Rattle.hir_worklist.specs.Queue.{Queue, IsIdle, count_of}
use Rattle.hir_worklist.specs.Moves.{Appends, Finishes, Takes, Wakes, closed, opened}
use Rattle.hir_worklist.specs.Watching.{Forgets, Watches, is_watching}

module _ {K : Type 0} (cmp : K → K → Ordering) where
  -- a thing watches each of these slots
  abbrev pub WatchesEach : Watchers K → ℕ → List K → Type 0
  WatchesEach watchers p slots = All (λ slot. is_watching cmp watchers slot p ≡ true) slots

  -- each idle thing, but one that is being tried, watches each slot that it reads
  pub record AreWatched (reads : ℕ → List K) (tried : Option ℕ) (q : Queue) (watchers : Watchers K) : Type 0 where
    pub each : (p : ℕ) → IsIdle q p → tried ≢ Some p → WatchesEach watchers p (reads p)

  -- so does it, and it's settled: to try it would do nothing
  pub record AreSettled (reads : ℕ → List K) (IsSettled : ℕ → Type 0) (tried : Option ℕ) (q : Queue) (watchers : Watchers K) : Type 0 where
    pub watched : AreWatched reads tried q watchers
    pub settled : (p : ℕ) → IsIdle q p → tried ≢ Some p → IsSettled p

  -- a thing is appended: it's queued, and the others read what they read
  abbrev pub AppendingKeepsWatched : Type 0
  AppendingKeepsWatched = (reads after : ℕ → List K) (tried : Option ℕ) (q r : Queue) (watchers : Watchers K)
      → AreWatched reads tried q watchers → Appends q r → ((p : ℕ) → p < count_of q → after p ≡ reads p) → AreWatched after tried r watchers

  -- a pass begins, and ends
  abbrev pub PassesKeepWatched : Type 0
  PassesKeepWatched = (reads : ℕ → List K) (tried : Option ℕ) (q : Queue) (watchers : Watchers K)
      → AreWatched reads tried q watchers → (q.current ≡ [] → AreWatched reads tried (opened q) watchers) × AreWatched reads tried (closed q) watchers

  -- a thing is taken: it's the one that is being tried
  abbrev pub TakingKeepsWatched : Type 0
  TakingKeepsWatched = (reads : ℕ → List K) (q r : Queue) (p : ℕ) (watchers : Watchers K)
      → AreWatched reads None q watchers → Takes q r p → AreWatched reads (Some p) r watchers

  -- a thing watches a slot besides
  abbrev pub WatchingKeepsWatched : Type 0
  WatchingKeepsWatched = (reads : ℕ → List K) (tried : Option ℕ) (q : Queue) (old new : Watchers K) (slot : K) (p : ℕ)
      → AreWatched reads tried q old → Watches cmp old new slot p → AreWatched reads tried q new

  -- what was tried watches each slot that it reads: nothing is being tried any more
  abbrev pub TriedAreWatched : Type 0
  TriedAreWatched = (reads : ℕ → List K) (q : Queue) (watchers : Watchers K) (p : ℕ)
      → AreWatched reads (Some p) q watchers → WatchesEach watchers p (reads p) → AreWatched reads None q watchers

  -- what was tried is finished
  abbrev pub FinishingKeepsWatched : Type 0
  FinishingKeepsWatched = (reads : ℕ → List K) (q r : Queue) (watchers : Watchers K) (p : ℕ)
      → AreWatched reads (Some p) q watchers → Finishes q r p → AreWatched reads None r watchers

  -- a slot changes, and what watched it is woken: what is idle afterwards was idle and doesn't read the slot
  abbrev pub WhatIsIdleDoesNotRead : Type 0
  WhatIsIdleDoesNotRead = (reads : ℕ → List K) (tried : Option ℕ) (q r : Queue) (watchers : Watchers K) (slot : K)
      → AreWatched reads tried q watchers → Wakes q r (is_watching cmp watchers slot)
      → (p : ℕ) → IsIdle r p → tried ≢ Some p → IsIdle q p × (¬ Contains (reads p) slot)

  -- and where nothing else has changed what it reads, it still watches that
  abbrev pub ChangesKeepWatched : Type 0
  ChangesKeepWatched = (reads after : ℕ → List K) (tried : Option ℕ) (q r : Queue) (old new : Watchers K) (slot : K)
      → AreWatched reads tried q old → Wakes q r (is_watching cmp old slot) → Forgets cmp old new slot
      → ((p : ℕ) → IsIdle r p → ¬ Contains (reads p) slot → after p ≡ reads p)
      → AreWatched after tried r new
