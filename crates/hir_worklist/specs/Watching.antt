-- Which things watch a slot?
use Rattle.std.specs.Prelude.{◌≡◌, ◌==◌, ℕ, Bool, false, not, ◌&&◌, ◌||◌, Option, None, Some}
use Rattle.std.specs.declared.alloc.Global.{Global}
use Rattle.std.specs.declared.cmp.Ordering.{Ordering}
use Rattle.std.specs.declared.vec.Vec.{Vec}
use Rattle.std.specs.BTreeMap.{get, is_at}
use Rattle.hir_worklist.specs.declared.watchers.Watchers.{Watchers}
use Rattle.hir_worklist.specs.Queue.{is_among}

abbrev pub has_watcher : Option (Vec ℕ Global) → ℕ → Bool
has_watcher None p = false
has_watcher (Some positions) p = is_among p positions.items

module _ {K : Type 0} (cmp : K → K → Ordering) where
  -- whether the thing at a position watches a slot
  abbrev pub is_watching : Watchers K → K → ℕ → Bool
  is_watching watchers slot p = has_watcher (get cmp watchers.positions slot) p

  -- a thing watches a slot besides
  abbrev pub Watches : Watchers K → Watchers K → K → ℕ → Type 0
  Watches old new slot position = (other : K) (p : ℕ) → is_watching new other p ≡ (is_watching old other p || (is_at (cmp slot) other && position == p))

  -- nothing watches a slot any more
  abbrev pub Forgets : Watchers K → Watchers K → K → Type 0
  Forgets old new slot = (other : K) (p : ℕ) → is_watching new other p ≡ (is_watching old other p && not (is_at (cmp slot) other))

  abbrev pub IsSame : Watchers K → Watchers K → Type 0
  IsSame old new = (slot : K) (p : ℕ) → is_watching new slot p ≡ is_watching old slot p
