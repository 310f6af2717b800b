-- What is queued, and what is watched?
use Rattle.std.specs.Prelude.{◌≡◌, ℕ, Bool, true, false, List, Option, None, Some, Contains}
use Rattle.std.specs.List.{All}
use Rattle.hir_nameres.specs.HirIds.declared.ast_id.AstId.{AstId}
use Rattle.hir_nameres.specs.declared.nameres.path_resolution.slots.Slot.{Slot as PathSlot}
use Rattle.hir_worklist.specs.Queue.{IsIdle, Queue}
use Rattle.hir_worklist.specs.Settling.{AreWatched, WatchesEach}
use Rattle.hir_worklist.specs.Watching.{is_watching}
use Rattle.hir_worklist.specs.declared.watchers.Watchers.{Watchers}
use Rattle.hir_import_resolution.specs.Inner.Queue.{KeepsWatched, slot_cmp}
use Rattle.hir_worklist.specs.Waking as waking
use Rattle.hir_worklist.specs.Waking.{IsSamePass, KeepsQueued}
use Rattle.hir_call_queue.specs.declared.queue.CallQueue.{CallQueue}
use Rattle.hir_import_rules.specs.Changed.{ChangedValue, IsThere, IsUnhelped, IsUntouched, item_cmp}

-- the parts of a queue
abbrev pub is_apart : CallQueue → Bool
is_apart q = q.apart

abbrev pub worklist_of : CallQueue → Queue
worklist_of q = q.worklist

abbrev pub watchers_of : CallQueue → Watchers PathSlot
watchers_of q = q.watchers

abbrev pub attributes_of : CallQueue → Watchers AstId
attributes_of q = q.attributes

abbrev pub with_worklist : CallQueue → Queue → CallQueue
with_worklist q worklist = record q { worklist = worklist }

-- each call that is idle watches what it has seen
abbrev pub AreWatching : (ℕ → List PathSlot) → CallQueue → Type 0
AreWatching seen q = AreWatched slot_cmp seen None (worklist_of q) (watchers_of q)

-- ---- attributes, and the items that they stand on

-- whether the attribute at a place watches an item
abbrev pub watches_item : Watchers AstId → AstId → ℕ → Bool
watches_item attributes item p = is_watching item_cmp attributes item p

-- what watched an item watches it still
abbrev pub KeepsItems : Watchers AstId → Watchers AstId → Type 0
KeepsItems = waking.KeepsWatched item_cmp

-- an attribute that is idle watches the items that it watched, and no helper came into scope on one
pub record IsUnhelpedOn (changed : ChangedValue) (new : CallQueue) (p : ℕ) (item : AstId) : Type 0 where
  pub still : watches_item (attributes_of new) item p ≡ true
  pub unhelped : IsUnhelped changed item

-- ---- what is woken

-- a pass goes on where it was: what was to be taken in it is so still
pub record GoesOn (old new : CallQueue) : Type 0 where
  pub apart : is_apart new ≡ is_apart old
  pub pass : IsSamePass (worklist_of old) (worklist_of new)
  pub queued : KeepsQueued (worklist_of old) (worklist_of new)

-- the calls that have seen what may have changed are queued, and the attributes of items on which helpers came into scope; all where they watch nothing
pub record IsWoken (changed : ChangedValue) (old new : CallQueue) : Type 0 where
  pub on : GoesOn old new
  -- what is idle was idle
  pub idle : (p : ℕ) → IsIdle (worklist_of new) p → IsIdle (worklist_of old) p
  -- it watches what it watched, and has seen nothing that may have changed
  pub watching : is_apart old ≡ true → (seen : ℕ → List PathSlot) → AreWatching seen old → AreWatching seen new
  pub some : is_apart old ≡ true → (p : ℕ) → IsIdle (worklist_of new) p → changed.all ≡ false
  pub untouched : is_apart old ≡ true → (seen : ℕ → List PathSlot) → AreWatching seen old → (p : ℕ) → IsIdle (worklist_of new) p → (slot : PathSlot)
      → Contains (seen p) slot
      → IsUntouched changed slot
  pub items : is_apart old ≡ true → (p : ℕ) → IsIdle (worklist_of new) p → (item : AstId) → watches_item (attributes_of old) item p ≡ true
      → IsUnhelpedOn changed new p item
  pub alone : is_apart old ≡ false → (p : ℕ) → ¬ IsIdle (worklist_of new) p

-- a call watches slots, all of modules that are there, unless it is queued; an attribute besides the item that it stands on
pub record IsWatching (modules : ℕ) (slots : List PathSlot) (on_item : Option AstId) (i : ℕ) (old new : CallQueue) : Type 0 where
  pub on : GoesOn old new
  pub idle : (p : ℕ) → IsIdle (worklist_of new) p → IsIdle (worklist_of old) p
  -- what was watched is watched still
  pub others : KeepsWatched (watchers_of old) (watchers_of new)
  pub each : is_apart old ≡ true → IsIdle (worklist_of new) i → WatchesEach slot_cmp (watchers_of new) i slots
  pub there : is_apart old ≡ true → IsIdle (worklist_of new) i → All (IsThere modules) slots
  pub other_items : KeepsItems (attributes_of old) (attributes_of new)
  pub on_its_item : is_apart old ≡ true → (item : AstId) → on_item ≡ Some item → watches_item (attributes_of new) item i ≡ true
