-- What is idle once slots are woken, and what it watches.
use Rattle.std.proofs.Common.{◌≡◌, sym, subst, ℕ, ◌==◌, true, false, List, Option, None, Some, refl}
use Rattle.std.specs.List.{All}
use Rattle.hir_nameres.specs.HirIds.contracts.ast_id.AstIdOrd.TheImpl.Laws.{total-law as item_total}
use Rattle.hir_nameres.specs.HirIds.declared.ast_id.AstId.{AstId}
use Rattle.hir_nameres.specs.contracts.nameres.path_resolution.slots.SlotOrd.TheImpl.Laws.{total-law as slot_total}
use Rattle.hir_nameres.specs.declared.nameres.path_resolution.slots.Slot.{Slot as PathSlot}
use Rattle.hir_worklist.proofs.Idle.{idle-woken}
use Rattle.hir_worklist.proofs.Settled.{IsUnread}
use Rattle.hir_worklist.specs.Moves.{Wakes}
use Rattle.hir_worklist.specs.Queue.{IsIdle, Queue}
use Rattle.hir_worklist.specs.Settling.{AreSettled, WatchesEach}
use Rattle.hir_import_resolution.specs.Inner.Queue.{KeepsWatched, WakesEach, slot_cmp}
use Rattle.hir_worklist.specs.Waking as waking
use Rattle.hir_worklist.specs.Waking.{IsSamePass, KeepsQueued}
use Rattle.hir_worklist.proofs.Passes.{pass_woken, queued_still, queued_woken, same_pass}
use Rattle.hir_worklist.proofs.Woken.{idle_each, itself, watched_apart, watched_still, woken_settled}
use Rattle.hir_import_rules.specs.Changed.{ChangedValue, IsThere, item_cmp}
use Rattle.hir_call_queue.specs.Waking.{AreWatching, GoesOn, IsWatching, IsWoken, KeepsItems, attributes_of, is_apart, watchers_of}
use Rattle.hir_call_queue.specs.Waking.{watches_item, worklist_of}
use Rattle.hir_call_queue.specs.declared.queue.CallQueue.{CallQueue}

pub goes_on_itself : (q : CallQueue) → GoesOn q q
goes_on_itself q = record { apart = refl; pass = same_pass (worklist_of q); queued = queued_still (worklist_of q) }

-- ---- what is idle

module _ (changed : ChangedValue) (old new : CallQueue) (on : GoesOn old new) where
  -- those that watch one of the slots are queued, and then those that watch one of the items
  pub woken_some : changed.all ≡ false → is_apart old ≡ true → (between : Queue) → WakesEach between (watchers_of new) (worklist_of old) (watchers_of old)
      changed.slots
      → waking.WakesEach item_cmp (worklist_of new) (attributes_of new) between (attributes_of old) changed.items → IsWoken changed old new
  woken_some some apart between each items = record {
    on = on;
    idle = λ p idle. idle_each slot_cmp between (watchers_of new) (worklist_of old) (watchers_of old) changed.slots each p (before p idle);
    watching = λ a seen watched. record { each = λ p idle other. (settled seen watched).watched.each p (before p idle) other };
    some = λ a p idle. some;
    untouched = λ a seen watched p idle slot has. record {
      some = some;
      other = λ among. ((settled seen watched).settled p (before p idle) (λ e. absurd cc)).unread slot among has;
    };
    items = λ a p idle item e. record {
      still = watched_still item_cmp item_total (worklist_of new) (attributes_of new) between (attributes_of old) changed.items items p idle item e;
      unhelped =
          record {
            some = some;
            other = watched_apart item_cmp item_total (worklist_of new) (attributes_of new) between (attributes_of old) changed.items items
                p idle item e;
          };
    };
    alone = λ a p idle. absurd (let no : ⊥ = cc in no);
  }
    where
      before : (p : ℕ) → IsIdle (worklist_of new) p → IsIdle between p
      before p idle = idle_each item_cmp (worklist_of new) (attributes_of new) between (attributes_of old) changed.items items p idle

      settled : (seen : ℕ → List PathSlot) → AreWatching seen old
          → AreSettled slot_cmp seen (IsUnread slot_cmp slot_total seen (λ (p : ℕ). Unit {0}) changed.slots) None between (watchers_of new)
      settled seen watched =
          woken_settled slot_cmp slot_total seen (λ (p : ℕ). Unit {0}) None between (watchers_of new) (worklist_of old) (watchers_of old) changed.slots each
          (record { watched = watched; settled = λ p idle other. tt })

  -- all are
  pub woken_all : ((p : ℕ) → ¬ IsIdle (worklist_of new) p) → IsWoken changed old new
  woken_all no_idle = record {
    on = on;
    idle = λ p idle. absurd (no_idle p idle);
    watching = λ a seen watched. record { each = λ p idle other. absurd (no_idle p idle) };
    some = λ a p idle. absurd (no_idle p idle);
    untouched = λ a seen watched p idle slot has. absurd (no_idle p idle);
    items = λ a p idle item e. absurd (no_idle p idle);
    alone = λ a p idle. no_idle p idle;
  }

-- ---- what a call watches

module _ (modules : ℕ) (slots : List PathSlot) (on_item : Option AstId) (i : ℕ) where
  -- where nothing is watched
  pub watching_nothing : (q : CallQueue) → is_apart q ≡ false → IsWatching modules slots on_item i q q
  watching_nothing q alone = record {
    on = goes_on_itself q;
    idle = λ p idle. idle;
    others = λ slot p e. e;
    each = λ a idle. absurd (let no : ⊥ = cc in no);
    there = λ a idle. absurd (let no : ⊥ = cc in no);
    other_items = λ item p e. e;
    on_its_item = λ a item e. absurd (let no : ⊥ = cc in no);
  }

  module _ (old new : CallQueue) (same : is_apart new ≡ is_apart old) (others : KeepsWatched (watchers_of old) (watchers_of new)) (other_items : KeepsItems (attributes_of old) (attributes_of new))
      (on_its_item : (item : AstId) → on_item ≡ Some item → watches_item (attributes_of new) item i ≡ true) where
    -- where all are there
    pub watching_each : worklist_of new ≡ worklist_of old → WatchesEach slot_cmp (watchers_of new) i slots → All (IsThere modules) slots
        → IsWatching modules slots on_item i old new
    watching_each stays each there = record {
      on = record {
        apart = same;
        pass = subst (IsSamePass (worklist_of old)) (sym stays) (same_pass (worklist_of old));
        queued = subst (KeepsQueued (worklist_of old)) (sym stays) (queued_still (worklist_of old));
      };
      idle = λ p idle. subst (λ (q : Queue). IsIdle q p) stays idle;
      others = others;
      each = λ a idle. each;
      there = λ a idle. there;
      other_items = other_items;
      on_its_item = λ a. on_its_item;
    }

    -- where one isn't, the call is queued
    pub watching_queued : Wakes (worklist_of old) (worklist_of new) (λ (p : ℕ). i == p) → IsWatching modules slots on_item i old new
    watching_queued wakes = record {
      on =
          record {
            apart = same;
            pass = pass_woken (worklist_of old) (worklist_of new) _ wakes;
            queued = queued_woken (worklist_of old) (worklist_of new) _
                wakes;
          };
      idle = λ p idle. (idle-woken (worklist_of old) (worklist_of new) _ p wakes idle).0;
      others = others;
      each = λ a idle. absurd (not_idle idle);
      there = λ a idle. absurd (not_idle idle);
      other_items = other_items;
      on_its_item = λ a. on_its_item;
    }
      where
        not_idle : IsIdle (worklist_of new) i → ⊥
        not_idle idle =
            let other : (i == i) ≡ false = (idle-woken (worklist_of old) (worklist_of new) _ i wakes idle).1 in
            let here : (i == i) ≡ true = itself i in
            cc
