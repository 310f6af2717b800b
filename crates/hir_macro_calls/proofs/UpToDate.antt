-- A queue of calls stays up to date with a run.
use Rattle.std.proofs.Common.{◌≡◌, ◌≢◌, ◌∙◌, ◌==◌, ap, sym, refl, subst, ℕ, ◌<◌, ◌≤◌, Bool, true, false, List, [], length, slice_get, Option, None, Some}
use Rattle.std.proofs.Common.{Contains, cond, get_or, arith}
use Rattle.std.proofs.lemmas.Bool.Decides.{nat_tests}
use Rattle.std.proofs.lemmas.List.Elements.{All-contains_itself, All-nil}
use Rattle.std.specs.List.{All}
use Rattle.std.specs.Prelude.{not, slice_index_or}
use Rattle.hir_collector_state.specs.HirIds.declared.ast_id.AstId.{AstId}
use Rattle.hir_collector_state.specs.HirDefMapLaws.ReadLaw.{BeginsOutside}
use Rattle.hir_collector_state.specs.HirDefMapRules.Overlay.{Maps}
use Rattle.hir_collector_state.specs.HirDefMapRules.State.{CrateData, IsInOrder, Local, Map}
use Rattle.hir_collector_state.specs.HirNameres.declared.nameres.path_resolution.slots.Slot.{Slot as PathSlot}
use Rattle.hir_worklist.proofs.Idle.{idle-closed, idle-opened, idle-taken}
use Rattle.hir_worklist.specs.Moves.{Takes, closed, empty_queue, opened}
use Rattle.hir_worklist.specs.Queue.{IsIdle, Queue, count_of, is_unfinished}
use Rattle.hir_worklist.specs.Settling.{AreWatched, WatchesEach}
use Rattle.hir_worklist.proofs.Passes.{idle_below}
use Rattle.hir_import_resolution.specs.Inner.Queue.{KeepsWatched, slot_cmp}
use Rattle.hir_worklist.specs.Waking.{IsLonger}
use Rattle.hir_collector_state.specs.HirImportRules.Changed.{IsThere, IsUnhelped, IsUntouched}
use Rattle.hir_call_queue.specs.Waking.{AreWatching, IsUnhelpedOn, IsWatching, IsWoken, attributes_of, is_apart, watchers_of, watches_item, with_worklist}
use Rattle.hir_call_queue.specs.Waking.{worklist_of}
use Rattle.hir_call_queue.specs.declared.queue.CallQueue.{CallQueue}
use Rattle.hir_collector_state.specs.HirCollectorRules.declared.macro_directive.EagerMacro.{EagerMacro}
use Rattle.hir_collector_state.specs.HirCollectorRules.declared.macro_directive.Fate.TheVariants.{Handled, Waits}
use Rattle.hir_collector_state.specs.HirCollectorRules.declared.macro_directive.MacroDirective.{MacroDirective}
use Rattle.hir_collector_state.specs.HirCollectorRules.Calls.{IsWaiting, LacksMacro, LeadsNowhere, is_call, is_inert_now}
use Rattle.hir_collector_state.specs.HirCollectorRules.Keys.{Environment}
use Rattle.hir_collector_state.specs.HirCollectorRules.State.{Core, Run, at_rest, core_in, eager_at}
use Rattle.hir_collector_state.specs.HirCollectorRules.Steps.{Steps}
use Rattle.hir_collector_imports.specs.Waiting.{IsStale, IsUpToDate, KeepsWaiting, LiesApart, item_of}
use Rattle.hir_collector_state.specs.Waiting.{NotesSlots, ReadsInVain, StandsStill, is_helped, lacks_inner, reaches_none}
use Rattle.hir_collector_state.proofs.CallReads.{agree_itself, agree_later, inert_by_kind, modules_kept_itself, stands_nowhere}
use Rattle.hir_collector_state.proofs.Noted.{modules_kept_later, slots_follow, slots_same, there_later}
use Rattle.hir_collector_state.proofs.HirCollectorRules.Eager.{keeps_eager}
use Rattle.hir_collector_state.proofs.HirCollectorRules.Tried.{calls_longer, waiting_before}
use Rattle.hir_collector_imports.proofs.Outside.{apart-Steps}

-- ---- what a call has seen

-- what was read in vain was so where more is known of eager macros
pub vain_later : (finished : Maps) (local : Local) (m : Map) (few more : List EagerMacro) (d : MacroDirective) (seen : List PathSlot)
    → ((e : EagerMacro) → Contains few e → Contains more e) → ReadsInVain finished local m few d seen → ReadsInVain finished local m more d seen
vain_later finished local m few more d seen keeps (reaches_none nowhere read) = reaches_none nowhere read
vain_later finished local m few more d seen keeps (lacks_inner makro by path called known same among missing read) =
    lacks_inner makro by path called (keeps by known) same among missing read

-- it stands still as long as nothing of it is noted
stands_later : (finished : Maps) (before now : Run) (i : ℕ) (d : MacroDirective) (seen : List PathSlot) → NotesSlots before now → now.changed.all ≡ false
    → ((e : EagerMacro) → Contains (eager_at (core_in before) i) e → Contains (eager_at (core_in now) i) e)
    → ((slot : PathSlot) → Contains seen slot → IsUntouched now.changed slot) → StandsStill finished (core_in before) i d seen
    → StandsStill finished (core_in now) i d seen
unfolding core_in
stands_later finished before now i d seen noted some keeps untouched s = record {
  map = s.map;
  local = s.local;
  vain = vain_later finished s.local s.map (eager_at (core_in before) i) (eager_at (core_in now) i) d seen keeps s.vain;
  low = s.low;
  in_order = s.in_order;
  there = s.there;
  keeps = modules_kept_later s.map before.map now.map s.keeps (noted.keeps some);
  outside = s.outside;
  agree = λ n x l.
      let slot : PathSlot = get_or seen n x in
      agree_later s.map before.map now.map s.local before.local now.local slot (s.agree n x l)
      (noted.others slot (untouched slot (All-contains_itself seen n x l)) (there_later (length s.map.modules) (length before.map.modules) s.keeps.count slot
      (s.there n x l)));
}

-- a call that is tried in vain stands still
stands_now : (finished : Maps) (c : Core) (i : ℕ) (d : MacroDirective) (slots : List PathSlot) → BeginsOutside c.map.id c.local
    → ReadsInVain finished c.local c.map (eager_at c i) d slots
    → d.site.home < length c.map.modules → IsInOrder c.map
    → All (IsThere (length c.map.modules)) slots → StandsStill finished c i d slots
stands_now finished c i d slots outside vain low in_order there = record {
  map = c.map;
  local = c.local;
  vain = vain;
  low = low;
  in_order = in_order;
  there = there;
  keeps = modules_kept_itself c.map;
  outside = outside;
  agree = λ n x l. agree_itself c.map c.local (get_or slots n x);
}

-- ---- what one call has seen, and what the others

-- these slots for one call, and for each other what it had
abbrev seen_with : ℕ → List PathSlot → (ℕ → List PathSlot) → ℕ → List PathSlot
seen_with i slots seen p = cond (i == p) slots (seen p)

same_place : (i p : ℕ) → (i == p) ≡ true → i ≡ p
same_place i p e = grind (arith, nat_tests)

other_place : (i p : ℕ) → (i == p) ≡ false → Some i ≢ Some p
other_place i p e same = let here : i ≡ p = cc in grind (arith, nat_tests)

-- each idle call watches what it has seen, one that is tried aside; and that one watches these
watched_with : (i : ℕ) (slots : List PathSlot) (seen : ℕ → List PathSlot) (q r : CallQueue) → AreWatched slot_cmp seen (Some i) (worklist_of q) (watchers_of q)
    → ((p : ℕ) → IsIdle (worklist_of r) p → IsIdle (worklist_of q) p) → KeepsWatched (watchers_of q) (watchers_of r)
    → (IsIdle (worklist_of r) i → WatchesEach slot_cmp (watchers_of r) i slots)
    → AreWatching (seen_with i slots seen) r
watched_with i slots seen q r watched idle others each = record { each = λ p rests none. go p (i == p) refl rests }
  where
    go : (p : ℕ) (b : Bool) → (i == p) ≡ b → IsIdle (worklist_of r) p → WatchesEach slot_cmp (watchers_of r) p (cond b slots (seen p))
    go p true e rests = subst (λ (k : ℕ). IsIdle (worklist_of r) k → WatchesEach slot_cmp (watchers_of r) k slots) (same_place i p e) each rests
    go p false e rests = λ n x l. others (get_or (seen p) n x) p (watched.each p (idle p rests) (other_place i p e) n x l)

-- ---- changes of a run

-- a call that waits had seen this before, and stood still
record Remains (finished : Maps) (q : CallQueue) (before now : Run) : Type 0 where
  seen : ℕ → List PathSlot
  watched : is_apart q ≡ true → AreWatching seen q
  stands : is_apart q ≡ true → (p : ℕ) (d : MacroDirective) → IsIdle (worklist_of q) p → IsWaiting (at_rest (core_in now)) p d
      → StandsStill finished (core_in before) p d (seen p)
  on_items : is_apart q ≡ true → (p : ℕ) (d : MacroDirective) → IsIdle (worklist_of q) p → IsWaiting (at_rest (core_in now)) p d → (item : AstId) → item_of d
      ≡ Some item
      → watches_item (attributes_of q) item p ≡ true
  shallow : (p : ℕ) (d : MacroDirective) → IsIdle (worklist_of q) p → IsWaiting (at_rest (core_in now)) p d → is_call d ≡ true
      → d.site.level < (core_in before).map.crate_data.recursion_limit
  active : (p : ℕ) (d : MacroDirective) → IsIdle (worklist_of q) p → IsWaiting (at_rest (core_in now)) p d → is_inert_now (core_in before).map d ≡ false
  unfinished : (p : ℕ) → p < count_of (worklist_of q) → is_unfinished (worklist_of q) p ≡ true
  count : count_of (worklist_of q) ≤ length (core_in before).calls

module _ (finished : Maps) (q : CallQueue) (before now : Run) (waits : KeepsWaiting (core_in before) (core_in now)) where
  -- an idle call is there
  inside_of : count_of (worklist_of q) ≤ length (core_in before).calls → (p : ℕ) → IsIdle (worklist_of q) p → p < length (core_in before).calls
  inside_of count p idle = let inside : p < count_of (worklist_of q) = idle_below (worklist_of q) p idle in omega (arith, inside, count)

  remains_all : IsUpToDate finished q (core_in before) None → Remains finished q before now
  remains_all up = record {
    seen = up.seen;
    watched = up.watched;
    stands = λ a p d idle waiting. up.stands a p d idle (λ none. absurd cc) (waits.before p d (inside_of up.count p idle) waiting);
    on_items = λ a p d idle waiting. up.on_items a p d idle (λ none. absurd cc) (waits.before p d (inside_of up.count p idle) waiting);
    shallow = λ p d idle waiting. up.shallow p d idle (λ none. absurd cc) (waits.before p d (inside_of up.count p idle) waiting);
    active = λ p d idle waiting. up.active p d idle (λ none. absurd cc) (waits.before p d (inside_of up.count p idle) waiting);
    unfinished = up.unfinished;
    count = up.count;
  }

  -- where one was tried that waits no more
  remains_but : (i : ℕ) → IsUpToDate finished q (core_in before) (Some i) → ((d : MacroDirective) → ¬ IsWaiting (at_rest (core_in now)) i d)
      → Remains finished q before now
  remains_but i up over = record {
    seen = seen_with i [] up.seen;
    watched = λ a. watched_with i [] up.seen q q (up.watched a) (λ p idle. idle) (λ slot p e. e) (λ idle. All-nil (λ slot. _));
    stands = λ a p d idle waiting. go a p d (i == p) refl idle waiting;
    on_items = λ a p d idle waiting. on_items a p d (i == p) refl idle waiting;
    shallow = λ p d idle waiting. low p d (i == p) refl idle waiting;
    active = λ p d idle waiting. active p d (i == p) refl idle waiting;
    unfinished = up.unfinished;
    count = up.count;
  }
    where
      on_items : is_apart q ≡ true → (p : ℕ) (d : MacroDirective) (b : Bool) → (i == p) ≡ b → IsIdle (worklist_of q) p → IsWaiting (at_rest (core_in now)) p d
          → (item : AstId) → item_of d ≡ Some item
          → watches_item (attributes_of q) item p ≡ true
      on_items a p d true e idle waiting = absurd (over d (subst (λ (k : ℕ). IsWaiting (at_rest (core_in now)) k d) (sym (same_place i p e)) waiting))
      on_items a p d false e idle waiting = up.on_items a p d idle (other_place i p e) (waits.before p d (inside_of up.count p idle) waiting)

      low : (p : ℕ) (d : MacroDirective) (b : Bool) → (i == p) ≡ b → IsIdle (worklist_of q) p → IsWaiting (at_rest (core_in now)) p d → is_call d ≡ true
          → d.site.level < (core_in before).map.crate_data.recursion_limit
      low p d true e idle waiting = absurd (over d (subst (λ (k : ℕ). IsWaiting (at_rest (core_in now)) k d) (sym (same_place i p e)) waiting))
      low p d false e idle waiting = up.shallow p d idle (other_place i p e) (waits.before p d (inside_of up.count p idle) waiting)

      active : (p : ℕ) (d : MacroDirective) (b : Bool) → (i == p) ≡ b → IsIdle (worklist_of q) p → IsWaiting (at_rest (core_in now)) p d
          → is_inert_now (core_in before).map d ≡ false
      active p d true e idle waiting = absurd (over d (subst (λ (k : ℕ). IsWaiting (at_rest (core_in now)) k d) (sym (same_place i p e)) waiting))
      active p d false e idle waiting = up.active p d idle (other_place i p e) (waits.before p d (inside_of up.count p idle) waiting)

      go : is_apart q ≡ true → (p : ℕ) (d : MacroDirective) (b : Bool) → (i == p) ≡ b → IsIdle (worklist_of q) p → IsWaiting (at_rest (core_in now)) p d
          → StandsStill finished (core_in before) p d (cond b [] (up.seen p))
      go a p d true e idle waiting = absurd (over d (subst (λ (k : ℕ). IsWaiting (at_rest (core_in now)) k d) (sym (same_place i p e)) waiting))
      go a p d false e idle waiting = up.stands a p d idle (other_place i p e) (waits.before p d (inside_of up.count p idle) waiting)

-- what has read what has changed is queued
module _ (finished : Maps) (q r : CallQueue) (before now : Run) (noted : NotesSlots before now) (waits : KeepsWaiting (core_in before) (core_in now))
    (woken : IsWoken now.changed q r) (apart : LiesApart finished r (core_in now)) where
  was_apart : is_apart r ≡ true → is_apart q ≡ true
  was_apart a = sym woken.on.apart ∙ a

  module _ (m : Remains finished q before now) where
    still : is_apart r ≡ true → (p : ℕ) (d : MacroDirective) → IsIdle (worklist_of r) p → IsWaiting (at_rest (core_in now)) p d
        → StandsStill finished (core_in now) p d (m.seen p)
    still a p d idle waiting =
        stands_later finished before now p d (m.seen p) noted (woken.some (was_apart a) p idle) (waits.eager p)
        (λ slot has. woken.untouched (was_apart a) m.seen (m.watched (was_apart a)) p idle slot has)
        (m.stands (was_apart a) p d (woken.idle p idle) waiting)

    nowhere_now : (p : ℕ) (d : MacroDirective) → IsIdle (worklist_of r) p → IsWaiting (at_rest (core_in now)) p d → LacksMacro finished (core_in now) p d
    nowhere_now p d idle waiting = go (is_apart r) refl
      where
        go : (b : Bool) → is_apart r ≡ b → LacksMacro finished (core_in now) p d
        go true a =
            stands_nowhere finished (core_in now) p d (m.seen p) (still a p d idle waiting) (apart a).apart
        go false a = absurd (woken.alone (sym woken.on.apart ∙ a) p idle)

    same_limit : now.changed.all ≡ false → (core_in now).map.crate_data.recursion_limit ≡ (core_in before).map.crate_data.recursion_limit
    unfolding core_in
    same_limit some = ap (λ (x : CrateData). x.recursion_limit) (noted.keeps some).crate_data

    shallow_now : (p : ℕ) (d : MacroDirective) → IsIdle (worklist_of r) p → IsWaiting (at_rest (core_in now)) p d → is_call d ≡ true
        → d.site.level < (core_in now).map.crate_data.recursion_limit
    shallow_now p d idle waiting call = go (is_apart r) refl
      where
        go : (b : Bool) → is_apart r ≡ b → d.site.level < (core_in now).map.crate_data.recursion_limit
        go true a =
            let same = same_limit (woken.some (was_apart a) p idle) in let before_low = m.shallow p d (woken.idle p idle) waiting call
            in omega (arith, same, before_low)
        go false a = absurd (woken.alone (sym woken.on.apart ∙ a) p idle)

    same_helper : (node : AstId) (name : List ℕ) → IsUnhelped now.changed node → is_helped (core_in now).map node name ≡ is_helped (core_in before).map node
        name
    unfolding core_in
    same_helper node name e = noted.helpers node name e

    -- an attribute watches the item that it stands on, and no helper came into scope there
    unhelped : is_apart r ≡ true → (p : ℕ) (d : MacroDirective) → IsIdle (worklist_of r) p → IsWaiting (at_rest (core_in now)) p d → (item : AstId) → item_of d
        ≡ Some item → IsUnhelpedOn now.changed r p item
    unhelped a p d idle waiting item is = woken.items (was_apart a) p idle item (m.on_items (was_apart a) p d (woken.idle p idle) waiting item is)

    inert_alike : is_apart r ≡ true → (p : ℕ) (d : MacroDirective) → IsIdle (worklist_of r) p → IsWaiting (at_rest (core_in now)) p d
        → is_inert_now (core_in now).map d ≡ is_inert_now (core_in before).map d
    inert_alike a p d idle waiting =
        inert_by_kind (core_in before).map (core_in now).map d.ast_id d.kind
        (λ item is name. same_helper item name (unhelped a p d idle waiting item is).unhelped)

    active_now : (p : ℕ) (d : MacroDirective) → IsIdle (worklist_of r) p → IsWaiting (at_rest (core_in now)) p d → is_inert_now (core_in now).map d ≡ false
    active_now p d idle waiting = go (is_apart r) refl
      where
        go : (b : Bool) → is_apart r ≡ b → is_inert_now (core_in now).map d ≡ false
        go true a = inert_alike a p d idle waiting ∙ m.active p d (woken.idle p idle) waiting
        go false a = absurd (woken.alone (sym woken.on.apart ∙ a) p idle)

    up_to_date_by : IsUpToDate finished r (core_in now) None
    up_to_date_by = record {
      seen = m.seen;
      watched = λ a. woken.watching (was_apart a) m.seen (m.watched (was_apart a));
      stands = λ a p d idle other waiting. still a p d idle waiting;
      on_items = λ a p d idle other waiting item is. (unhelped a p d idle waiting item is).still;
      shallow = λ p d idle other waiting. shallow_now p d idle waiting;
      active = λ p d idle other waiting. active_now p d idle waiting;
      nowhere = λ p d idle other waiting. nowhere_now p d idle waiting;
      unfinished = λ p below.
          ap (λ (f : List Bool). not (slice_index_or f p true)) woken.on.pass.finished
          ∙ m.unfinished p (subst (λ (f : List Bool). p < length f) woken.on.pass.finished below);
      count =
          let same : count_of (worklist_of r) ≡ count_of (worklist_of q) = ap (λ (f : List Bool). length f) woken.on.pass.finished
          in omega (arith, same, m.count, waits.longer);
    }

  pub up_to_date_again : IsUpToDate finished q (core_in before) None → IsUpToDate finished r (core_in now) None
  up_to_date_again up = up_to_date_by (remains_all finished q before now waits up)

  pub up_to_date_handled : (i : ℕ) → IsUpToDate finished q (core_in before) (Some i) → ((d : MacroDirective) → ¬ IsWaiting (at_rest (core_in now)) i d)
      → IsUpToDate finished r (core_in now) None
  up_to_date_handled i up over = up_to_date_by (remains_but finished q before now waits i up over)

-- ---- tries in vain

module _ (finished : Maps) (q r : CallQueue) (c : Core) (i : ℕ) (up : IsUpToDate finished q c (Some i)) where
  -- one that doesn't wait any more
  pub up_to_date_over : ((d : MacroDirective) → ¬ IsWaiting (at_rest c) i d) → IsUpToDate finished q c None
  up_to_date_over over = record {
    seen = seen_with i [] up.seen;
    watched = λ a. watched_with i [] up.seen q q (up.watched a) (λ p idle. idle) (λ slot p e. e) (λ idle. All-nil (λ slot. _));
    stands = λ a p d idle other waiting. stands a p d (i == p) refl idle waiting;
    on_items = λ a p d idle other waiting. on_items a p d (i == p) refl idle waiting;
    shallow = λ p d idle other waiting. shallow p d (i == p) refl idle waiting;
    nowhere = λ p d idle other waiting. nowhere p d (i == p) refl idle waiting;
    active = λ p d idle other waiting. active p d (i == p) refl idle waiting;
    unfinished = up.unfinished;
    count = up.count;
  }
    where
      on_items : is_apart q ≡ true → (p : ℕ) (d : MacroDirective) (b : Bool) → (i == p) ≡ b → IsIdle (worklist_of q) p → IsWaiting (at_rest c) p d
          → (item : AstId) → item_of d ≡ Some item
          → watches_item (attributes_of q) item p ≡ true
      on_items a p d true e idle waiting = absurd (over d (subst (λ (k : ℕ). IsWaiting (at_rest c) k d) (sym (same_place i p e)) waiting))
      on_items a p d false e idle waiting = up.on_items a p d idle (other_place i p e) waiting

      shallow : (p : ℕ) (d : MacroDirective) (b : Bool) → (i == p) ≡ b → IsIdle (worklist_of q) p → IsWaiting (at_rest c) p d → is_call d ≡ true
          → d.site.level < c.map.crate_data.recursion_limit
      shallow p d true e idle waiting = absurd (over d (subst (λ (k : ℕ). IsWaiting (at_rest c) k d) (sym (same_place i p e)) waiting))
      shallow p d false e idle waiting = up.shallow p d idle (other_place i p e) waiting

      stands : is_apart q ≡ true → (p : ℕ) (d : MacroDirective) (b : Bool) → (i == p) ≡ b → IsIdle (worklist_of q) p → IsWaiting (at_rest c) p d
          → StandsStill finished c p d (cond b [] (up.seen p))
      stands a p d true e idle waiting = absurd (over d (subst (λ (k : ℕ). IsWaiting (at_rest c) k d) (sym (same_place i p e)) waiting))
      stands a p d false e idle waiting = up.stands a p d idle (other_place i p e) waiting

      nowhere : (p : ℕ) (d : MacroDirective) (b : Bool) → (i == p) ≡ b → IsIdle (worklist_of q) p → IsWaiting (at_rest c) p d → LacksMacro finished c p d
      nowhere p d true e idle waiting = absurd (over d (subst (λ (k : ℕ). IsWaiting (at_rest c) k d) (sym (same_place i p e)) waiting))
      nowhere p d false e idle waiting = up.nowhere p d idle (other_place i p e) waiting

      active : (p : ℕ) (d : MacroDirective) (b : Bool) → (i == p) ≡ b → IsIdle (worklist_of q) p → IsWaiting (at_rest c) p d → is_inert_now c.map d ≡ false
      active p d true e idle waiting = absurd (over d (subst (λ (k : ℕ). IsWaiting (at_rest c) k d) (sym (same_place i p e)) waiting))
      active p d false e idle waiting = up.active p d idle (other_place i p e) waiting

  -- one that reaches no macro, and watches what it has read
  pub up_to_date_watched : (d : MacroDirective) (slots : List PathSlot) → LiesApart finished q c → IsWaiting (at_rest c) i d
      → LeadsNowhere finished (at_rest c) i → ReadsInVain finished c.local c.map (eager_at c i) d slots
      → d.site.home < length c.map.modules → IsInOrder c.map
      → IsWatching (length c.map.modules) slots (item_of d) i q r → IsUpToDate finished r c None
  up_to_date_watched d slots apart here nowhere_here vain low in_order watching = record {
    seen = seen_with i slots up.seen;
    watched = λ a. watched_with i slots up.seen q r (up.watched (was a)) watching.idle watching.others (watching.each (was a));
    stands = λ a p e idle other waiting. stands a p e (i == p) refl idle waiting;
    on_items = λ a p e idle other waiting. on_items a p e (i == p) refl idle waiting;
    shallow = λ p e idle other waiting. shallow p e (i == p) refl idle waiting;
    nowhere = λ p e idle other waiting. nowhere p e (i == p) refl idle waiting;
    active = λ p e idle other waiting. active p e (i == p) refl idle waiting;
    unfinished = λ p below.
        ap (λ (f : List Bool). not (slice_index_or f p true)) watching.on.pass.finished
        ∙ up.unfinished p (subst (λ (f : List Bool). p < length f) watching.on.pass.finished below);
    count =
        let same : count_of (worklist_of r) ≡ count_of (worklist_of q) = ap (λ (f : List Bool). length f) watching.on.pass.finished
        in omega (arith, same, up.count);
  }
    where
      was : is_apart r ≡ true → is_apart q ≡ true
      was a = sym watching.on.apart ∙ a

      -- the call that waits there is the one that was tried
      same_call : (e : MacroDirective) → IsWaiting (at_rest c) i e → d ≡ e
      same_call e waiting = let one : slice_get c.calls i ≡ Some d = here.call in let two : slice_get c.calls i ≡ Some e = waiting.call in cc

      stands_here : is_apart r ≡ true → (e : MacroDirective) → IsIdle (worklist_of r) i → IsWaiting (at_rest c) i e → StandsStill finished c i e slots
      stands_here a e idle waiting =
          subst (λ (x : MacroDirective). StandsStill finished c i x slots) (same_call e waiting)
          (stands_now finished c i d slots (apart (was a)).outside vain low in_order (watching.there (was a) idle))

      stands : is_apart r ≡ true → (p : ℕ) (e : MacroDirective) (b : Bool) → (i == p) ≡ b → IsIdle (worklist_of r) p → IsWaiting (at_rest c) p e
          → StandsStill finished c p e (cond b slots (up.seen p))
      stands a p e true f idle waiting =
          subst (λ (k : ℕ). StandsStill finished c k e slots) (same_place i p f)
          (stands_here a e (subst (IsIdle (worklist_of r)) (sym (same_place i p f)) idle)
          (subst (λ (k : ℕ). IsWaiting (at_rest c) k e) (sym (same_place i p f)) waiting))
      stands a p e false f idle waiting = up.stands (was a) p e (watching.idle p idle) (other_place i p f) waiting

      on_items : is_apart r ≡ true → (p : ℕ) (e : MacroDirective) (b : Bool) → (i == p) ≡ b → IsIdle (worklist_of r) p → IsWaiting (at_rest c) p e
          → (item : AstId) → item_of e ≡ Some item
          → watches_item (attributes_of r) item p ≡ true
      on_items a p e true f idle waiting item is =
          subst (λ (k : ℕ). watches_item (attributes_of r) item k ≡ true) (same_place i p f)
          (watching.on_its_item (was a) item (ap item_of (same_call e (subst (λ (k : ℕ). IsWaiting (at_rest c) k e) (sym (same_place i p f)) waiting)) ∙ is))
      on_items a p e false f idle waiting item is =
          watching.other_items item p (up.on_items (was a) p e (watching.idle p idle) (other_place i p f) waiting item is)

      shallow : (p : ℕ) (e : MacroDirective) (b : Bool) → (i == p) ≡ b → IsIdle (worklist_of r) p → IsWaiting (at_rest c) p e → is_call e ≡ true
          → e.site.level < c.map.crate_data.recursion_limit
      shallow p e true f idle waiting = nowhere_here.shallow e (subst (λ (k : ℕ). IsWaiting (at_rest c) k e) (sym (same_place i p f)) waiting)
      shallow p e false f idle waiting = up.shallow p e (watching.idle p idle) (other_place i p f) waiting

      nowhere : (p : ℕ) (e : MacroDirective) (b : Bool) → (i == p) ≡ b → IsIdle (worklist_of r) p → IsWaiting (at_rest c) p e → LacksMacro finished c p e
      nowhere p e true f idle waiting =
          subst (λ (k : ℕ). LacksMacro finished c k e) (same_place i p f)
          (nowhere_here.nowhere e (subst (λ (k : ℕ). IsWaiting (at_rest c) k e) (sym (same_place i p f)) waiting))
      nowhere p e false f idle waiting = up.nowhere p e (watching.idle p idle) (other_place i p f) waiting

      active : (p : ℕ) (e : MacroDirective) (b : Bool) → (i == p) ≡ b → IsIdle (worklist_of r) p → IsWaiting (at_rest c) p e → is_inert_now c.map e ≡ false
      active p e true f idle waiting = nowhere_here.active e (subst (λ (k : ℕ). IsWaiting (at_rest c) k e) (sym (same_place i p f)) waiting)
      active p e false f idle waiting = up.active p e (watching.idle p idle) (other_place i p f) waiting

-- ---- passes

-- the queue alone changes, and what is idle was idle
module _ (finished : Maps) (q : CallQueue) (w : Queue) (c : Core) (tried now : Option ℕ) (up : IsUpToDate finished q c tried) where
  requeued : ((p : ℕ) → IsIdle w p → now ≢ Some p → IsIdle (worklist_of q) p × (tried ≢ Some p)) → ((p : ℕ) → p < count_of w → is_unfinished w p ≡ true)
      → count_of w ≤ length c.calls
      → IsUpToDate finished (with_worklist q w) c now
  requeued idle unfinished count = record {
    seen = up.seen;
    watched = λ a. record { each = λ p rests other. let before = idle p rests other in (up.watched a).each p before.0 before.1 };
    stands = λ a p d rests other waiting. let before = idle p rests other in up.stands a p d before.0 before.1 waiting;
    on_items = λ a p d rests other waiting. let before = idle p rests other in up.on_items a p d before.0 before.1 waiting;
    shallow = λ p d rests other waiting. let before = idle p rests other in up.shallow p d before.0 before.1 waiting;
    nowhere = λ p d rests other waiting. let before = idle p rests other in up.nowhere p d before.0 before.1 waiting;
    active = λ p d rests other waiting. let before = idle p rests other in up.active p d before.0 before.1 waiting;
    unfinished = unfinished;
    count = count;
  }

module _ (finished : Maps) (q r : CallQueue) (c : Core) (up : IsUpToDate finished q c None) where
  pub up_to_date_opened : (worklist_of q).current ≡ [] → r ≡ with_worklist q (opened (worklist_of q)) → IsUpToDate finished r c None
  up_to_date_opened over is =
      subst (λ (x : CallQueue). IsUpToDate finished x c None) (sym is)
      (requeued finished q (opened (worklist_of q)) c None None up (λ p idle other. (idle-opened (worklist_of q) p over idle, other)) up.unfinished up.count)

  pub up_to_date_closed : worklist_of r ≡ closed (worklist_of q) → r ≡ with_worklist q (worklist_of r) → IsUpToDate finished r c None
  up_to_date_closed shut is =
      subst (λ (x : CallQueue). IsUpToDate finished x c None) (sym (is ∙ ap (with_worklist q) shut))
      (requeued finished q (closed (worklist_of q)) c None None up (λ p idle other. (idle-closed (worklist_of q) p idle, other)) up.unfinished up.count)

  pub up_to_date_taken : (i : ℕ) → Takes (worklist_of q) (worklist_of r) i → r ≡ with_worklist q (worklist_of r) → IsUpToDate finished r c (Some i)
  up_to_date_taken i takes is =
      subst (λ (x : CallQueue). IsUpToDate finished x c (Some i)) (sym is)
      (requeued finished q (worklist_of r) c None (Some i) up
      (λ p idle other. (idle-taken (worklist_of q) (worklist_of r) i p takes idle (λ e. other (ap Some e)), (λ none. absurd cc)))
      (λ p below. ap (λ (f : List Bool). not (slice_index_or f p true)) takes.finished ∙ up.unfinished p
      (subst (λ (f : List Bool). p < length f) takes.finished below))
      (let same : count_of (worklist_of r) ≡ count_of (worklist_of q) = ap (λ (f : List Bool). length f) takes.finished in omega (arith, same, up.count)))

  -- more calls are queued, as many as there are
  pub up_to_date_appended : IsLonger (worklist_of q) (worklist_of r) → count_of (worklist_of r) ≤ length c.calls → r ≡ with_worklist q (worklist_of r)
      → IsUpToDate finished r c None
  up_to_date_appended longer count is =
      subst (λ (x : CallQueue). IsUpToDate finished x c None) (sym is)
      (requeued finished q (worklist_of r) c None None up (λ p idle other. (longer.idle p idle, other)) (longer.unfinished up.unfinished) count)

-- a queue without calls
pub up_to_date_first : (finished : Maps) (q : CallQueue) (c : Core) → worklist_of q ≡ empty_queue → IsUpToDate finished q c None
up_to_date_first finished q c none = record {
  seen = λ p. [];
  watched = λ a. record { each = λ p idle other. absurd (no p idle) };
  stands = λ a p d idle other waiting. absurd (no p idle);
  on_items = λ a p d idle other waiting item is. absurd (no p idle);
  shallow = λ p d idle other waiting. absurd (no p idle);
  nowhere = λ p d idle other waiting. absurd (no p idle);
  active = λ p d idle other waiting. absurd (no p idle);
  unfinished = λ p below. absurd (let empty : count_of (worklist_of q) ≡ 0 = ap count_of none in omega (arith, empty, below));
  count = let empty : count_of (worklist_of q) ≡ 0 = ap count_of none in omega (arith, empty);
}
  where
    no : (p : ℕ) → IsIdle (worklist_of q) p → ⊥
    no p idle =
        let below : p < count_of (worklist_of q) = idle_below (worklist_of q) p idle in let empty : count_of (worklist_of q) ≡ 0 = ap count_of none
        in omega (arith, below, empty)

-- ---- steps

-- calls stay while steps are taken, and one that waits waited before
pub keeps_waiting : {env : Environment} {finished : Maps} (c d : Core) → Steps env finished (at_rest c) (at_rest d) → length c.fates ≡ length c.calls
    → KeepsWaiting c d
keeps_waiting c d steps fated = record {
  eager = (keeps_eager steps).seen;
  longer = calls_longer steps;
  before = λ p x low waiting. waiting_before steps fated waiting low;
}

-- a queue that was up to date is so but for what is noted
pub stale_now : (finished : Maps) (q : CallQueue) (a : Run) → IsUpToDate finished q (core_in a) None → IsStale finished q a
stale_now finished q a up =
    record { before = a; up_to_date = up; noted = slots_same a a refl refl refl; waits = record { eager = λ p e h. h; longer = omega arith; before = λ p d low waiting. waiting } }

-- and later too
pub stale_later : (finished : Maps) (q : CallQueue) (a b : Run) → IsStale finished q a → NotesSlots a b → KeepsWaiting (core_in a) (core_in b)
    → IsStale finished q b
stale_later finished q a b stale noted waits = record {
  before = stale.before;
  up_to_date = stale.up_to_date;
  noted = slots_follow stale.noted noted;
  waits = record {
    eager = λ p e h. waits.eager p e (stale.waits.eager p e h);
    longer = omega (arith, stale.waits.longer, waits.longer);
    before = λ p d low waiting. stale.waits.before p d low (waits.before p d (omega (arith, low, stale.waits.longer)) waiting);
  };
}

-- a call that was handled doesn't wait
pub waits_no_more : (c : Core) (i : ℕ) → slice_get c.fates i ≡ Some Handled → (d : MacroDirective) → ¬ IsWaiting (at_rest c) i d
waits_no_more c i done d waiting = let still : slice_get c.fates i ≡ Some Waits = waiting.waits in absurd (let no : ⊥ = cc in no)

-- the maps lie apart still
pub apart_later : {env : Environment} (finished : Maps) (q r : CallQueue) (c d : Core) → is_apart r ≡ is_apart q → Steps env finished (at_rest c) (at_rest d)
    → LiesApart finished q c → LiesApart finished r d
apart_later finished q r c d same steps apart = λ a. apart-Steps c d steps (apart (sym same ∙ a))
