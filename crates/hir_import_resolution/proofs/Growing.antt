-- What was up to date stays so while the map grows, once what has changed is woken and what came besides is queued.
use Rattle.std.proofs.Common.{◌≡◌, ◌∙◌, ap, sym, refl, subst, ℕ, suc, ◌<◌, ◌≤◌, Bool, true, None, Some, List, [], ◌∷◌, length, arith}
use Rattle.std.specs.Prelude.{not, slice_get, slice_index_or}
use Rattle.hir_def_map_rules.specs.Overlay.{Maps}
use Rattle.hir_nameres.specs.declared.nameres.path_resolution.slots.Slot.{Slot as PathSlot}
use Rattle.hir_worklist.proofs.Passes.{idle_below}
use Rattle.hir_worklist.specs.Moves.{empty_queue}
use Rattle.hir_worklist.specs.Queue.{IsIdle, Queue, count_of, is_unfinished}
use Rattle.hir_worklist.specs.Waking.{IsLonger}
use Rattle.hir_worklist.specs.declared.watchers.Watchers.{Watchers}
use Rattle.hir_import_resolution.specs.Types.{ImportQueue}
use Rattle.hir_import_rules.specs.declared.directive.ImportDirective.{ImportDirective}
use Rattle.hir_import_resolution.specs.Inner.Queue.{AreIdleSettled, IsWoken}
use Rattle.hir_import_resolution.specs.Rounds.{AreQueued, IsResumable, is_lasting}
use Rattle.hir_import_rules.specs.State.{ImportState}
use Rattle.hir_import_resolution.proofs.Settled.{unchanged_grown}
use Rattle.hir_import_resolution.proofs.Trying.{woken_anew}

-- ---- at first

-- nothing is idle where nothing was
pub none_idle : (q r : Queue) → q ≡ empty_queue → IsLonger q r → (p : ℕ) → ¬ IsIdle r p
none_idle q r empty longer p idle =
    let before : p < 0 = subst (λ (x : Queue). p < count_of x) empty (idle_below q p (longer.idle p idle)) in absurd (omega arith)

-- so in a queue of all imports each is queued
pub queued_first : (finished : Maps) (queue : ImportQueue) (q : Queue) (s : ImportState) (n : ℕ) → q ≡ empty_queue → IsLonger q queue.worklist → n
    ≡ length s.imports → (count_of q ≤ n → count_of queue.worklist ≡ n)
    → ((p : ℕ) (d : ImportDirective) → slice_get s.imports p ≡ Some d → d.home < length s.map.modules) → AreQueued finished queue s
queued_first finished queue q s n empty longer all count there = record {
  settled = record {
    watched = record { each = λ p idle other. absurd (none_idle q queue.worklist empty longer p idle) };
    settled = λ p idle other. absurd (none_idle q queue.worklist empty longer p idle);
  };
  count = as_many;
  unfinished = λ p below. longer.unfinished no_more p (subst (λ (n : ℕ). p < n) (sym as_many) below);
  there = there;
  over = longer.current ∙ ap (λ (x : Queue). x.current) empty;
  outside = longer.end ∙ ap (λ (x : Queue). x.end) empty;
}
  where
    none_there : count_of q ≡ 0
    none_there = ap count_of empty

    as_many : count_of queue.worklist ≡ length s.imports
    as_many = count (omega (arith, none_there)) ∙ all

    no_more : (p : ℕ) → p < count_of q → is_unfinished q p ≡ true
    no_more p below = absurd (omega (arith, none_there))

-- ---- later

as_long_by_places : {A : Type 0} (xs ys : List A) → ((i : ℕ) → i < length xs → slice_get ys i ≡ slice_get xs i) → length xs ≤ length ys
as_long_by_places [] ys same = omega arith
as_long_by_places (x ∷ xs) [] same = let none : None ≡ Some x = same 0 (omega arith) in absurd cc
as_long_by_places (x ∷ xs) (y ∷ ys) same = let rest : length xs ≤ length ys = as_long_by_places xs ys (λ i l. same (suc i) (omega arith)) in omega arith

module _ (finished : Maps) (queue : ImportQueue) (now : ImportState) (slots : List PathSlot) (given : IsResumable finished queue now slots) (lasting : is_lasting queue ≡ true) where
  abbrev pub before : ImportState
  before = given.before

  module _ (woken : ImportQueue) (wakes : IsWoken queue.apart slots queue.worklist queue.watchers woken.worklist woken.watchers) (apart : woken.apart ≡ queue.apart) (lasts : woken.lasting ≡ queue.lasting) where
    same_count : count_of woken.worklist ≡ length before.imports
    same_count = ap (λ (f : List Bool). length f) wakes.pass.finished ∙ given.up_to_date.queued.count

    idle_there : (p : ℕ) → IsIdle woken.worklist p → p < length before.imports
    idle_there p idle = subst (λ (n : ℕ). p < n) same_count (idle_below woken.worklist p idle)

    -- what is idle once the readers are woken is settled
    settled_now : AreIdleSettled queue.lasting queue.apart finished now None woken.worklist woken.watchers
    settled_now =
        woken_anew queue.lasting queue.apart finished before now slots queue.worklist woken.worklist queue.watchers woken.watchers
        (λ p idle. record { import = given.grew.imports p (idle_there p idle); taken = given.grew.taken p (idle_there p idle) })
        (λ e p d is firm unread.
        unchanged_grown finished before now slots d d.source refl (given.apart e) (given.up_to_date.lasts lasting).of_crate
        (given.up_to_date.lasts lasting).ordered.in_order
        (given.up_to_date.queued.there p d is) given.grew (firm lasting) unread)
        given.up_to_date.queued.settled wakes

    pub queued_again : (last : ImportQueue) (n : ℕ) → last ≡ record woken { worklist = last.worklist } → IsLonger woken.worklist last.worklist → n
        ≡ length now.imports
        → (count_of woken.worklist ≤ n → count_of last.worklist ≡ n)
        → ((p : ℕ) (d : ImportDirective) → slice_get now.imports p ≡ Some d → d.home < length now.map.modules) → AreQueued finished last now
    queued_again last n rest longer all count there = record {
      settled =
          subst (λ (w : Watchers PathSlot). AreIdleSettled last.lasting last.apart finished now None last.worklist w)
          (sym (ap (λ (x : ImportQueue). x.watchers) rest))
          (subst (λ (b : Bool). AreIdleSettled last.lasting b finished now None last.worklist woken.watchers)
          (sym (ap (λ (x : ImportQueue). x.apart) rest ∙ apart))
          (subst (λ (b : Bool). AreIdleSettled b queue.apart finished now None last.worklist woken.watchers)
          (sym (ap (λ (x : ImportQueue). x.lasting) rest ∙ lasts)) fewer));
      count = as_many;
      unfinished = λ p below. longer.unfinished old_unfinished p (subst (λ (n : ℕ). p < n) (sym as_many) below);
      there = there;
      over = longer.current ∙ wakes.pass.outside given.up_to_date.queued.over given.up_to_date.queued.outside;
      outside = longer.end ∙ wakes.pass.end ∙ given.up_to_date.queued.outside;
    }
      where
        grown : length before.imports ≤ length now.imports
        grown = as_long_by_places before.imports now.imports given.grew.imports

        as_many : count_of last.worklist ≡ length now.imports
        as_many = count (omega (arith, grown, same_count, all)) ∙ all

        old_unfinished : (p : ℕ) → p < count_of woken.worklist → is_unfinished woken.worklist p ≡ true
        old_unfinished p below =
            ap (λ (f : List Bool). not (slice_index_or f p true)) wakes.pass.finished
            ∙ given.up_to_date.queued.unfinished p (subst (λ (n : ℕ). p < n) same_count below)

        fewer : AreIdleSettled queue.lasting queue.apart finished now None last.worklist woken.watchers
        fewer = record {
          watched = record { each = λ p idle other. settled_now.watched.each p (longer.idle p idle) other };
          settled = λ p idle other. settled_now.settled p (longer.idle p idle) other;
        }
