-- What watches slots, and what is idle once the readers of slots are woken, one slot after another.
use Rattle.std.proofs.Common.{◌≡◌, ◌∙◌, ap, sym, refl, subst, ℕ, suc, ◌+◌, ◌<◌, ◌≤◌, ◌==◌, Bool, true, false, ◌||◌, ◌&&◌, Option, List, [], ◌∷◌, ◌++◌}
use Rattle.std.proofs.Common.{length, drop, get_or, arith}
use Rattle.std.proofs.Math.Seq.{drop-cons}
use Rattle.std.proofs.lemmas.Bool.Decides.{nat_tests}
use Rattle.std.proofs.lemmas.Cmp.{tied_itself}
use Rattle.std.proofs.lemmas.List.{append-nil, append_assoc, drop_all}
use Rattle.std.proofs.lemmas.List.Elements.{All-push}
use Rattle.std.specs.BTreeMap.{is_at}
use Rattle.std.specs.Cmp.{IsTotalOrder}
use Rattle.std.specs.List.{list_any}
use Rattle.std.specs.Ordering.{is_eq}
use Rattle.std.specs.declared.cmp.Ordering.{Ordering}
use Rattle.hir_worklist.specs.Types.{Watchers}
use Rattle.hir_worklist.specs.Moves.{Wakes}
use Rattle.hir_worklist.specs.Queue.{IsIdle, Queue}
use Rattle.hir_worklist.specs.Settling.{AreSettled, WatchesEach}
use Rattle.hir_worklist.specs.Waking.{KeepsWatched, WakesEach, none, more}
use Rattle.hir_worklist.specs.Watching.{Forgets, Watches, is_watching}
use Rattle.hir_worklist.proofs.Idle.{idle-woken}
use Rattle.hir_worklist.proofs.Settled.{IsUnread, is_watching-equal, kept, none_changed, one_more_changed}

either_true : (a b : Bool) → a ≡ true → (a || b) ≡ true
either_true a b e = ap (λ (x : Bool). x || b) e

or_true : (a b : Bool) → b ≡ true → (a || b) ≡ true
or_true true b e = refl
or_true false b e = e

add_one : (n : ℕ) → n + 1 ≡ suc n
add_one n = omega arith

pub itself : (n : ℕ) → (n == n) ≡ true
itself n = grind (arith, nat_tests)

-- one of those that are left is done
pub one_done : {K : Type 0} (done : List K) (slot : K) (left before all : List K) → done ++ before ≡ all → before ≡ slot ∷ left → (done ++ slot ∷ []) ++ left
    ≡ all
one_done done slot left before all split first = append_assoc done (slot ∷ []) left ∙ sym (ap (λ xs. done ++ xs) first) ∙ split

module _ {K : Type 0} (cmp : K → K → Ordering) where
  -- ---- watching

  -- where a thing watches a slot besides, what watched a slot watches it still
  pub keeps_besides : (old new : Watchers K) (slot : K) (p : ℕ) → Watches cmp old new slot p → KeepsWatched cmp old new
  keeps_besides old new slot p w other k e = w other k ∙ either_true (is_watching cmp old other k) (is_at (cmp slot) other && (p == k)) e

  -- what is idle watches what it reads still
  pub still_settled : (reads : ℕ → List K) (IsSettled : ℕ → Type 0) (tried : Option ℕ) (q : Queue) (old new : Watchers K)
      → AreSettled cmp reads IsSettled tried q old → KeepsWatched cmp old new → AreSettled cmp reads IsSettled tried q new
  still_settled reads IsSettled tried q old new s keeps = record {
    watched = record { each = λ p idle other n d l. keeps (get_or (reads p) n d) p (s.watched.each p idle other n d l) };
    settled = s.settled;
  }

  -- ---- waking, one slot after another

  -- first these slots, then those
  pub wakes_append : (r between : Queue) (after left : Watchers K) (q : Queue) (watchers : Watchers K) (first then : List K)
      → WakesEach cmp between left q watchers first → WakesEach cmp r after between left then → WakesEach cmp r after q watchers (first ++ then)
  wakes_append r between after left _ _ _ then none second = second
  wakes_append r between after left _ _ _ then (more q b watchers forgot slot slots wakes forgets rest) second =
      more q b watchers forgot slot (slots ++ then) wakes forgets (wakes_append r between after left b forgot slots then rest second)

  -- one of the slots that are left, and the others
  pub wakes_one : (slots : List K) (s : K) (n : ℕ) (r : Queue) (after : Watchers K) (q between : Queue) (watchers left : Watchers K) → n < length slots
      → get_or slots n s ≡ s → Wakes q between (is_watching cmp watchers s) → Forgets cmp watchers left s
      → WakesEach cmp r after between left (drop (n + 1) slots)
      → WakesEach cmp r after q watchers (drop n slots)
  wakes_one slots s n r after q between watchers left below is wakes forgets then =
      subst (λ (xs : List K). WakesEach cmp r after q watchers xs) (sym (drop-cons slots n s below ∙ (λ i. is i ∷ drop (suc n) slots)))
      (more q between watchers left s (drop (suc n) slots) wakes forgets
      (subst (λ (m : ℕ). WakesEach cmp r after between left (drop m slots)) (add_one n) then))

  -- none is left
  pub wakes_all : (slots : List K) (n : ℕ) (q : Queue) (watchers : Watchers K) → length slots ≤ n → WakesEach cmp q watchers q watchers (drop n slots)
  wakes_all slots n q watchers over = subst (λ (xs : List K). WakesEach cmp q watchers q watchers xs) (sym (drop_all n slots over)) none

  -- what is idle in the end was idle
  pub idle_each : (r : Queue) (after : Watchers K) (q : Queue) (watchers : Watchers K) (slots : List K) → WakesEach cmp r after q watchers slots → (p : ℕ)
      → IsIdle r p → IsIdle q p
  idle_each r after _ _ _ none p idle = idle
  idle_each r after _ _ _ (more q b watchers forgot slot slots wakes forgets rest) p idle =
      (idle-woken q b (is_watching cmp watchers slot) p wakes (idle_each r after b forgot slots rest p idle)).0

  module _ (total : IsTotalOrder cmp) where
    -- a thing that watches a slot besides watches it
    besides : (old new : Watchers K) (slot : K) (p : ℕ) → Watches cmp old new slot p → is_watching cmp new slot p ≡ true
    besides old new slot p w =
        w slot p ∙ or_true (is_watching cmp old slot p) (is_at (cmp slot) slot && (p == p)) (λ i. is_eq (tied_itself total slot i) && itself p i)

    pub watches_its : (old new : Watchers K) (slot : K) (p : ℕ) → Watches cmp old new slot p → is_watching cmp new slot p ≡ true
    watches_its = besides

    pub watches_more : (old new : Watchers K) (slot : K) (p : ℕ) (done : List K) → WatchesEach cmp old p done → Watches cmp old new slot p
        → WatchesEach cmp new p (done ++ slot ∷ [])
    watches_more old new slot p done each w =
        All-push (λ s. is_watching cmp new s p ≡ true) done slot (λ n d l. keeps_besides old new slot p w (get_or done n d) p (each n d l))
        (besides old new slot p w)

    -- what is idle in the end watches each slot that it watched
    pub watched_still : (r : Queue) (after : Watchers K) (q : Queue) (watchers : Watchers K) (slots : List K) → WakesEach cmp r after q watchers slots → (p : ℕ)
        → IsIdle r p → (other : K) → is_watching cmp watchers other p ≡ true → is_watching cmp after other p ≡ true
    watched_still r after _ _ _ none p idle other e = e
    watched_still r after _ _ _ (more q b watchers left slot slots wakes forgets rest) p idle other e =
        watched_still r after b left slots rest p idle other
        (kept cmp total q b watchers left slot wakes forgets p (idle_each r after b left slots rest p idle) other e)

    -- none of which is one of those that were woken
    pub watched_apart : (r : Queue) (after : Watchers K) (q : Queue) (watchers : Watchers K) (slots : List K) → WakesEach cmp r after q watchers slots → (p : ℕ)
        → IsIdle r p → (other : K) → is_watching cmp watchers other p ≡ true → list_any (is_at (cmp other)) slots ≡ false
    watched_apart r after _ _ _ none p idle other e = refl
    watched_apart r after _ _ _ (more q b watchers left slot slots wakes forgets rest) p idle other e =
        λ i. here (is_at (cmp other) slot) refl i || watched_apart r after b left slots rest p idle other
        (kept cmp total q b watchers left slot wakes forgets p between other e) i
      where
        between : IsIdle b p
        between = idle_each r after b left slots rest p idle

        here : (b : Bool) → is_at (cmp other) slot ≡ b → is_at (cmp other) slot ≡ false
        here false f = f
        here true f =
            let same : is_watching cmp watchers other p ≡ is_watching cmp watchers slot p = is_watching-equal cmp total watchers other slot p f in
            let unwatched : is_watching cmp watchers slot p ≡ false = (idle-woken q b (is_watching cmp watchers slot) p wakes between).1 in
            absurd (let no : ⊥ = cc in no)

    -- what is settled, and read none of the slots before, reads none of these either
    woken_after : (reads : ℕ → List K) (IsSettled : ℕ → Type 0) (tried : Option ℕ) (r : Queue) (after : Watchers K) (before : List K) (q : Queue)
        (watchers : Watchers K) (slots : List K)
        → WakesEach cmp r after q watchers slots → AreSettled cmp reads (IsUnread cmp total reads IsSettled before) tried q watchers
        → AreSettled cmp reads (IsUnread cmp total reads IsSettled (before ++ slots)) tried r after
    woken_after reads IsSettled tried r after before _ _ _ none s =
        subst (λ (xs : List K). AreSettled cmp reads (IsUnread cmp total reads IsSettled xs) tried r after) (sym (append-nil before)) s
    woken_after reads IsSettled tried r after before _ _ _ (more q b watchers forgot slot slots wakes forgets rest) s =
        subst (λ (xs : List K). AreSettled cmp reads (IsUnread cmp total reads IsSettled xs) tried r after) (append_assoc before (slot ∷ []) slots)
        (woken_after reads IsSettled tried r after (before ++ slot ∷ []) b forgot slots rest
        (one_more_changed cmp total reads IsSettled tried q b watchers forgot before slot s wakes forgets))

    -- once each slot is woken, what is idle is settled and reads none of them
    pub woken_settled : (reads : ℕ → List K) (IsSettled : ℕ → Type 0) (tried : Option ℕ) (r : Queue) (after : Watchers K) (q : Queue) (watchers : Watchers K)
        (slots : List K)
        → WakesEach cmp r after q watchers slots → AreSettled cmp reads IsSettled tried q watchers
        → AreSettled cmp reads (IsUnread cmp total reads IsSettled slots) tried r after
    woken_settled reads IsSettled tried r after q watchers slots woken s =
        woken_after reads IsSettled tried r after [] q watchers slots woken (none_changed cmp total reads IsSettled tried q watchers s)
