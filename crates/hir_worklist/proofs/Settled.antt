-- What is idle is settled, whatever is called.
use Rattle.std.proofs.Common.{◌≡◌, ◌≢◌, ◌∙◌, ap, sym, refl, subst, ℕ, ◌<◌, Bool, true, false, ◌&&◌, ◌||◌, ◌⊎◌, inl, inr, List, [], ◌∷◌, ◌++◌, Option, None}
use Rattle.std.proofs.Common.{Some, nat_eq, arith}
use Rattle.std.specs.Prelude.{Contains, not}
use Rattle.std.specs.BTreeMap.{is_at}
use Rattle.std.specs.Cmp.{IsTotalOrder}
use Rattle.std.specs.Map.{lookup}
use Rattle.std.specs.Ordering.{is_eq}
use Rattle.std.specs.declared.cmp.Ordering.{Ordering}
use Rattle.std.specs.declared.cmp.Ordering.TheVariants.{Less, Equal, Greater}
use Rattle.std.proofs.lemmas.Bool.Decides.{nat_tests}
use Rattle.std.proofs.lemmas.List.Elements.{All-contains, Contains-push_cases}
use Rattle.hir_worklist.specs.Types.{Watchers}
use Rattle.hir_worklist.specs.Moves.{Appends, Finishes, Takes, Wakes, closed, opened}
use Rattle.hir_worklist.specs.Queue.{Queue, IsIdle, count_of}
use Rattle.hir_worklist.specs.Settling.{AreSettled, AreWatched, ChangesKeepWatched, WatchesEach}
use Rattle.hir_worklist.specs.Watching.{Forgets, Watches, has_watcher, is_watching}
use Rattle.hir_worklist.proofs.Idle.{idle-appended, idle-closed, idle-finished, idle-opened, idle-taken, idle-woken}

either_true : (a b : Bool) → a ≡ true → (a || b) ≡ true
either_true a b e = ap (λ (x : Bool). x || b) e

equal : (o : Ordering) → is_eq o ≡ true → o ≡ Equal
equal Less e = absurd cc
equal Equal e = refl
equal Greater e = absurd cc

module _ {K : Type 0} (cmp : K → K → Ordering) (total : IsTotalOrder cmp) where
  -- equal slots have the same watchers
  pub is_watching-equal : (watchers : Watchers K) (slot other : K) (p : ℕ) → is_at (cmp slot) other ≡ true → is_watching cmp watchers slot p
      ≡ is_watching cmp watchers other p
  is_watching-equal watchers slot other p e =
      λ i. has_watcher (lookup (λ q. is_eq (total.congr slot other q (equal (cmp slot other) e) i)) watchers.positions.entries) p

  -- what is idle afterwards was idle and doesn't read the slot
  pub unread : (reads : ℕ → List K) (tried : Option ℕ) (q r : Queue) (watchers : Watchers K) (slot : K)
      → AreWatched cmp reads tried q watchers → Wakes q r (is_watching cmp watchers slot) → (p : ℕ) → IsIdle r p → tried ≢ Some p → IsIdle q p
      × (¬ Contains (reads p) slot)
  unread reads tried q r watchers slot watched woken p idle other =
      let before = idle-woken q r (is_watching cmp watchers slot) p woken idle in (
        before.0,
        λ h. let seen : is_watching cmp watchers slot p ≡ true = All-contains (λ s. is_watching cmp watchers s p ≡ true) (reads p) slot
            (watched.each p before.0 other) h in absurd cc,
      )

  still : (b c : Bool) → b ≡ true → c ≡ false → (b && not c) ≡ true
  still b c e f = λ i. e i && not (f i)

  -- what reads a slot that hasn't changed watches it still
  pub kept : (q r : Queue) (old new : Watchers K) (slot : K) → Wakes q r (is_watching cmp old slot) → Forgets cmp old new slot → (p : ℕ) → IsIdle r p
      → (other : K) → is_watching cmp old other p ≡ true → is_watching cmp new other p ≡ true
  kept q r old new slot woken forgets p idle other watching =
      forgets other p ∙ still (is_watching cmp old other p) (is_at (cmp slot) other) watching (apart (is_at (cmp slot) other) refl)
    where
      apart : (b : Bool) → is_at (cmp slot) other ≡ b → b ≡ false
      apart false e = refl
      apart true e =
          let same : is_watching cmp old slot p ≡ is_watching cmp old other p = is_watching-equal old slot other p e in
          let none : is_watching cmp old slot p ≡ false = (idle-woken q r (is_watching cmp old slot) p woken idle).1 in
          absurd cc

  pub changed : ChangesKeepWatched cmp
  changed reads after tried q r old new slot watched woken forgets same = record {
    each = λ p idle other.
        let before = unread reads tried q r old slot watched woken p idle other in
        subst (λ (slots : List K). WatchesEach cmp new p slots) (sym (same p idle before.1))
        (λ k d l. kept q r old new slot woken forgets p idle _ (watched.each p before.0 other k d l));
  }

  -- ---- with what the things are settled by

  module _ (reads after : ℕ → List K) (IsSettled IsSettledAfter : ℕ → Type 0) (tried : Option ℕ) (q r : Queue) where
    -- a thing is appended
    pub appended : (watchers : Watchers K) → AreSettled cmp reads IsSettled tried q watchers → Appends q r
        → ((p : ℕ) → p < count_of q → after p ≡ reads p) → ((p : ℕ) → p < count_of q → IsSettled p → IsSettledAfter p)
        → AreSettled cmp after IsSettledAfter tried r watchers
    appended watchers s a same stays = record {
      watched = record {
        each = λ p idle other.
            let before = idle-appended q r p a idle in
            subst (λ (slots : List K). WatchesEach cmp watchers p slots) (sym (same p before.1)) (s.watched.each p before.0 other);
      };
      settled = λ p idle other. let before = idle-appended q r p a idle in stays p before.1 (s.settled p before.0 other);
    }

    -- a slot changes
    pub slot_changed : (old new : Watchers K) (slot : K) → AreSettled cmp reads IsSettled tried q old → Wakes q r (is_watching cmp old slot)
        → Forgets cmp old new slot
        → ((p : ℕ) → IsIdle r p → ¬ Contains (reads p) slot → after p ≡ reads p)
        → ((p : ℕ) → IsIdle r p → ¬ Contains (reads p) slot → IsSettled p → IsSettledAfter p)
        → AreSettled cmp after IsSettledAfter tried r new
    slot_changed old new slot s woken forgets same stays = record {
      watched = changed reads after tried q r old new slot s.watched woken forgets same;
      settled = λ p idle other.
          let before = unread reads tried q r old slot s.watched woken p idle other in
          stays p idle before.1 (s.settled p before.0 other);
    }

  module _ (reads : ℕ → List K) (IsSettled : ℕ → Type 0) where
    -- a pass begins
    pub pass_opened : (tried : Option ℕ) (q : Queue) (watchers : Watchers K) → AreSettled cmp reads IsSettled tried q watchers → q.current ≡ []
        → AreSettled cmp reads IsSettled tried (opened q) watchers
    pass_opened tried q watchers s e = record {
      watched = record { each = λ p idle other. s.watched.each p (idle-opened q p e idle) other };
      settled = λ p idle other. s.settled p (idle-opened q p e idle) other;
    }

    -- a pass is over
    pub pass_closed : (tried : Option ℕ) (q : Queue) (watchers : Watchers K) → AreSettled cmp reads IsSettled tried q watchers → AreSettled cmp reads IsSettled
        tried (closed q) watchers
    pass_closed tried q watchers s = record {
      watched = record { each = λ p idle other. s.watched.each p (idle-closed q p idle) other };
      settled = λ p idle other. s.settled p (idle-closed q p idle) other;
    }

    -- a thing is taken
    pub taken : (q r : Queue) (p : ℕ) (watchers : Watchers K) → AreSettled cmp reads IsSettled None q watchers → Takes q r p → AreSettled cmp reads IsSettled
        (Some p) r watchers
    taken q r p watchers s t = record {
      watched = record { each = λ k idle other. s.watched.each k (idle-taken q r p k t idle (λ e. other (ap Some e))) (λ e. absurd cc) };
      settled = λ k idle other. s.settled k (idle-taken q r p k t idle (λ e. other (ap Some e))) (λ e. absurd cc);
    }

    -- a thing watches a slot besides
    pub watched_besides : (tried : Option ℕ) (q : Queue) (old new : Watchers K) (slot : K) (p : ℕ) → AreSettled cmp reads IsSettled tried q old
        → Watches cmp old new slot p → AreSettled cmp reads IsSettled tried q new
    watched_besides tried q old new slot p s w = record {
      watched = record { each = λ k idle other n d l. w _ k ∙ either_true _ _ (s.watched.each k idle other n d l) };
      settled = s.settled;
    }

    -- what was tried is settled: nothing is being tried any more
    pub tried_settled : (q : Queue) (watchers : Watchers K) (p : ℕ) → AreSettled cmp reads IsSettled (Some p) q watchers
        → (IsIdle q p → WatchesEach cmp watchers p (reads p)) → (IsIdle q p → IsSettled p)
        → AreSettled cmp reads IsSettled None q watchers
    tried_settled q watchers p s watches settles = record {
      watched = record { each = λ k idle other. either (nat_eq p k) k idle refl };
      settled = λ k idle other. either_settled (nat_eq p k) k idle refl;
    }
      where
        apart : (k : ℕ) → nat_eq p k ≡ false → Some p ≢ Some k
        apart k e f = let g : p ≡ k = cc in grind (arith, nat_tests)

        either : (b : Bool) (k : ℕ) → IsIdle q k → nat_eq p k ≡ b → WatchesEach cmp watchers k (reads k)
        either true k idle e =
            let same : p ≡ k = grind (arith, nat_tests) in subst (λ (n : ℕ). IsIdle q n → WatchesEach cmp watchers n (reads n)) same watches idle
        either false k idle e = s.watched.each k idle (apart k e)

        either_settled : (b : Bool) (k : ℕ) → IsIdle q k → nat_eq p k ≡ b → IsSettled k
        either_settled true k idle e = let same : p ≡ k = grind (arith, nat_tests) in subst (λ (n : ℕ). IsIdle q n → IsSettled n) same settles idle
        either_settled false k idle e = s.settled k idle (apart k e)

    -- what was tried is finished
    pub tried_finished : (q r : Queue) (watchers : Watchers K) (p : ℕ) → AreSettled cmp reads IsSettled (Some p) q watchers → Finishes q r p
        → AreSettled cmp reads IsSettled None r watchers
    tried_finished q r watchers p s f = record {
      watched = record { each = λ k idle other. let before = idle-finished q r p k f idle in s.watched.each k before.0 (λ e. before.1 cc) };
      settled = λ k idle other. let before = idle-finished q r p k f idle in s.settled k before.0 (λ e. before.1 cc);
    }

  -- what the idle things read and are settled by is said anew
  pub restated : (reads after : ℕ → List K) (IsSettled IsSettledAfter : ℕ → Type 0) (tried : Option ℕ) (q : Queue) (watchers : Watchers K)
      → AreSettled cmp reads IsSettled tried q watchers
      → ((p : ℕ) → IsIdle q p → tried ≢ Some p → IsSettled p → after p ≡ reads p) → ((p : ℕ) → IsIdle q p → tried ≢ Some p → IsSettled p → IsSettledAfter p)
      → AreSettled cmp after IsSettledAfter tried q watchers
  restated reads after IsSettled IsSettledAfter tried q watchers s same stays = record {
    watched = record {
      each =
          λ p idle other. subst (λ (slots : List K). WatchesEach cmp watchers p slots) (sym (same p idle other (s.settled p idle other)))
          (s.watched.each p idle other);
    };
    settled = λ p idle other. stays p idle other (s.settled p idle other);
  }

  -- settled, and none of these slots is read
  pub record IsUnread (reads : ℕ → List K) (IsSettled : ℕ → Type 0) (changed : List K) (p : ℕ) : Type 0 where
    pub settled : IsSettled p
    pub unread : (slot : K) → Contains changed slot → ¬ Contains (reads p) slot

  -- several slots change at once, and are woken one after another: first none of them is
  pub none_changed : (reads : ℕ → List K) (IsSettled : ℕ → Type 0) (tried : Option ℕ) (q : Queue) (watchers : Watchers K) → AreSettled cmp reads IsSettled tried
      q watchers
      → AreSettled cmp reads (IsUnread reads IsSettled []) tried q watchers
  none_changed reads IsSettled tried q watchers s = record {
    watched = s.watched;
    settled = λ p idle other. record { settled = s.settled p idle other; unread = λ slot h. absurd (omega (arith, h.1)) };
  }

  -- then one more
  pub one_more_changed : (reads : ℕ → List K) (IsSettled : ℕ → Type 0) (tried : Option ℕ) (q r : Queue) (old new : Watchers K) (changed_before : List K)
      (slot : K)
      → AreSettled cmp reads (IsUnread reads IsSettled changed_before) tried q old → Wakes q r (is_watching cmp old slot) → Forgets cmp old new slot
      → AreSettled cmp reads (IsUnread reads IsSettled (changed_before ++ slot ∷ [])) tried r new
  one_more_changed reads IsSettled tried q r old new changed_before slot s woken forgets =
      slot_changed reads reads (IsUnread reads IsSettled changed_before) (IsUnread reads IsSettled (changed_before ++ slot ∷ [])) tried q r old new slot s woken
      forgets
      (λ p idle other. refl)
      (λ p idle other before. record { settled = before.settled; unread = λ k h. either_unread p k other before (Contains-push_cases changed_before slot k h) })
    where
      either_unread : (p : ℕ) (k : K) → (¬ Contains (reads p) slot) → IsUnread reads IsSettled changed_before p → Contains changed_before k ⊎ (slot ≡ k)
          → ¬ Contains (reads p) k
      either_unread p k other before (inl h) = before.unread k h
      either_unread p k other before (inr e) = subst (λ (x : K). ¬ Contains (reads p) x) e other
