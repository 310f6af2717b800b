-- What is idle, and what was idle before.
use Rattle.std.proofs.Common.{◌≡◌, ◌≢◌, ◌∙◌, ap, sym, refl, ℕ, ◌<◌, Bool, true, false, ◌&&◌, ◌||◌, List, [], ◌∷◌, nat_le, nat_lt, arith}
use Rattle.std.specs.BTreeMap.{is_at}
use Rattle.std.specs.Ordering.{is_eq, nat_cmp}
use Rattle.std.proofs.lemmas.Bool.Decides.{nat_tests}
use Rattle.std.proofs.lemmas.Cmp.{nat_cmp_total, tied_itself}
use Rattle.std.proofs.lemmas.Grind.{common_steps}
use mathlib.Core.Bool.{true≢false}
use Rattle.hir_worklist.specs.Moves.{Appends, Finishes, Takes, Wakes, closed, opened}
use Rattle.hir_worklist.specs.Queue.{Queue, IsIdle, count_of, is_ahead, is_among, is_unfinished}

-- where nothing is queued, what isn't finished is idle
pub idle-settled : (q : Queue) (p : ℕ) → q.current ≡ [] → q.later ≡ [] → is_unfinished q p ≡ true → IsIdle q p
idle-settled q p e f u = record { unfinished = u; not_queued = λ i. is_among p (e i) || is_among p (f i) }

pub idle-appended : (q r : Queue) (p : ℕ) → Appends q r → IsIdle r p → IsIdle q p × (p < count_of q)
idle-appended q r p a idle = grind (arith, common_steps, nat_tests, a.later p)

pub idle-opened : (q : Queue) (p : ℕ) → q.current ≡ [] → IsIdle (opened q) p → IsIdle q p
idle-opened q p e idle = grind (arith, common_steps)

pub idle-closed : (q : Queue) (p : ℕ) → IsIdle (closed q) p → IsIdle q p
idle-closed q p idle = record { unfinished = idle.unfinished; not_queued = idle.not_queued }

pub idle-taken : (q r : Queue) (p k : ℕ) → Takes q r p → IsIdle r k → p ≢ k → IsIdle q k
idle-taken q r p k t idle other = grind (arith, common_steps, nat_tests, t.others k)

pub idle-finished : (q r : Queue) (p k : ℕ) → Finishes q r p → IsIdle r k → IsIdle q k × (p ≢ k)
idle-finished q r p k f idle = grind (arith, common_steps, nat_tests, f.current k, f.later k)

-- what is idle once the chosen ones are woken wasn't chosen
pub idle-woken : (q r : Queue) (chosen : ℕ → Bool) (p : ℕ) → Wakes q r chosen → IsIdle r p → IsIdle q p × (chosen p ≡ false)
idle-woken q r chosen p w idle = grind (arith, common_steps, nat_tests, w.current p, w.later p)

-- ---- outside a pass

-- positions among which none is are none
none_among : (positions : List ℕ) → ((p : ℕ) → is_among p positions ≡ false) → positions ≡ []
none_among [] none = refl
none_among (p ∷ positions) none =
    let found : is_at (nat_cmp p) p ≡ true = ap is_eq (tied_itself nat_cmp_total p) in
    absurd (true≢false (sym (ap (λ (b : Bool). b || is_among p positions) found) ∙ none p))

-- what is woken outside a pass waits for the next one
pub current-woken_outside : (q r : Queue) (chosen : ℕ → Bool) → Wakes q r chosen → q.current ≡ [] → q.end ≡ 0 → r.current ≡ []
current-woken_outside q r chosen w e f = none_among r.current (λ p. w.current p ∙ none p)
  where
    none : (p : ℕ) → (is_among p q.current || ((chosen p && is_unfinished q p) && is_ahead q p)) ≡ false
    none p =
        (λ i. is_among p (e i) || ((chosen p && is_unfinished q p) && (nat_le q.next p && nat_lt p (f i))))
        ∙ ap (λ (b : Bool). (chosen p && is_unfinished q p) && (nat_le q.next p && b)) (below p)
        ∙ nowhere (chosen p && is_unfinished q p) (nat_le q.next p)
      where
        below : (n : ℕ) → nat_lt n 0 ≡ false
        below n = grind (arith, nat_tests)

        nowhere : (a b : Bool) → (a && (b && false)) ≡ false
        nowhere true true = refl
        nowhere true false = refl
        nowhere false b = refl
