-- What stays as it was where things are woken, and where they are appended.
use Rattle.std.proofs.Common.{◌≡◌, ◌∙◌, ap, sym, refl, subst, ℕ, zero, suc, ◌+◌, ◌<◌, Bool, true, false, ◌||◌, List, [], ◌∷◌, ◌++◌, length, length-append}
use Rattle.std.proofs.Common.{arith}
use Rattle.std.specs.Prelude.{not, slice_index_or}
use Rattle.hir_worklist.specs.Moves.{Appends, Wakes}
use Rattle.hir_worklist.specs.Queue.{IsIdle, Queue, count_of, is_among}
use Rattle.hir_worklist.specs.Waking.{IsLonger, IsSamePass, KeepsQueued}
use Rattle.hir_worklist.proofs.Idle.{current-woken_outside, idle-appended}

-- ---- the pass

pub same_pass : (q : Queue) → IsSamePass q q
same_pass q = record { finished = refl; next = refl; end = refl; outside = λ e f. e }

pub pass_woken : (q r : Queue) (chosen : ℕ → Bool) → Wakes q r chosen → IsSamePass q r
pass_woken q r chosen w = record { finished = w.finished; next = w.next; end = w.end; outside = current-woken_outside q r chosen w }

pub pass_join : (p q r : Queue) → IsSamePass p q → IsSamePass q r → IsSamePass p r
pass_join p q r first then = record {
  finished = then.finished ∙ first.finished;
  next = then.next ∙ first.next;
  end = then.end ∙ first.end;
  outside = λ e f. then.outside (first.outside e f) (first.end ∙ f);
}

-- ---- what is to be taken in the pass

pub queued_still : (q : Queue) → KeepsQueued q q
queued_still q = record { still = λ p e. e }

pub queued_join : (p q r : Queue) → KeepsQueued p q → KeepsQueued q r → KeepsQueued p r
queued_join p q r first then = record { still = λ k e. then.still k (first.still k e) }

either_true : (a b : Bool) → a ≡ true → (a || b) ≡ true
either_true a b e = ap (λ (x : Bool). x || b) e

pub queued_woken : (q r : Queue) (chosen : ℕ → Bool) → Wakes q r chosen → KeepsQueued q r
queued_woken q r chosen w = record { still = λ p e. w.current p ∙ either_true (is_among p q.current) _ e }

-- ---- things that are appended

below_unfinished : (finished : List Bool) (p : ℕ) → not (slice_index_or finished p true) ≡ true → p < length finished
below_unfinished [] p e = absurd cc
below_unfinished (x ∷ xs) zero e = omega arith
below_unfinished (x ∷ xs) (suc p) e = let below : p < length xs = below_unfinished xs p e in omega arith

-- what isn't finished is there
pub idle_below : (q : Queue) (p : ℕ) → IsIdle q p → p < count_of q
idle_below q p idle = below_unfinished q.finished p idle.unfinished

-- the last thing isn't finished
push_unfinished : (finished : List Bool) (p : ℕ) → ((k : ℕ) → k < length finished → not (slice_index_or finished k true) ≡ true)
    → p < length (finished ++ false ∷ [])
    → not (slice_index_or (finished ++ false ∷ []) p true) ≡ true
push_unfinished [] zero all below = refl
push_unfinished [] (suc p) all below = absurd (omega arith)
push_unfinished (x ∷ xs) zero all below = all 0 (omega arith)
push_unfinished (x ∷ xs) (suc p) all below = push_unfinished xs p (λ k l. all (suc k) (omega arith)) (omega arith)

pub as_long : (q : Queue) → IsLonger q q
as_long q = record { idle = λ p i. i; unfinished = λ all p below. all p below; current = refl; end = refl }

pub one_longer : (q r s : Queue) → IsLonger q r → Appends r s → IsLonger q s
one_longer q r s first then = record {
  idle = λ p i. first.idle p (idle-appended r s p then i).0;
  unfinished = λ all p below.
      subst (λ (f : List Bool). not (slice_index_or f p true) ≡ true) (sym then.finished)
      (push_unfinished r.finished p (first.unfinished all) (subst (λ (f : List Bool). p < length f) then.finished below));
  current = then.current ∙ first.current;
  end = then.end ∙ first.end;
}

pub counts_one : (r s : Queue) → Appends r s → count_of s ≡ count_of r + 1
counts_one r s a = ap (λ (f : List Bool). length f) a.finished ∙ length-append r.finished (false ∷ [])
