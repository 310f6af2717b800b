-- One after another is woken.
use Rattle.std.proofs.Common.{◌≡◌, ◌∙◌, ap, sym, refl, ℕ, ◌+◌, ◌<◌, Bool, true, false, ◌&&◌, ◌||◌, List, length, take, get_or, nat_eq, nat_le, nat_lt, arith}
use Rattle.std.proofs.lemmas.Bool.Decides.{nat_tests}
use Rattle.std.specs.Prelude.{not, slice_index_or}
use Rattle.std.specs.BTreeMap.{is_at}
use Rattle.std.specs.List.{list_any}
use Rattle.std.specs.Ordering.{nat_cmp}
use Rattle.std.proofs.lemmas.List.{take-append-drop}
use Rattle.std.proofs.lemmas.List.Folds.{list_any-append, list_any_more}
use Rattle.hir_worklist.specs.Moves.{Wakes, WakesSome}
use Rattle.hir_worklist.specs.Queue.{Queue, is_ahead, is_among, is_unfinished}

-- what the order calls equal is the same
pub is_at-nat : (p q : ℕ) → is_at (nat_cmp p) q ≡ nat_eq q p
is_at-nat p q = grind (arith, nat_tests)

is_unfinished-same : (q r : Queue) (p : ℕ) → r.finished ≡ q.finished → is_unfinished r p ≡ is_unfinished q p
is_unfinished-same q r p e = ap (λ (f : List Bool). not (slice_index_or f p true)) e

is_ahead-same : (q r : Queue) (p : ℕ) → r.next ≡ q.next → r.end ≡ q.end → is_ahead r p ≡ is_ahead q p
is_ahead-same q r p e f = λ i. nat_le (e i) p && nat_lt p (f i)

joined : (c t x w : Bool) → ((c || (t && w)) || (x && w)) ≡ (c || ((t || x) && w))
joined true t x w = refl
joined false true true true = refl
joined false true true false = refl
joined false true false true = refl
joined false true false false = refl
joined false false x w = refl

nested : (x u a : Bool) → ((x && u) && a) ≡ (x && (u && a))
nested true u a = refl
nested false u a = refl

-- a test of two steps
both : (c t x u a : Bool) → ((c || ((t && u) && a)) || ((x && u) && a)) ≡ (c || (((t || x) && u) && a))
both c t x u a =
    (λ i. (c || nested t u a i) || nested x u a i) ∙ joined c t x (u && a) ∙ sym (ap (λ (b : Bool). c || b) (nested (t || x) u a))

-- a step more is woken
pub Wakes-step : (q r s : Queue) (xs : List ℕ) (i : ℕ) → i < length xs → Wakes q r (λ (p : ℕ). is_among p (take i xs))
    → Wakes r s (λ (p : ℕ). nat_eq (get_or xs i 0) p)
    → Wakes q s (λ (p : ℕ). is_among p (take (i + 1) xs))
Wakes-step q r s xs i l first then = record {
  current =
      λ p. then.current p ∙ (λ j. first.current p j || ((nat_eq (get_or xs i 0) p && is_unfinished-same q r p first.finished j) && is_ahead-same q r p
      first.next first.end j))
      ∙ both (is_among p q.current) (is_among p (take i xs)) (nat_eq (get_or xs i 0) p) (is_unfinished q p) (is_ahead q p)
      ∙ ap (λ (b : Bool). is_among p q.current || ((b && is_unfinished q p) && is_ahead q p)) (sym (more p));
  later =
      λ p. then.later p ∙ (λ j. first.later p j || ((nat_eq (get_or xs i 0) p && is_unfinished-same q r p first.finished j) && not
      (is_ahead-same q r p first.next first.end j)))
      ∙ both (is_among p q.later) (is_among p (take i xs)) (nat_eq (get_or xs i 0) p) (is_unfinished q p) (not (is_ahead q p))
      ∙ ap (λ (b : Bool). is_among p q.later || ((b && is_unfinished q p) && not (is_ahead q p))) (sym (more p));
  finished = then.finished ∙ first.finished;
  next = then.next ∙ first.next;
  end = then.end ∙ first.end;
}
  where
    more : (p : ℕ) → is_among p (take (i + 1) xs) ≡ (is_among p (take i xs) || nat_eq (get_or xs i 0) p)
    more p = list_any_more (is_at (nat_cmp p)) xs i 0 l ∙ ap (λ (b : Bool). is_among p (take i xs) || b) (is_at-nat p (get_or xs i 0))

or_left : (a b : Bool) → a ≡ true → (a || b) ≡ true
or_left a b e = ap (λ (x : Bool). x || b) e

-- those that were passed are some of them
pub WakesSome-passed : (q r : Queue) (xs : List ℕ) (i : ℕ) → Wakes q r (λ (p : ℕ). is_among p (take i xs)) → WakesSome q r (λ (p : ℕ). is_among p xs)
WakesSome-passed q r xs i woken = ((λ p. is_among p (take i xs)), within, woken)
  where
    within : (p : ℕ) → is_among p (take i xs) ≡ true → is_among p xs ≡ true
    within p e =
        ap (list_any (is_at (nat_cmp p))) (sym (take-append-drop i xs)) ∙ list_any-append (is_at (nat_cmp p)) (take i xs) _ ∙ or_left (is_among p (take i xs)) _
        e
