-- What watches slots, and what is queued where they change.
use Rattle.std.proofs.Common.{◌≡◌, ◌∙◌, ap, sym, subst, suc, ℕ, ◌+◌, ◌<◌, ◌≤◌, Option, None, Some, List, [], ◌∷◌, ◌++◌}
use Rattle.std.proofs.Common.{length, drop, get_or, arith}
use Rattle.std.proofs.Math.Seq.{drop-cons}
use Rattle.std.proofs.lemmas.List.{append-nil, append_assoc, drop_all}
use Rattle.hir_nameres.specs.declared.nameres.path_resolution.slots.Slot.{Slot as PathSlot}
use Rattle.hir_nameres.specs.declared.nameres.path_resolution.slots.Slot.TheVariants.{Module as of_module}
use Rattle.hir_glob_imports.specs.Keys.{name_of}
use Rattle.hir_glob_imports.specs.declared.edge.Slot.{Slot}
use Rattle.hir_worklist.specs.Moves.{Wakes}
use Rattle.hir_worklist.specs.Queue.{Queue}
use Rattle.hir_worklist.specs.Watching.{Forgets, is_watching}
use Rattle.hir_worklist.specs.declared.watchers.Watchers.{Watchers}
use Rattle.hir_import_resolution.specs.Inner.Queue.{WakesEach, slot_cmp}
use Rattle.hir_worklist.specs.Waking.{more, none}
use Rattle.hir_worklist.proofs.Woken.{wakes_append}
use Rattle.hir_import_resolution.specs.Inner.State.{path_slots, slots_named}

-- where there is no name, and where there is one
pub wakes_none : (at : ℕ) (name : Option (List ℕ)) (q : Queue) (watchers : Watchers PathSlot) → name ≡ None → WakesEach q watchers q watchers
    (slots_named at name)
wakes_none at name q watchers e = subst (λ (n : Option (List ℕ)). WakesEach q watchers q watchers (slots_named at n)) (sym e) none

pub wakes_named : (at : ℕ) (name : Option (List ℕ)) (n : List ℕ) (q r : Queue) (watchers after : Watchers PathSlot) → name ≡ Some n
    → Wakes q r (is_watching slot_cmp watchers (of_module at n)) → Forgets slot_cmp watchers after (of_module at n) → WakesEach r after q watchers
    (slots_named at name)
wakes_named at name n q r watchers after e wakes forgets =
    subst (λ (m : Option (List ℕ)). WakesEach r after q watchers (slots_named at m)) (sym e) (more q r watchers after (of_module at n) [] wakes forgets none)

-- one of the slots that are left, and the others
pub wakes_next : (slots : List Slot) (s : Slot) (name : Option (List ℕ)) (n : ℕ) (r : Queue) (after : Watchers PathSlot) (q between : Queue)
    (watchers left : Watchers PathSlot)
    → n < length slots → get_or slots n s ≡ s → name ≡ name_of s.key → WakesEach between left q watchers (slots_named s.at name)
    → WakesEach r after between left (path_slots (drop (n + 1) slots))
    → WakesEach r after q watchers (path_slots (drop n slots))
wakes_next slots s name n r after q between watchers left below is named first then =
    subst (λ (xs : List Slot). WakesEach r after q watchers (path_slots xs)) (sym (drop-cons slots n s below ∙ (λ i. is i ∷ drop (suc n) slots)))
    (wakes_append slot_cmp r between after left q watchers (slots_named s.at (name_of s.key)) (path_slots (drop (suc n) slots))
    (subst (λ (m : Option (List ℕ)). WakesEach between left q watchers (slots_named s.at m)) named first)
    (subst (λ (m : ℕ). WakesEach r after between left (path_slots (drop m slots))) (add_one n) then))
  where
    add_one : (n : ℕ) → n + 1 ≡ suc n
    add_one n = omega arith

-- no slot is left
pub wakes_no_more : (slots : List Slot) (n : ℕ) (q : Queue) (watchers : Watchers PathSlot) → length slots ≤ n → WakesEach q watchers q watchers
    (path_slots (drop n slots))
wakes_no_more slots n q watchers over = subst (λ (xs : List Slot). WakesEach q watchers q watchers (path_slots xs)) (sym (drop_all n slots over)) none

-- ---- what is reported

pub reported_next : (slots : List Slot) (s : Slot) (name : Option (List ℕ)) (n : ℕ) (told : List PathSlot) → n < length slots → get_or slots n s ≡ s → name
    ≡ name_of s.key
    → (told ++ slots_named s.at name) ++ path_slots (drop (n + 1) slots) ≡ told ++ path_slots (drop n slots)
reported_next slots s name n told below is named =
    append_assoc told (slots_named s.at name) (path_slots (drop (n + 1) slots))
    ∙ (λ i. told ++ (slots_named s.at (named i) ++ path_slots (drop (add_one n i) slots)))
    ∙ sym (ap (λ (xs : List Slot). told ++ path_slots xs) (drop-cons slots n s below ∙ (λ i. is i ∷ drop (suc n) slots)))
  where
    add_one : (n : ℕ) → n + 1 ≡ suc n
    add_one n = omega arith

pub reported_all : (slots : List Slot) (n : ℕ) (told : List PathSlot) → length slots ≤ n → told ≡ told ++ path_slots (drop n slots)
reported_all slots n told over = sym (ap (λ (xs : List Slot). told ++ path_slots xs) (drop_all n slots over) ∙ append-nil told)
