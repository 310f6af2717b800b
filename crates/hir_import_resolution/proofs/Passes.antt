-- Passes, and where they end.
use Rattle.std.proofs.Common.{◌≡◌, ◌∙◌, ap, sym, refl, subst, ℕ, ◌+◌, ◌-◌, ◌<◌, ◌≤◌, ◌⊎◌, inl, inr, List, [], ◌∷◌, None, Some, arith}
use Rattle.std.proofs.Math.Nat.{eq-or-lt_of_le}
use Rattle.std.proofs.lemmas.Option.{slice_get_within}
use Rattle.std.specs.Prelude.{slice_get}
use Rattle.hir_def_map_rules.specs.Overlay.{Maps}
use Rattle.hir_nameres.specs.contracts.nameres.path_resolution.slots.SlotOrd.TheImpl.Laws.{total-law as slot_total}
use Rattle.hir_glob_imports.proofs.Resting.{waved}
use Rattle.hir_worklist.proofs.Idle.{idle-settled}
use Rattle.hir_worklist.proofs.Settled.{pass_closed, pass_opened, taken}
use Rattle.hir_worklist.specs.Moves.{Takes, closed, opened}
use Rattle.hir_worklist.specs.Queue.{Queue}
use Rattle.hir_import_resolution.specs.Types.{Resolver}
use Rattle.hir_import_rules.specs.declared.directive.ImportDirective.{ImportDirective}
use Rattle.hir_import_resolution.specs.Inner.Queue.{AreIdleSettled, IsRunning, IsSettledFor, reads_at, slot_cmp}
use Rattle.hir_import_resolution.specs.Inner.State.{finished_by, state_by}
use Rattle.hir_import_rules.specs.Names.{view_of}
use Rattle.hir_import_rules.specs.Rest.{IsAtRest, IsSettled, IsSpent}
use Rattle.hir_import_rules.specs.Rules.{Steps}
use Rattle.hir_import_rules.specs.State.{scopes_of}
use Rattle.hir_import_resolution.proofs.Counting.{spent_after, steps_append, steps_count}
use Rattle.hir_import_resolution.proofs.Running.{requeued}

-- ---- the queue

pub opened_running : (r : Resolver) (q : Queue) → IsRunning r None → r.worklist.current ≡ [] → q ≡ opened r.worklist → IsRunning (record r { worklist = q })
    None
opened_running r q old over e =
    requeued r None None q old
    (subst (λ (x : Queue). AreIdleSettled r.lasting r.apart (finished_by r) (state_by r) None x r.watchers) (sym e)
    (pass_opened slot_cmp slot_total (reads_at r.apart (finished_by r) (state_by r)) (IsSettledFor r.lasting (finished_by r) (state_by r)) None r.worklist
    r.watchers old.begun.settled over))
    (ap (λ (x : Queue). x.finished) e)

pub taken_running : (r : Resolver) (q : Queue) (i : ℕ) → IsRunning r None → Takes r.worklist q i → IsRunning (record r { worklist = q }) (Some i)
taken_running r q i old takes =
    requeued r None (Some i) q old
    (taken slot_cmp slot_total (reads_at r.apart (finished_by r) (state_by r)) (IsSettledFor r.lasting (finished_by r) (state_by r)) r.worklist q i r.watchers
    old.begun.settled takes) takes.finished

pub closed_running : (r : Resolver) (q : Queue) → IsRunning r None → q ≡ closed r.worklist → IsRunning (record r { worklist = q }) None
closed_running r q old e =
    requeued r None None q old
    (subst (λ (x : Queue). AreIdleSettled r.lasting r.apart (finished_by r) (state_by r) None x r.watchers) (sym e)
    (pass_closed slot_cmp slot_total (reads_at r.apart (finished_by r) (state_by r)) (IsSettledFor r.lasting (finished_by r) (state_by r)) None r.worklist
    r.watchers old.begun.settled))
    (ap (λ (x : Queue). x.finished) e)

-- ---- steps of one try after another

pub steps_on : (r0 r1 r2 : Resolver) → finished_by r1 ≡ finished_by r0 → Steps (finished_by r0) (state_by r0) (state_by r1)
    → Steps (finished_by r1) (state_by r1) (state_by r2)
    → Steps (finished_by r0) (state_by r0) (state_by r2)
steps_on r0 r1 r2 same first then =
    steps_append (finished_by r0) (state_by r0) (state_by r1) (state_by r2) first (subst (λ (f : Maps). Steps f (state_by r1) (state_by r2)) same then)

pub spent_on : (r0 r1 : Resolver) → finished_by r1 ≡ finished_by r0 → Steps (finished_by r0) (state_by r0) (state_by r1)
    → IsSpent (finished_by r1) (state_by r1) → IsSpent (finished_by r0) (state_by r0)
spent_on r0 r1 same first spent = spent_after (finished_by r0) (state_by r0) (state_by r1) first (subst (λ (f : Maps). IsSpent f (state_by r1)) same spent)

-- a pass that takes no step leaves nothing for the next one
pub nothing_later : (r0 r1 r2 : Resolver) (q : Queue) (i : ℕ) → Steps (finished_by r0) (state_by r0) (state_by r1) → Steps (finished_by r1) (state_by r1)
    (state_by r2)
    → (r1.count ≡ r0.count → r1.worklist.later ≡ []) → Takes r1.worklist q i → (r2.count ≡ r1.count → r2.worklist ≡ q) → r2.count ≡ r0.count → r2.worklist.later
    ≡ []
nothing_later r0 r1 r2 q i first then before takes stays same =
    let up : r0.count ≤ r1.count = steps_count (finished_by r0) (state_by r0) (state_by r1) first in
    let on : r1.count ≤ r2.count = steps_count (finished_by r1) (state_by r1) (state_by r2) then in
    ap (λ (x : Queue). x.later) (stays (omega (arith, up, on, same))) ∙ takes.later ∙ before (omega (arith, up, on, same))

-- ---- the end

-- whether there is any
abbrev pub some_of : List ℕ → ℕ
some_of [] = 0
some_of (p ∷ positions) = 1

-- a pass takes a step, or is the last
pub fewer : (limit a b : ℕ) (old new : List ℕ) → a ≤ b → b ≤ limit → ¬ (old ≡ []) → (b ≡ a → new ≡ []) → (limit - b) + some_of new < (limit - a) + some_of old
fewer limit a b [] new up small any moves = absurd (any refl)
fewer limit a b (p ∷ old) [] up small any moves = omega (arith, up, small)
fewer limit a b (p ∷ old) (k ∷ new) up small any moves = go (eq-or-lt_of_le up)
  where
    go : (a ≡ b) ⊎ (a < b) → (limit - b) + 1 < (limit - a) + 1
    go (inl same) = let none : k ∷ new ≡ [] = moves (sym same) in absurd cc
    go (inr less) = omega (arith, less, small)

-- where nothing is queued, imports rest
pub at_rest : (r : Resolver) → IsRunning r None → r.worklist.current ≡ [] → r.worklist.later ≡ [] → IsAtRest (finished_by r) (state_by r)
at_rest r old current later = record {
  settled = λ i. record { among = λ d t e f. (settled i d e).among d t e f; linked = λ d t by target e f g h. (settled i d e).linked d t by target e f g h };
  recorded = old.begun.recorded;
  closed = waved (view_of (scopes_of (finished_by r) (state_by r))) r.globs old.begun.kept old.waved;
  stands = λ slot by e. old.begun.kept.stands slot by e;
}
  where
    settled : (i : ℕ) (d : ImportDirective) → slice_get r.imports.items i ≡ Some d → IsSettled (finished_by r) (state_by r) i
    settled i d e =
        (old.begun.settled.settled i (idle-settled r.worklist i current later (old.begun.unfinished i (slice_get_within r.imports.items i d e)))
        (λ none. absurd cc)).settled

pub rest_on : (r0 r1 : Resolver) → finished_by r1 ≡ finished_by r0 → IsAtRest (finished_by r1) (state_by r1) → IsAtRest (finished_by r0) (state_by r1)
rest_on r0 r1 same rests = subst (λ (f : Maps). IsAtRest f (state_by r1)) same rests
