-- A pass over the calls that are queued is a round: each other call would be tried in vain.
use Rattle.std.proofs.Common.{◌≡◌, ◌∙◌, ◌⊎◌, inl, inr, ◌==◌, ◌&&◌, ◌||◌, sym, refl, subst, ap, ℕ, ◌+◌, ◌<◌, Bool, true, false, List, [], length, slice_get}
use Rattle.std.proofs.Common.{None, Some, cond, arith, add-one}
use Rattle.std.proofs.lemmas.Bool.Decides.{nat_tests}
use Rattle.std.specs.Prelude.{not}
use Rattle.hir_collector_state.specs.HirDefMapRules.Overlay.{Maps}
use Rattle.hir_collector_state.specs.HirImportRules.Rest.{IsAtRest}
use Rattle.hir_worklist.specs.Moves.{Takes, opened}
use Rattle.hir_worklist.specs.Queue.{IsIdle, Queue, count_of, is_among}
use Rattle.hir_call_queue.specs.Waking.{worklist_of}
use Rattle.hir_worklist.specs.Waking.{KeepsQueued}
use Rattle.hir_call_queue.specs.declared.queue.CallQueue.{CallQueue}
use Rattle.hir_collector_state.specs.HirCollectorRules.declared.macro_directive.Fate.TheVariants.{Handled, Waits}
use Rattle.hir_collector_state.specs.HirCollectorRules.declared.macro_directive.MacroDirective.{MacroDirective}
use Rattle.hir_collector_state.specs.HirCollectorRules.CallMoves.{ComesToRest, NoneWaits, OnlyMeets, TriesCall, TriesCalls, handled, idle, left, rested, round}
use Rattle.hir_collector_state.specs.HirCollectorRules.Calls.{IsWaiting, LeadsNowhere}
use Rattle.hir_collector_state.specs.HirCollectorRules.Keys.{Environment}
use Rattle.hir_collector_state.specs.HirCollectorRules.Rounds as rounds
use Rattle.hir_collector_state.specs.HirCollectorRules.Rounds.{IsRound, Rises, Rounds, WasTried, met, more}
use Rattle.hir_collector_state.specs.HirCollectorRules.State.{Core, State, at_rest, import_state}
use Rattle.hir_collector_state.specs.HirCollectorRules.Steps as steps
use Rattle.hir_collector_state.specs.HirCollectorRules.Steps.{Steps}
use Rattle.hir_collector_imports.specs.Waiting.{IsUpToDate}
use Rattle.hir_collector_state.proofs.HirCollectorRules.Lists.{get_inside}
use Rattle.hir_collector_state.proofs.HirCollectorRules.Moves.{Steps-append}
use Rattle.hir_collector_state.proofs.HirCollectorRules.Tried.{WasTried-extend, handled_stays, rounds_steps, waiting_before}
use Rattle.hir_macro_calls.proofs.Meeting.{meets_more, meets_none, nowhere_still, rests_still}

-- the calls were tried that aren't left: one was handled, or nothing was done but that calls met eager macros
pub data AreTried (env : Environment) (finished : Maps) (old now : Core) (places : List ℕ) : Bool → Type 0 where
  nothing_done : OnlyMeets old now → ((k : ℕ) → is_among k places ≡ false → LeadsNowhere finished (at_rest now) k) → AreTried env finished old now places false
  some_handled : Rises (at_rest old) (at_rest now) → ((k : ℕ) (d : MacroDirective) → is_among k places ≡ false → IsWaiting (at_rest old) k d
      → WasTried env finished (at_rest old) (at_rest now) k)
      → AreTried env finished old now places true

-- those are left that were, but for the one that was tried; and others may be
pub left_or_tried : (q r s : Queue) (i : ℕ) → Takes q r i → KeepsQueued r s → (k : ℕ) → is_among k s.current ≡ false → (i ≡ k) ⊎ (is_among k q.current ≡ false)
left_or_tried q r s i takes keeps k none = go (is_among k q.current) refl (i == k) refl
  where
    gone : (b : Bool) → is_among k r.current ≡ b → is_among k r.current ≡ false
    gone false e = e
    gone true e = let still : is_among k s.current ≡ true = keeps.still k e in absurd (let no : ⊥ = cc in no)

    go : (a : Bool) → is_among k q.current ≡ a → (b : Bool) → (i == k) ≡ b → (i ≡ k) ⊎ (is_among k q.current ≡ false)
    go false e b f = inr e
    go true e true f = inl (grind (arith, nat_tests))
    go true e false f =
        let here : is_among k r.current ≡ true = takes.others k ∙ (λ j. e j && not (f j)) in
        let out : is_among k r.current ≡ false = gone (is_among k r.current) refl in
        absurd (let no : ⊥ = cc in no)

-- so many rounds, and behind them other steps
pub record HasRounds (env : Environment) (finished : Maps) (from to : State) (n : ℕ) : Type 0 where
  pub last : State
  pub rounds : Rounds env finished from last n
  pub after : Steps env finished last to

module _ (env : Environment) (finished : Maps) (old : Core) where
  -- at first all are left that are queued
  pub tried_first : (q : CallQueue) → IsUpToDate finished q old None → (worklist_of q).current ≡ [] → count_of (worklist_of q) ≡ length old.calls
      → AreTried env finished old old (opened (worklist_of q)).current false
  tried_first q up over all = nothing_done (meets_none old old refl) (λ k out. record {
    shallow = λ d waits. up.shallow k d (rests k d out waits) (λ none. absurd cc) waits;
    nowhere = λ d waits. up.nowhere k d (rests k d out waits) (λ none. absurd cc) waits;
    active = λ d waits. up.active k d (rests k d out waits) (λ none. absurd cc) waits;
  })
    where
      rests : (k : ℕ) (d : MacroDirective) → is_among k (worklist_of q).later ≡ false → IsWaiting (at_rest old) k d → IsIdle (worklist_of q) k
      rests k d out waits =
          let inside : k < length old.calls = get_inside old.calls k d waits.call in
          record {
            unfinished = up.unfinished k (omega (arith, inside, all));
            not_queued = ap (λ (ps : List ℕ). is_among k ps || is_among k (worklist_of q).later) over ∙ out;
          }

  module _ (now new : Core) (i : ℕ) (inside : i < length old.calls) (fated : length old.fates ≡ length old.calls) (before after : List ℕ)
      (fewer : (k : ℕ) → is_among k after ≡ false → (i ≡ k) ⊎ (is_among k before ≡ false))
      (so_far : Steps env finished (at_rest old) (at_rest now)) (step : Steps env finished (at_rest now) (at_rest new)) where
    abbrev Tried : Core → ℕ → Type 0
    Tried c k = (d : MacroDirective) → IsWaiting (at_rest old) k d → WasTried env finished (at_rest old) (at_rest c) k

    -- what holds of those that weren't left before, and of the one that was tried
    one_more : (P : ℕ → Type 0) → ((k : ℕ) → is_among k before ≡ false → P k) → P i → (k : ℕ) → is_among k after ≡ false → P k
    one_more P others here k out = go (fewer k out)
      where
        go : (i ≡ k) ⊎ (is_among k before ≡ false) → P k
        go (inl same) = subst P same here
        go (inr gone) = others k gone

    rises_here : (d : MacroDirective) → IsWaiting (at_rest now) i d → slice_get new.fates i ≡ Some Handled → Rises (at_rest old) (at_rest new)
    rises_here d waits done = record { place = i; call = d; waited = waiting_before so_far fated waits inside; handled = done }

    pub tried_next : (done progress : Bool) → AreTried env finished old now before progress → TriesCall finished now new i done → AreTried env finished old new
        after (cond done true progress)
    tried_next false false (nothing_done same nowhere) (left stays here) =
        nothing_done (meets_more same stays)
        (one_more (LeadsNowhere finished (at_rest new)) (λ k gone. nowhere_still now new stays step k (nowhere k gone)) here)
    tried_next false true (some_handled rises tried) (left stays here) =
        some_handled
        (record { place = rises.place; call = rises.call; waited = rises.waited; handled = handled_stays step rises.place rises.handled })
        (λ k d out waits. one_more (Tried new) (λ j gone e w. WasTried-extend step (tried j e gone w))
        (λ e w. met (at_rest new) (Steps-append so_far step) steps.none here) k out d waits)
    tried_next true false (nothing_done same nowhere) (handled d waits done) =
        some_handled (rises_here d waits done)
        (λ k e out w. one_more (Tried new) (λ j gone f v. met (at_rest now) so_far step (nowhere j gone)) (λ f v. rounds.handled done)
        k out e w)
    tried_next true true (some_handled rises tried) (handled d waits done) =
        some_handled (rises_here d waits done)
        (λ k e out w. one_more (Tried new) (λ j gone f v. WasTried-extend step (tried j f gone v)) (λ f v. rounds.handled done) k out e w)

  -- where none is left, a round was gone through, or nothing was done
  pub tried_all : (new : Core) (places : List ℕ) (progress : Bool) → places ≡ [] → Steps env finished (at_rest old) (at_rest new)
      → AreTried env finished old new places progress → TriesCalls env finished old new progress
  tried_all new places false none so_far (nothing_done same nowhere) = idle same (λ i. nowhere i (ap (is_among i) none))
  tried_all new places true none so_far (some_handled rises tried) =
      round (record { steps = so_far; tried = λ i d waits. tried i d (ap (is_among i) none) waits; rises = rises })

  -- ---- rounds

  -- one more, behind those that there were and other steps
  pub rounds_next : (now : State) (begun new : Core) (n : ℕ) → HasRounds env finished (at_rest old) now n → Steps env finished now (at_rest begun)
      → IsRound env finished (at_rest begun) (at_rest new)
      → HasRounds env finished (at_rest old) (at_rest new) (n + 1)
  rounds_next now begun new n before between of_round = record {
    last = at_rest new;
    rounds =
        subst (λ (m : ℕ). Rounds env finished (at_rest old) (at_rest new) m) (sym (add-one n)) (more before.last (at_rest begun) (at_rest new) n before.rounds
        (Steps-append before.after between) of_round);
    after = steps.none;
  }

  -- as many, with more steps behind them
  pub rounds_then : (now : State) (new : State) (n : ℕ) → HasRounds env finished (at_rest old) now n → Steps env finished now new
      → HasRounds env finished (at_rest old) new n
  rounds_then now new n before between = record { last = before.last; rounds = before.rounds; after = Steps-append before.after between }

  -- all of it is steps
  pub has_rounds_steps : (now : State) (n : ℕ) → HasRounds env finished (at_rest old) now n → Steps env finished (at_rest old) now
  has_rounds_steps now n before = Steps-append (rounds_steps before.rounds) before.after

  -- where a call was handled, this was one
  pub of_round : (settled new : Core) (progress : Bool) → progress ≡ true → TriesCalls env finished settled new progress
      → IsRound env finished (at_rest settled) (at_rest new)
  of_round settled new false some_handled_here tried = absurd (let no : ⊥ = cc in no)
  of_round settled new true some_handled_here (round is) = is

  -- where none was, calls met eager macros at most, and nothing that waits reaches a macro with all that this asks for first
  pub none_handled : (settled new : Core) (progress : Bool) → progress ≡ false → TriesCalls env finished settled new progress → OnlyMeets settled new
      × ((i : ℕ) → LeadsNowhere finished (at_rest new) i)
  none_handled settled new true no_progress tried = absurd (let no : ⊥ = cc in no)
  none_handled settled new false no_progress (idle same nowhere) = (same, nowhere)

  -- and where no attribute waited either, imports rest still
  pub rests_idle : (settled tried new : Core) → IsAtRest finished (import_state (at_rest settled)) → OnlyMeets settled tried
      → ((i : ℕ) → LeadsNowhere finished (at_rest tried) i) → new ≡ tried → NoneWaits tried
      → ComesToRest env finished old new false
  rests_idle settled tried new rest meets nowhere stays none =
      rested (subst (λ (c : Core). IsAtRest finished (import_state (at_rest c))) (sym stays) (rests_still finished settled tried meets rest))
      (λ i. subst (λ (c : Core). LeadsNowhere finished (at_rest c) i) (sym stays) (nowhere i))
      (subst NoneWaits (sym stays) none)

-- what is queued changes nothing
pub requeued_steps : (env : Environment) (finished : Maps) (old requeued : Core) → requeued ≡ old → Steps env finished (at_rest old) (at_rest requeued)
requeued_steps env finished old requeued same = subst (λ (core : Core). Steps env finished (at_rest old) (at_rest core)) (sym same) steps.none

-- ---- what was done with one call

-- one that was handled doesn't wait any more
pub was_handled : (finished : Maps) (old new : Core) (i : ℕ) (done : Bool) → TriesCall finished old new i done → done ≡ true → slice_get new.fates i
    ≡ Some Handled
was_handled finished old new i true (handled d waits done) e = done
was_handled finished old new i false (left stays here) e = absurd (let no : ⊥ = cc in no)

-- one that was left reaches no macro with all that this asks for first, and nothing was done but that it met an eager one
pub was_left : (finished : Maps) (old new : Core) (i : ℕ) (done : Bool) → TriesCall finished old new i done → done ≡ false → OnlyMeets old new
    × LeadsNowhere finished (at_rest new) i
was_left finished old new i true (handled d waits done) e = absurd (let no : ⊥ = cc in no)
was_left finished old new i false (left stays here) e = (stays, here)

-- where a call was handled that waited, the state is another
pub rises_on : (from to : State) → Rises from to → ¬ (to ≡ from)
rises_on from to rises same =
    let waits : slice_get from.core.fates rises.place ≡ Some Waits = rises.waited.waits in
    let handled : slice_get from.core.fates rises.place ≡ Some Handled = subst (λ (s : State). slice_get s.core.fates rises.place ≡ Some Handled) same
    rises.handled in
    let no : ⊥ = cc in no
