-- What waits stays, and what was handled stays so; what rounds of calls come to, one after another.
use Rattle.std.proofs.Common.{◌≡◌, ◌∙◌, inl, inr, ℕ, ◌+◌, ◌<◌, ◌≤◌, List, ◌++◌, length, slice_get, slice_set, Some, refl, sym, ap, subst, arith}
use Rattle.hir_nameres.specs.HirDefMapRules.Overlay.{Maps}
use Rattle.hir_import_rules.specs.Rules.{acts as import_acts}
use Rattle.hir_collector_rules.specs.Types.{Fate, MacroDirective}
use Rattle.hir_collector_rules.specs.declared.macro_directive.Fate.TheVariants.{GivenUp, Handled, Waits}
use Rattle.hir_collector_rules.specs.Calls.{IsWaiting, error_of}
use Rattle.hir_collector_rules.specs.Keys.{Environment}
use Rattle.hir_collector_rules.specs.State.{State, all_wait, import_state}
use Rattle.hir_collector_rules.specs.Changes.{Change, lists, makes, gives_variants, begins_paths, reaches, awaits, ends, meets_eager, settles}
use Rattle.hir_collector_rules.specs.Changes.{changes_imports, adds_textual}
use Rattle.hir_collector_rules.specs.Changes.{takes_textual, defines, describes, helps, lists_derive, notes, exports, uses_macros, tells, goes_on, act, perform}
use Rattle.hir_collector_rules.specs.Rounds as rounds
use Rattle.hir_collector_rules.specs.Rounds.{HasManyRounds, Rounds, WasTried, handled, met}
use Rattle.hir_collector_rules.specs.Steps.{Rule, drops_item, awaits_attribute, lists_derives, faults_derive, exports_macro, reaches_call, rests}
use Rattle.hir_collector_rules.specs.Steps.{expands_call, meets_macro}
use Rattle.hir_collector_rules.specs.Steps.{drops_call, drops_reached, derives_builtin, skips_attribute, falls_back, defines_rules, defines_macro}
use Rattle.hir_collector_rules.specs.Steps.{closes_module, declares_item, declares_enum, lists_constant, lists_impl, opens_module, opens_file, drops_file}
use Rattle.hir_collector_rules.specs.Steps.{misses_file, enters_block, reaches_imports, reaches_crate, resolves_imports, May, acts, after, asking, Step, Steps}
use Rattle.hir_collector_rules.specs.Steps.{none, more}
use Rattle.hir_collector_rules.proofs.Bound.{number_same_or_not}
use Rattle.hir_collector_rules.proofs.Changes.{AllFine, all_fine, fine_bringing, fine_expanding, fine_macro, fine_reporting, perform_keeps}
use Rattle.hir_collector_rules.proofs.Lists.{get_inside, get_left, get_set_other, get_set_same, get_there, length_both, length_mapped, length_set}
use Rattle.hir_collector_rules.proofs.Moves.{Steps-append}

-- ---- calls

-- calls stay where they are, those that were handled stay so, and of those that there were none begins to wait; and as many may be expanded, or more
pub record KeepsCalls (old new : State) : Type 0 where
  pub longer : length old.core.calls ≤ length new.core.calls
  pub as_long : length old.core.fates ≤ length new.core.fates
  pub calls : (i : ℕ) (d : MacroDirective) → slice_get old.core.calls i ≡ Some d → slice_get new.core.calls i ≡ Some d
  pub handled : (i : ℕ) → slice_get old.core.fates i ≡ Some Handled → slice_get new.core.fates i ≡ Some Handled
  pub waited : (i : ℕ) → i < length old.core.fates → slice_get new.core.fates i ≡ Some Waits → slice_get old.core.fates i ≡ Some Waits
  pub paired : length old.core.fates ≡ length old.core.calls → length new.core.fates ≡ length new.core.calls
  pub settled : old.core.settled ≤ length old.core.calls → old.core.settled ≤ new.core.settled
  pub bounded : old.core.settled ≤ length old.core.calls → new.core.settled ≤ length new.core.calls

KeepsCalls-trans : {a b c : State} → KeepsCalls a b → KeepsCalls b c → KeepsCalls a c
KeepsCalls-trans p q = record {
  longer = omega (arith, p.longer, q.longer);
  as_long = omega (arith, p.as_long, q.as_long);
  calls = λ i d h. q.calls i d (p.calls i d h);
  handled = λ i h. q.handled i (p.handled i h);
  waited = λ i low h. p.waited i low (q.waited i (omega (arith, p.as_long, low)) h);
  paired = λ h. q.paired (p.paired h);
  settled = λ h. omega (arith, p.settled h, q.settled (p.bounded h));
  bounded = λ h. q.bounded (p.bounded h);
}

-- where the calls are the same
KeepsCalls-same : (s t : State) → t.core.calls ≡ s.core.calls → t.core.fates ≡ s.core.fates → t.core.settled ≡ s.core.settled → KeepsCalls s t
KeepsCalls-same s t calls fates settled = record {
  longer = omega (arith, length_calls);
  as_long = omega (arith, length_fates);
  calls = λ i d h. subst (λ (ds : List MacroDirective). slice_get ds i ≡ Some d) (sym calls) h;
  handled = λ i h. subst (λ (fs : List Fate). slice_get fs i ≡ Some Handled) (sym fates) h;
  waited = λ i low h. subst (λ (fs : List Fate). slice_get fs i ≡ Some Waits) fates h;
  paired = λ h. length_fates ∙ h ∙ sym length_calls;
  settled = λ h. omega (arith, settled);
  bounded = λ h. omega (arith, settled, length_calls, h);
}
  where
    length_calls : length t.core.calls ≡ length s.core.calls
    length_calls = ap (λ (ds : List MacroDirective). length ds) calls

    length_fates : length t.core.fates ≡ length s.core.fates
    length_fates = ap (λ (fs : List Fate). length fs) fates

-- more calls, all of which wait
KeepsCalls-awaits : (s : State) (calls : List MacroDirective) → KeepsCalls s (act s (awaits calls))
KeepsCalls-awaits s calls = record {
  longer = omega (arith, length_calls);
  as_long = omega (arith, length_fates);
  calls = λ i d h. get_left s.core.calls calls i (get_inside s.core.calls i d h) ∙ h;
  handled = λ i h. get_left s.core.fates (all_wait calls) i (get_inside s.core.fates i Handled h) ∙ h;
  waited = λ i low h. sym (get_left s.core.fates (all_wait calls) i low) ∙ h;
  paired = λ h. omega (arith, length_calls, length_fates, as_many, h);
  settled = λ h. omega arith;
  bounded = λ h. omega (arith, length_calls, h);
}
  where
    length_calls : length (s.core.calls ++ calls) ≡ length s.core.calls + length calls
    length_calls = length_both s.core.calls calls

    length_fates : length (s.core.fates ++ all_wait calls) ≡ length s.core.fates + length (all_wait calls)
    length_fates = length_both s.core.fates (all_wait calls)

    as_many : length (all_wait calls) ≡ length calls
    as_many = length_mapped (λ (d : MacroDirective). Waits) calls

-- a call ends with this: it no longer waits, and where it was handled it stays so
record IsEnding (s : State) (i : ℕ) (fate : Fate) : Type 0 where
  ended : ¬ (fate ≡ Waits)
  still : slice_get s.core.fates i ≡ Some Handled → fate ≡ Handled

ending_handled : (s : State) (i : ℕ) → IsEnding s i Handled
ending_handled s i = record { ended = λ e. let no : ⊥ = cc in no; still = λ h. refl }

-- one that waits may be given up
ending_given_up : (s : State) (i : ℕ) → slice_get s.core.fates i ≡ Some Waits → IsEnding s i GivenUp
ending_given_up s i waits = record { ended = λ e. let no : ⊥ = cc in no; still = λ h. absurd (let no : ⊥ = cc in no) }

KeepsCalls-ends : (s : State) (i : ℕ) (fate : Fate) → IsEnding s i fate → KeepsCalls s (act s (ends i fate))
KeepsCalls-ends s i fate ending = record {
  longer = omega arith;
  as_long = omega (arith, same);
  calls = λ j d h. h;
  handled = handled_still;
  waited = waited_before;
  paired = λ h. same ∙ h;
  settled = λ h. omega arith;
  bounded = λ h. h;
}
  where
    same : length (slice_set s.core.fates i fate) ≡ length s.core.fates
    same = length_set s.core.fates i fate

    -- it has this fate, where there is one at its place
    set : (j : ℕ) → j ≡ i → j < length s.core.fates → slice_get (slice_set s.core.fates i fate) j ≡ Some fate
    set j here low =
        subst (λ (k : ℕ). slice_get (slice_set s.core.fates i fate) k ≡ Some fate) (sym here)
        (get_set_same s.core.fates i fate (subst (λ (k : ℕ). k < length s.core.fates) here low))

    handled_still : (j : ℕ) → slice_get s.core.fates j ≡ Some Handled → slice_get (slice_set s.core.fates i fate) j ≡ Some Handled
    handled_still j h = elim (number_same_or_not j i) [
      | inl here ↦
          set j here (get_inside s.core.fates j Handled h)
          ∙ ap (λ (f : Fate). Some f) (ending.still (subst (λ (k : ℕ). slice_get s.core.fates k ≡ Some Handled) here h))
      | inr other ↦ get_set_other s.core.fates i j fate other ∙ h
    ]

    waited_before : (j : ℕ) → j < length s.core.fates → slice_get (slice_set s.core.fates i fate) j ≡ Some Waits → slice_get s.core.fates j ≡ Some Waits
    waited_before j low h = elim (number_same_or_not j i) [
      | inl here ↦
          let is : Some fate ≡ Some Waits = sym (set j here low) ∙ h in
          absurd (ending.ended cc)
      | inr other ↦ sym (get_set_other s.core.fates i j fate other) ∙ h
    ]

-- all that there are may be expanded
KeepsCalls-settles : (s : State) → KeepsCalls s (act s settles)
KeepsCalls-settles s = record {
  longer = omega arith;
  as_long = omega arith;
  calls = λ i d h. h;
  handled = λ i h. h;
  waited = λ i low h. h;
  paired = λ h. h;
  settled = λ h. h;
  bounded = λ h. omega arith;
}

-- ---- changes

-- what waits ends so
abbrev EndsCalls : State → Change → Type 0
EndsCalls s (ends i fate) = IsEnding s i fate
EndsCalls s other = Unit {0}

KeepsCalls-act : (s : State) (c : Change) → EndsCalls s c → KeepsCalls s (act s c)
KeepsCalls-act s (lists home d) fine = KeepsCalls-same s (act s (lists home d)) refl refl refl
KeepsCalls-act s (makes home name origin visibility) fine = KeepsCalls-same s (act s (makes home name origin visibility)) refl refl refl
KeepsCalls-act s (gives_variants id variants) fine = KeepsCalls-same s (act s (gives_variants id variants)) refl refl refl
KeepsCalls-act s (begins_paths r) fine = KeepsCalls-same s (act s (begins_paths r)) refl refl refl
KeepsCalls-act s (reaches rs) fine = KeepsCalls-same s (act s (reaches rs)) refl refl refl
KeepsCalls-act s (awaits calls) fine = KeepsCalls-awaits s calls
KeepsCalls-act s (ends i fate) fine = KeepsCalls-ends s i fate fine
KeepsCalls-act s (meets_eager i seen) fine = KeepsCalls-same s (act s (meets_eager i seen)) refl refl refl
KeepsCalls-act s settles fine = KeepsCalls-settles s
KeepsCalls-act s (changes_imports c) fine = KeepsCalls-same s (act s (changes_imports c)) refl refl refl
KeepsCalls-act s (adds_textual home name makro) fine = KeepsCalls-same s (act s (adds_textual home name makro)) refl refl refl
KeepsCalls-act s (takes_textual home from) fine = KeepsCalls-same s (act s (takes_textual home from)) refl refl refl
KeepsCalls-act s (defines node makro) fine = KeepsCalls-same s (act s (defines node makro)) refl refl refl
KeepsCalls-act s (describes makro what) fine = KeepsCalls-same s (act s (describes makro what)) refl refl refl
KeepsCalls-act s (helps node helper) fine = KeepsCalls-same s (act s (helps node helper)) refl refl refl
KeepsCalls-act s (lists_derive home imp) fine = KeepsCalls-same s (act s (lists_derive home imp)) refl refl refl
KeepsCalls-act s (notes home invocation) fine = KeepsCalls-same s (act s (notes home invocation)) refl refl refl
KeepsCalls-act s (exports f makro) fine = KeepsCalls-same s (act s (exports f makro)) refl refl refl
KeepsCalls-act s (uses_macros macros by) fine = KeepsCalls-same s (act s (uses_macros macros by)) refl refl refl
KeepsCalls-act s (tells d) fine = KeepsCalls-same s (act s (tells d)) refl refl refl
KeepsCalls-act s (goes_on tasks) fine = KeepsCalls-same s (act s (goes_on tasks)) refl refl refl

-- ---- rules

ends_calls : (finished : Maps) (s : State) (r : Rule) → May finished s r → AllFine EndsCalls (asking s r) (acts finished s r)
ends_calls finished s (declares_item v d rest) may = (tt, (tt, (tt, tt)))
ends_calls finished s (declares_enum site head name found rest) may = (tt, (tt, (tt, (tt, tt))))
ends_calls finished s (opens_module site head name items rest) may = (tt, (tt, (tt, (tt, (tt, tt)))))
ends_calls finished s (opens_file site head name search file rest) may = (tt, (tt, (tt, (tt, (tt, tt)))))
ends_calls finished s (misses_file site head name search report rest) may = (tt, (tt, (tt, (tt, (tt, (tt, tt))))))
ends_calls finished s (reaches_imports site head tree rest) may = (tt, (tt, (tt, tt)))
ends_calls finished s (reaches_crate site head name alias rest) may = (tt, (tt, (tt, (tt, (tt, tt)))))
ends_calls finished s (defines_rules site head name expander helpers rest) may =
    (tt, (tt, (tt, (tt, fine_macro EndsCalls _ _ expander (λ t. tt) head name _ (λ t. tt) _))))
ends_calls finished s (defines_macro site head name expander helpers rest) may = (tt, (tt, (tt, (tt, (tt, fine_reporting EndsCalls _ _ expander (λ t. tt) _)))))
ends_calls finished s (lists_derives v at a adt paths call rest) may = (tt, (tt, (tt, tt)))
ends_calls finished s (exports_macro site head name d e rest) may = (tt, (tt, (tt, (tt, (tt, (tt, (tt, tt)))))))
ends_calls finished s rests may = (tt, tt)
ends_calls finished s (expands_call i d makro x) may =
    (ending_handled (asking s (expands_call i d makro x)) i, (tt, (tt, fine_expanding EndsCalls _ (λ t helper. tt) _ _ d (error_of x.there) (λ t text. tt) _)))
ends_calls finished s (meets_macro i d makro x) may = (tt, tt)
ends_calls finished s (drops_call i d) may = (ending_handled (asking s (drops_call i d)) i, tt)
ends_calls finished s (drops_reached i d makro) may = (ending_handled (asking s (drops_reached i d makro)) i, fine_bringing EndsCalls _ (λ t helper. tt) _ _)
ends_calls finished s (derives_builtin i d makro imp) may =
    (ending_handled (asking s (derives_builtin i d makro imp)) i, (tt, (tt, fine_bringing EndsCalls _ (λ t helper. tt) _ _)))
ends_calls finished s (skips_attribute i d k item) may = (ending_handled (asking s (skips_attribute i d k item)) i, (tt, tt))
ends_calls finished s (falls_back i d k item) may = (ending_given_up (asking s (falls_back i d k item)) i may.waiting.waits, (tt, (tt, tt)))
ends_calls finished s (resolves_imports rule) may = all_fine EndsCalls (λ t c. tt) (import_acts finished (import_state s) rule) s
ends_calls finished s other may = (tt, (tt, tt))

-- ---- steps

KeepsCalls-Step : {env : Environment} {finished : Maps} {old new : State} → Step env finished old new → KeepsCalls old new
KeepsCalls-Step {finished = finished} {old = old} step =
    let done : KeepsCalls old (perform (asking old step.rule) (acts finished old step.rule)) =
    perform_keeps (KeepsCalls old) EndsCalls (λ s c kept fine. KeepsCalls-trans kept (KeepsCalls-act s c fine)) (acts finished old step.rule)
    (asking old step.rule)
    (KeepsCalls-same old (asking old step.rule) refl refl refl) (ends_calls finished old step.rule step.may) in
    subst (KeepsCalls old) (sym step.is) (KeepsCalls-trans done (KeepsCalls-same _ (after finished old step.rule) refl refl refl))

pub keeps_calls : {env : Environment} {finished : Maps} {from to : State} → Steps env finished from to → KeepsCalls from to
keeps_calls {from = from} none = KeepsCalls-same from from refl refl refl
keeps_calls (more old new before step) = KeepsCalls-trans (keeps_calls before) (KeepsCalls-Step step)

module _ {env : Environment} {finished : Maps} {from to : State} (steps : Steps env finished from to) where
  -- a call that was handled stays so, and the call at a place stays the same
  pub handled_stays : (i : ℕ) → slice_get from.core.fates i ≡ Some Handled → slice_get to.core.fates i ≡ Some Handled
  handled_stays = (keeps_calls steps).handled

  pub call_stays : (i : ℕ) (d : MacroDirective) → slice_get from.core.calls i ≡ Some d → slice_get to.core.calls i ≡ Some d
  call_stays = (keeps_calls steps).calls

  pub calls_longer : length from.core.calls ≤ length to.core.calls
  calls_longer = (keeps_calls steps).longer

  -- as many may be expanded, or more
  pub settled_more : from.core.settled ≤ length from.core.calls → from.core.settled ≤ to.core.settled
  settled_more = (keeps_calls steps).settled

  pub settled_bounded : from.core.settled ≤ length from.core.calls → to.core.settled ≤ length to.core.calls
  settled_bounded = (keeps_calls steps).bounded

  -- each call has its fate
  pub fates_paired : length from.core.fates ≡ length from.core.calls → length to.core.fates ≡ length to.core.calls
  fates_paired = (keeps_calls steps).paired

  -- a call that waits waited already where it was there
  pub waiting_before : {i : ℕ} {d : MacroDirective} → length from.core.fates ≡ length from.core.calls → IsWaiting to i d → i < length from.core.calls
      → IsWaiting from i d
  waiting_before {i = i} {d = d} paired waiting low =
      let was = get_there from.core.calls i low in
      let still : slice_get to.core.calls i ≡ Some was.0 = call_stays i was.0 was.1 in
      let now : slice_get to.core.calls i ≡ Some d = waiting.call in
      let same : was.0 ≡ d = cc in
      record {
        call = subst (λ (x : MacroDirective). slice_get from.core.calls i ≡ Some x) same was.1;
        waits = (keeps_calls steps).waited i (omega (arith, paired, low)) waiting.waits;
      }

-- ---- rounds

-- a call that was tried has been tried later too
pub WasTried-extend : {env : Environment} {finished : Maps} {a b c : State} {i : ℕ} → Steps env finished b c → WasTried env finished a b i
    → WasTried env finished a c i
WasTried-extend {i = i} steps (handled is) = handled (handled_stays steps i is)
WasTried-extend steps (met between before after nowhere) = met between before (Steps-append after steps) nowhere

-- the steps of rounds
pub rounds_steps : {env : Environment} {finished : Maps} {from to : State} {n : ℕ} → Rounds env finished from to n → Steps env finished from to
rounds_steps (rounds.none to steps) = steps
rounds_steps (rounds.more a b to n before steps round) = Steps-append (rounds_steps before) (Steps-append steps round.steps)

-- steps before rounds, and behind them
pub rounds_after : {env : Environment} {finished : Maps} {from at to : State} {n : ℕ} → Steps env finished from at → Rounds env finished at to n
    → Rounds env finished from to n
rounds_after first (rounds.none to steps) = rounds.none to (Steps-append first steps)
rounds_after first (rounds.more a b to n before steps round) = rounds.more a b to n (rounds_after first before) steps round

pub many_after : {env : Environment} {finished : Maps} {from at to : State} → Steps env finished from at → HasManyRounds env finished at to
    → HasManyRounds env finished from to
many_after first m = record { count = m.count; last = m.last; rounds = rounds_after first m.rounds; many = m.many; after = m.after }
