-- What doesn't wait any more was expanded or went on, was too deep, or is a builtin derive; and an attribute that was given up went on.
use Rattle.std.proofs.Common.{◌≡◌, ◌≢◌, ◌<◌, ◌≤◌, ◌⊎◌, inl, inr, ℕ, zero, suc, List, [], ◌∷◌, ◌++◌, slice_get, slice_set, length, Some, Contains, refl, sym, ap}
use Rattle.std.proofs.Common.{subst}
use Rattle.hir_collector_rules.specs.HirIds.declared.macro_kind.BuiltinDeriveImplId.{BuiltinDeriveImplId}
use Rattle.hir_collector_rules.specs.HirIds.declared.macro_kind.MacroId.{MacroId}
use Rattle.hir_collector_rules.specs.HirIds.declared.ids.ModuleDefId.{ModuleDefId}
use Rattle.hir_collector_rules.specs.HirDefMapRules.Overlay.{Maps}
use Rattle.hir_collector_rules.specs.HirDefMapRules.State.{Map, module_at}
use Rattle.hir_collector_rules.specs.HirImportRules.Rules.{acts as import_acts}
use Rattle.hir_collector_rules.specs.declared.macro_directive.Fate.{Fate}
use Rattle.hir_collector_rules.specs.declared.macro_directive.MacroDirective.{MacroDirective}
use Rattle.hir_collector_rules.specs.declared.macro_directive.Fate.TheVariants.{GivenUp, Handled, Waits}
use Rattle.either.specs.declared.Either.TheVariants as either
use Rattle.hir_collector_rules.specs.Calls.{error_of, helpers_brought}
use Rattle.hir_collector_rules.specs.Changes.{Change, lists, makes, gives_variants, begins_paths, reaches, awaits, ends, settles, changes_imports, adds_textual}
use Rattle.hir_collector_rules.specs.Changes.{takes_textual, defines, describes, helps, lists_derive, notes, exports, uses_macros, tells, goes_on, act, perform}
use Rattle.hir_collector_rules.specs.Changes.{with_derived}
use Rattle.hir_collector_rules.specs.Invocations.{impl_noted}
use Rattle.hir_collector_rules.specs.Keys.{Environment}
use Rattle.hir_collector_rules.specs.State.{Core, State, all_wait, import_state}
use Rattle.hir_collector_rules.specs.Steps.{Rule, drops_item, awaits_attribute, lists_derives, faults_derive, exports_macro, reaches_call, rests}
use Rattle.hir_collector_rules.specs.Steps.{expands_call, meets_macro}
use Rattle.hir_collector_rules.specs.Steps.{drops_call, drops_reached, derives_builtin, skips_attribute, falls_back, defines_rules, defines_macro}
use Rattle.hir_collector_rules.specs.Steps.{closes_module, declares_item, declares_enum, lists_constant, lists_impl, opens_module, opens_file, drops_file}
use Rattle.hir_collector_rules.specs.Steps.{misses_file, enters_block, reaches_imports, reaches_crate, resolves_imports, DerivesBuiltin, May, Step, acts}
use Rattle.hir_collector_rules.specs.Steps.{asking, bringing, more, none}
use Rattle.hir_collector_rules.proofs.Changes.{AllFine, all_fine, fine_bringing, fine_expanding, fine_macro, fine_reporting, perform_keeps}
use Rattle.hir_collector_rules.proofs.InRange.{IsInRange, call_below}
use Rattle.hir_collector_rules.proofs.Tried.{call_stays}
use Rattle.hir_def_collector_laws.specs.Expansions.{Expansion, IsDone, among, builtin, derived_in, too_deep}
use Rattle.hir_def_collector_laws.proofs.BuiltinDerives.{StayDerived, StayDerived-perform, derived_now}
use Rattle.hir_def_collector_laws.proofs.Lists.{at_first, later}

-- what comes from a rule on, where this follows, and what the rule visits next declares this
abbrev pub from_rule : Rule → List ModuleDefId → List Expansion → List Expansion
from_rule (expands_call i d makro x) defs es = record { call = d; defs = defs } ∷ es
from_rule (skips_attribute i d k item) defs es = record { call = d; defs = defs } ∷ es
from_rule (falls_back i d k item) defs es = record { call = d; defs = defs } ∷ es
from_rule r defs es = es

-- ---- fates

-- of more calls, all wait
ended_left : (what : Fate) → what ≢ Waits → (fs : List Fate) (ds : List MacroDirective) (i : ℕ) → slice_get (fs ++ all_wait ds) i ≡ Some what → slice_get fs i
    ≡ Some what
ended_left what apart [] [] i e = e
ended_left what apart [] (d ∷ ds) zero e = let same : Waits ≡ what = cc in absurd (apart (sym same))
ended_left what apart [] (d ∷ ds) (suc i) e = ended_left what apart [] ds i e
ended_left what apart (f ∷ fs) ds zero e = e
ended_left what apart (f ∷ fs) ds (suc i) e = ended_left what apart fs ds i e

-- of others, those with this fate are the same
ended_set : (what : Fate) (fs : List Fate) (j : ℕ) (f : Fate) (i : ℕ) → slice_get (slice_set fs j f) i ≡ Some what → slice_get fs i ≡ Some what
    ⊎ ((j ≡ i) × (f ≡ what))
ended_set what [] j f i e = inl e
ended_set what (x ∷ xs) zero f zero e = inr (refl, cc)
ended_set what (x ∷ xs) zero f (suc i) e = inl e
ended_set what (x ∷ xs) (suc j) f zero e = inl e
ended_set what (x ∷ xs) (suc j) f (suc i) e = elim (ended_set what xs j f i e) as (λ _. slice_get xs i ≡ Some what ⊎ ((suc j ≡ suc i) × (f ≡ what))) [
  | inl h ↦ inl h
  | inr same ↦ inr (ap suc same.0, same.1)
]

-- ---- calls that come to have a fate on the way

module _ (what : Fate) (apart : what ≢ Waits) (Q : ℕ → Type 0) (old : State) where
  -- each that has it had it before, or this holds of it
  record AreEnded (s : State) : Type 0 where
    each : (i : ℕ) → slice_get s.core.fates i ≡ Some what → slice_get old.core.fates i ≡ Some what ⊎ Q i

  abbrev EndsWell : State → Change → Type 0
  EndsWell s (ends i fate) = fate ≡ what → Q i
  EndsWell s other = Unit {0}

  ended-act : (s : State) (c : Change) → AreEnded s → EndsWell s c → AreEnded (act s c)
  ended-act s (awaits calls) p fine = record { each = λ i h. p.each i (ended_left what apart s.core.fates calls i h) }
  ended-act s (ends j fate) p fine = record {
    each = λ i h. elim (ended_set what s.core.fates j fate i h) as (λ _. slice_get old.core.fates i ≡ Some what ⊎ Q i) [
      | inl before ↦ p.each i before
      | inr here ↦ inr (subst Q here.0 (fine here.1))
    ];
  }
  ended-act s other p fine = record { each = p.each }

handled_apart : Handled ≢ Waits
handled_apart e = let no : ⊥ = cc in no

given_up_apart : GivenUp ≢ Waits
given_up_apart e = let no : ⊥ = cc in no

-- ---- back over steps

module _ (last : Core) (m : Map) where
  -- the call at the place was expanded or went on later, was too deep, or is a builtin derive
  abbrev IsDoneAt : List Expansion → ℕ → Type 0
  IsDoneAt es i = (d : MacroDirective) → slice_get last.calls i ≡ Some d → IsDone m es d

  -- or it went on later
  abbrev WentOn : List Expansion → MacroDirective → Type 0
  WentOn es d = (e : Expansion) × Contains es e × (e.call ≡ d)

  abbrev WentOnAt : List Expansion → ℕ → Type 0
  WentOnAt es i = (d : MacroDirective) → slice_get last.calls i ≡ Some d → WentOn es d

  -- each call that is handled or given up in the end is so already, or later
  pub record AreDone (es : List Expansion) (s : State) : Type 0 where
    pub stays : (i : ℕ) (d : MacroDirective) → slice_get s.core.calls i ≡ Some d → slice_get last.calls i ≡ Some d
    pub derived : StayDerived s.core.map m
    pub each : (i : ℕ) → slice_get last.fates i ≡ Some Handled → slice_get s.core.fates i ≡ Some Handled ⊎ IsDoneAt es i
    pub given_up : (i : ℕ) → slice_get last.fates i ≡ Some GivenUp → slice_get s.core.fates i ≡ Some GivenUp ⊎ WentOnAt es i

  done_more : (e : Expansion) (es : List Expansion) (d : MacroDirective) → IsDone m es d → IsDone m (e ∷ es) d
  done_more e es d (among x h is) = among x (later e es x h) is
  done_more e es d (too_deep deep) = too_deep deep
  done_more e es d (builtin makro imp lone is listed) = builtin makro imp lone is listed

  went_more : (e : Expansion) (es : List Expansion) (d : MacroDirective) → WentOn es d → WentOn (e ∷ es) d
  went_more e es d p = (p.0, later e es p.0 p.1, p.2)

  -- what holds of some holds of more
  from_more : (P : List Expansion → Type 0) → ((e : Expansion) (es : List Expansion) → P es → P (e ∷ es)) → (r : Rule) (defs : List ModuleDefId)
      (es : List Expansion) → P es → P (from_rule r defs es)
  from_more P besides (expands_call i call makro x) defs es p = besides _ es p
  from_more P besides (skips_attribute i call k item) defs es p = besides _ es p
  from_more P besides (falls_back i call k item) defs es p = besides _ es p
  from_more P besides other defs es p = p

  module _ (finished : Maps) (old : State) (inside : IsInRange old) (deep : old.core.map.crate_data.recursion_limit ≡ m.crate_data.recursion_limit)
      (stays : (i : ℕ) (d : MacroDirective) → slice_get old.core.calls i ≡ Some d → slice_get last.calls i ≡ Some d) (es : List Expansion) where
    -- the call that a rule handles is done
    done_here : (i : ℕ) (call d : MacroDirective) → slice_get old.core.calls i ≡ Some call → slice_get last.calls i ≡ Some d → call ≡ d
    done_here i call d at is = let still : slice_get last.calls i ≡ Some call = stays i call at in cc

    deep_here : (i : ℕ) (d : MacroDirective) (rest : List Expansion) → slice_get old.core.calls i ≡ Some d → old.core.map.crate_data.recursion_limit ≤
        d.site.level → IsDoneAt rest i
    deep_here i d rest at past call is =
        too_deep (subst (λ (c : MacroDirective). m.crate_data.recursion_limit ≤ c.site.level) (done_here i d call at is)
        (subst (λ (n : ℕ). n ≤ d.site.level) deep past))

    -- an impl is listed
    builtin_here : (i : ℕ) (d : MacroDirective) (makro : MacroId) (imp : BuiltinDeriveImplId) → DerivesBuiltin finished old i d makro imp
        → StayDerived (perform (asking old (derives_builtin i d makro imp)) (acts finished old (derives_builtin i d makro imp))).core.map m → IsDoneAt es i
    builtin_here i d makro imp may derived call is =
        let home : d.site.home < length old.core.map.modules = call_below (length old.core.map.modules) old.core.calls i d inside.calls may.due.waiting.call in
        let now : Contains (derived_in (module_at (with_derived old.core.map d.site.home imp) d.site.home)) imp = derived_now old.core.map.modules d.site.home
        imp home in
        let listed : State = perform (asking old (derives_builtin i d makro imp)) (ends i Handled ∷ lists_derive d.site.home imp ∷ []) in
        let there : Contains (derived_in (module_at m d.site.home)) imp =
        derived d.site.home imp (StayDerived-perform (notes d.site.home (impl_noted d.ast_id imp) ∷ bringing d.ast_id
        (helpers_brought finished old.core.map d makro (Some (either.Right imp)))) listed d.site.home imp now) in
        subst (λ (c : MacroDirective). IsDone m es c) (done_here i d call may.due.waiting.call is) (builtin makro imp may.builtin may.is there)

    abbrev Done : Rule → List ModuleDefId → State → Change → Type 0
    Done r defs = EndsWell Handled handled_apart (IsDoneAt (from_rule r defs es)) old

    abbrev Went : Rule → List ModuleDefId → State → Change → Type 0
    Went r defs = EndsWell GivenUp given_up_apart (WentOnAt (from_rule r defs es)) old

    done_rule : (r : Rule) (defs : List ModuleDefId) → May finished old r → StayDerived (perform (asking old r) (acts finished old r)).core.map m
        → AllFine (Done r defs) (asking old r) (acts finished old r)
    done_rule (declares_item v c rest) defs may derived = (tt, (tt, (tt, tt)))
    done_rule (declares_enum site head name found rest) defs may derived = (tt, (tt, (tt, (tt, tt))))
    done_rule (opens_module site head name items rest) defs may derived = (tt, (tt, (tt, (tt, (tt, tt)))))
    done_rule (opens_file site head name search file rest) defs may derived = (tt, (tt, (tt, (tt, (tt, tt)))))
    done_rule (misses_file site head name search report rest) defs may derived = (tt, (tt, (tt, (tt, (tt, (tt, tt))))))
    done_rule (reaches_imports site head tree rest) defs may derived = (tt, (tt, (tt, tt)))
    done_rule (reaches_crate site head name alias rest) defs may derived = (tt, (tt, (tt, (tt, (tt, tt)))))
    done_rule (defines_rules site head name expander helpers rest) defs may derived =
        (tt, (tt, (tt, (tt, fine_macro (Done (defines_rules site head name expander helpers rest) defs) _ _ expander (λ t. tt) head name _ (λ t. tt) _))))
    done_rule (defines_macro site head name expander helpers rest) defs may derived =
        (tt, (tt, (tt, (tt, (tt, fine_reporting (Done (defines_macro site head name expander helpers rest) defs) _ _ expander (λ t. tt) _)))))
    done_rule (lists_derives v at a adt paths call rest) defs may derived = (tt, (tt, (tt, tt)))
    done_rule (exports_macro site head name c e rest) defs may derived = (tt, (tt, (tt, (tt, (tt, (tt, (tt, tt)))))))
    done_rule rests defs may derived = (tt, tt)
    done_rule (meets_macro i call makro x) defs may derived = (tt, tt)
    done_rule (expands_call i call makro x) defs may derived = (
      λ same d is. among _ (at_first _ es) (done_here i call d may.called.due.waiting.call is),
      (tt, (tt, fine_expanding (Done (expands_call i call makro x) defs) _ (λ t helper. tt) _ _ call (error_of x.there) (λ t text. tt) _)),
    )
    done_rule (drops_call i call) defs may derived = (λ same. deep_here i call es may.due.waiting.call may.deep, tt)
    done_rule (drops_reached i call makro) defs may derived =
        (λ same. deep_here i call es may.called.due.waiting.call may.deep, fine_bringing (Done (drops_reached i call makro) defs) _ (λ t helper. tt) _ _)
    done_rule (derives_builtin i call makro imp) defs may derived =
        (λ same. builtin_here i call makro imp may derived, (tt, (tt, fine_bringing (Done (derives_builtin i call makro imp) defs) _ (λ t helper. tt) _ _)))
    done_rule (skips_attribute i call k item) defs may derived = (λ same d is. among _ (at_first _ es) (done_here i call d may.due.waiting.call is), (tt, tt))
    done_rule (falls_back i call k item) defs may derived = (λ same. absurd (let no : ⊥ = cc in no), (tt, (tt, tt)))
    done_rule (resolves_imports rule) defs may derived =
        all_fine (Done (resolves_imports rule) defs) (λ t c. tt) (import_acts finished (import_state old) rule) (asking old (resolves_imports rule))
    done_rule other defs may derived = (tt, (tt, tt))

    went_rule : (r : Rule) (defs : List ModuleDefId) → May finished old r → AllFine (Went r defs) (asking old r) (acts finished old r)
    went_rule (declares_item v c rest) defs may = (tt, (tt, (tt, tt)))
    went_rule (declares_enum site head name found rest) defs may = (tt, (tt, (tt, (tt, tt))))
    went_rule (opens_module site head name items rest) defs may = (tt, (tt, (tt, (tt, (tt, tt)))))
    went_rule (opens_file site head name search file rest) defs may = (tt, (tt, (tt, (tt, (tt, tt)))))
    went_rule (misses_file site head name search report rest) defs may = (tt, (tt, (tt, (tt, (tt, (tt, tt))))))
    went_rule (reaches_imports site head tree rest) defs may = (tt, (tt, (tt, tt)))
    went_rule (reaches_crate site head name alias rest) defs may = (tt, (tt, (tt, (tt, (tt, tt)))))
    went_rule (defines_rules site head name expander helpers rest) defs may =
        (tt, (tt, (tt, (tt, fine_macro (Went (defines_rules site head name expander helpers rest) defs) _ _ expander (λ t. tt) head name _ (λ t. tt) _))))
    went_rule (defines_macro site head name expander helpers rest) defs may =
        (tt, (tt, (tt, (tt, (tt, fine_reporting (Went (defines_macro site head name expander helpers rest) defs) _ _ expander (λ t. tt) _)))))
    went_rule (lists_derives v at a adt paths call rest) defs may = (tt, (tt, (tt, tt)))
    went_rule (exports_macro site head name c e rest) defs may = (tt, (tt, (tt, (tt, (tt, (tt, (tt, tt)))))))
    went_rule rests defs may = (tt, tt)
    went_rule (meets_macro i call makro x) defs may = (tt, tt)
    went_rule (expands_call i call makro x) defs may = (
      λ same. absurd (let no : ⊥ = cc in no),
      (tt, (tt, fine_expanding (Went (expands_call i call makro x) defs) _ (λ t helper. tt) _ _ call (error_of x.there) (λ t text. tt) _)),
    )
    went_rule (drops_call i call) defs may = (λ same. absurd (let no : ⊥ = cc in no), tt)
    went_rule (drops_reached i call makro) defs may =
        (λ same. absurd (let no : ⊥ = cc in no), fine_bringing (Went (drops_reached i call makro) defs) _ (λ t helper. tt) _ _)
    went_rule (derives_builtin i call makro imp) defs may =
        (λ same. absurd (let no : ⊥ = cc in no), (tt, (tt, fine_bringing (Went (derives_builtin i call makro imp) defs) _ (λ t helper. tt) _ _)))
    went_rule (skips_attribute i call k item) defs may = (λ same. absurd (let no : ⊥ = cc in no), (tt, tt))
    went_rule (falls_back i call k item) defs may = (λ same d is. (_, at_first _ es, done_here i call d may.waiting.call is), (tt, (tt, tt)))
    went_rule (resolves_imports rule) defs may =
        all_fine (Went (resolves_imports rule) defs) (λ t c. tt) (import_acts finished (import_state old) rule) (asking old (resolves_imports rule))
    went_rule other defs may = (tt, (tt, tt))

  pub done-Step : {env : Environment} {finished : Maps} {old new : State} (defs : List ModuleDefId) (es : List Expansion) → IsInRange old
      → old.core.map.crate_data.recursion_limit ≡ m.crate_data.recursion_limit → (step : Step env finished old new) → AreDone es new
      → AreDone (from_rule step.rule defs es) old
  done-Step {finished = finished} {old = old} {new = new} defs es inside deep step p = record {
    stays = stays;
    derived = λ k imp h. derived_after k imp (StayDerived-perform (acts finished old step.rule) (asking old step.rule) k imp h);
    each = λ i h. elim (p.each i h) as (λ _. slice_get old.core.fates i ≡ Some Handled ⊎ IsDoneAt (from_rule step.rule defs es) i) [
      | inl now ↦ handled.each i now
      | inr done ↦ inr (λ d is. from_more (λ xs. IsDone m xs d) (λ e xs. done_more e xs d) step.rule defs es (done d is))
    ];
    given_up = λ i h. elim (p.given_up i h) as (λ _. slice_get old.core.fates i ≡ Some GivenUp ⊎ WentOnAt (from_rule step.rule defs es) i) [
      | inl now ↦ gone_on.each i now
      | inr went ↦ inr (λ d is. from_more (λ xs. WentOn xs d) (λ e xs. went_more e xs d) step.rule defs es (went d is))
    ];
  }
    where
      stays : (i : ℕ) (d : MacroDirective) → slice_get old.core.calls i ≡ Some d → slice_get last.calls i ≡ Some d
      stays i d at = p.stays i d (call_stays (more old new none step) i d at)

      derived_after : StayDerived (perform (asking old step.rule) (acts finished old step.rule)).core.map m
      derived_after = subst (λ (t : State). StayDerived t.core.map m) step.is p.derived

      handled : AreEnded Handled handled_apart (IsDoneAt (from_rule step.rule defs es)) old new
      handled =
          let ends_so = perform_keeps (AreEnded Handled handled_apart (IsDoneAt (from_rule step.rule defs es)) old)
          (EndsWell Handled handled_apart (IsDoneAt (from_rule step.rule defs es)) old)
          (ended-act Handled handled_apart (IsDoneAt (from_rule step.rule defs es)) old)
          (acts finished old step.rule) (asking old step.rule) (record { each = λ i h. inl h })
          (done_rule finished old inside deep stays es step.rule defs step.may derived_after) in
          subst (AreEnded Handled handled_apart (IsDoneAt (from_rule step.rule defs es)) old) (sym step.is) (record { each = ends_so.each })

      gone_on : AreEnded GivenUp given_up_apart (WentOnAt (from_rule step.rule defs es)) old new
      gone_on =
          let ends_so = perform_keeps (AreEnded GivenUp given_up_apart (WentOnAt (from_rule step.rule defs es)) old)
          (EndsWell GivenUp given_up_apart (WentOnAt (from_rule step.rule defs es)) old)
          (ended-act GivenUp given_up_apart (WentOnAt (from_rule step.rule defs es)) old)
          (acts finished old step.rule) (asking old step.rule) (record { each = λ i h. inl h })
          (went_rule finished old inside deep stays es step.rule defs step.may) in
          subst (AreEnded GivenUp given_up_apart (WentOnAt (from_rule step.rule defs es)) old) (sym step.is) (record { each = ends_so.each })
