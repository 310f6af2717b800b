-- What no longer waits ended on the way, and each module of a file was made there: this holds of both.
use Rattle.std.proofs.Common.{◌≡◌, ◌≢◌, ◌<◌, ◌+◌, ◌⊎◌, inl, inr, ℕ, zero, suc, List, [], ◌∷◌, ◌++◌, length, slice_get, slice_set, Some, refl, sym, ap, subst}
use Rattle.std.proofs.Common.{arith}
use Rattle.std.proofs.lemmas.Bool.{cases_lt}
use Rattle.hir_collector_rules.specs.HirDefMapRules.State.{new_module}
use Rattle.hir_collector_rules.proofs.HirDefMapRules.StaysWellFormed.{length-made}
use Rattle.hir_collector_rules.specs.declared.macro_directive.Fate.{Fate}
use Rattle.hir_collector_rules.specs.declared.macro_directive.MacroDirective.{MacroDirective}
use Rattle.hir_collector_rules.specs.declared.macro_directive.Fate.TheVariants.{Waits}
use Rattle.hir_collector_rules.specs.Changes.{Change, lists, makes, gives_variants, begins_paths, reaches, awaits, ends, settles, changes_imports, adds_textual}
use Rattle.hir_collector_rules.specs.Changes.{takes_textual, defines, describes, helps, lists_derive, notes, exports, uses_macros, tells, goes_on, act, perform}
use Rattle.hir_collector_rules.specs.ItemIds.{module_id}
use Rattle.hir_collector_rules.specs.State.{State, all_wait}
use Rattle.hir_collector_rules.proofs.Changes.{AllFine, perform_keeps}
use Rattle.hir_def_collector_laws.proofs.Listings.{length-perform, made_by}

-- ---- fates

-- of more calls, all wait
ended_left : (what : Fate) → what ≢ Waits → (fs : List Fate) (ds : List MacroDirective) (i : ℕ) → slice_get (fs ++ all_wait ds) i ≡ Some what
    → slice_get fs i ≡ Some what
ended_left what apart [] [] i e = e
ended_left what apart [] (d ∷ ds) zero e = let same : Waits ≡ what = cc in absurd (apart (sym same))
ended_left what apart [] (d ∷ ds) (suc i) e = ended_left what apart [] ds i e
ended_left what apart (f ∷ fs) ds zero e = e
ended_left what apart (f ∷ fs) ds (suc i) e = ended_left what apart fs ds i e

-- of others, those with this fate are the same
ended_set : (what : Fate) (fs : List Fate) (j : ℕ) (f : Fate) (i : ℕ) → slice_get (slice_set fs j f) i ≡ Some what
    → slice_get fs i ≡ Some what ⊎ ((j ≡ i) × (f ≡ what))
ended_set what [] j f i e = inl e
ended_set what (x ∷ xs) zero f zero e = inr (refl, cc)
ended_set what (x ∷ xs) zero f (suc i) e = inl e
ended_set what (x ∷ xs) (suc j) f zero e = inl e
ended_set what (x ∷ xs) (suc j) f (suc i) e = elim (ended_set what xs j f i e) as (λ _. slice_get xs i ≡ Some what ⊎ ((suc j ≡ suc i) × (f ≡ what))) [
  | inl h ↦ inl h
  | inr same ↦ inr (ap suc same.0, same.1)
]

-- ---- on the way from a state

module _ (Became : Fate → ℕ → Type 0) (Made : ℕ → Type 0) (old : State) where
  -- what doesn't wait didn't wait before, or this holds of it; and so of modules that weren't there before
  pub record AreKept (s : State) : Type 0 where
    pub fates : (what : Fate) → what ≢ Waits → (i : ℕ) → slice_get s.core.fates i ≡ Some what → slice_get old.core.fates i ≡ Some what ⊎ Became what i
    pub modules : (number : ℕ) → number < length s.core.map.modules → (number < length old.core.map.modules) ⊎ Made number

  -- a change under which it goes on holding
  abbrev pub IsWell : State → Change → Type 0
  IsWell s (makes home name origin visibility) = Made (length s.core.map.modules)
  IsWell s (ends i fate) = Became fate i
  IsWell s other = Unit {0}

  -- where no module is made
  unmade : (s : State) (c : Change) → made_by c ≡ 0 → AreKept s → (number : ℕ) → number < length (act s c).core.map.modules
      → (number < length old.core.map.modules) ⊎ Made number
  unmade s c none_made p number low =
      let same : length (act s c).core.map.modules ≡ length s.core.map.modules + (made_by c + 0) = length-perform (c ∷ []) s in
      p.modules number (omega (arith, low, same, none_made))

  kept-act : (s : State) (c : Change) → AreKept s → IsWell s c → AreKept (act s c)
  kept-act s (lists home d) p fine = record { fates = p.fates; modules = unmade s (lists home d) refl p }
  kept-act s (makes home name origin visibility) p fine = record {
    fates = p.fates;
    modules = λ number low. elim (cases_lt number (length s.core.map.modules)) as (λ _. (number < length old.core.map.modules) ⊎ Made number) [
      | inl before ↦ p.modules number before
      | inr past ↦
          let one_more : length (act s (makes home name origin visibility)).core.map.modules ≡ length s.core.map.modules + 1 =
          length-made s.core.map home name (new_module origin visibility (Some (module_id s.core.map home))) in
          inr (subst Made (omega (arith, past, low, one_more)) fine)
    ];
  }
  kept-act s (awaits calls) p fine =
      record { fates = λ what apart i h. p.fates what apart i (ended_left what apart s.core.fates calls i h); modules = p.modules }
  kept-act s (ends j fate) p fine = record {
    fates = λ what apart i h. elim (ended_set what s.core.fates j fate i h) as (λ _. slice_get old.core.fates i ≡ Some what ⊎ Became what i) [
      | inl before ↦ p.fates what apart i before
      | inr here ↦ inr (subst (λ (k : ℕ). Became what k) here.0 (subst (λ (f : Fate). Became f j) here.1 fine))
    ];
    modules = p.modules;
  }
  kept-act s (changes_imports c) p fine = record { fates = p.fates; modules = unmade s (changes_imports c) refl p }
  kept-act s (adds_textual home name makro) p fine = record { fates = p.fates; modules = unmade s (adds_textual home name makro) refl p }
  kept-act s (takes_textual home from_) p fine = record { fates = p.fates; modules = unmade s (takes_textual home from_) refl p }
  kept-act s (lists_derive home imp) p fine = record { fates = p.fates; modules = unmade s (lists_derive home imp) refl p }
  kept-act s (notes home invocation) p fine = record { fates = p.fates; modules = unmade s (notes home invocation) refl p }
  kept-act s other p fine = record { fates = p.fates; modules = p.modules }

  pub kept-perform : (cs : List Change) (s : State) → AllFine IsWell s cs → AreKept s → AreKept (perform s cs)
  kept-perform cs s fine p = perform_keeps AreKept IsWell kept-act cs s p fine
