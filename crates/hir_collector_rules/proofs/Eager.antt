-- What was seen of eager macros is kept, and listed for each call.
use Rattle.std.proofs.Common.{◌≡◌, ◌∙◌, ◌⊎◌, ℕ, ◌+◌, ◌<◌, List, [], ◌∷◌, ◌++◌, length, slice_get, slice_set, Option, None, Some, Contains, refl, sym, ap}
use Rattle.std.proofs.Common.{subst, arith, inl, inr}
use Rattle.std.specs.Prelude.{unwrap_or}
use Rattle.std.proofs.lemmas.List.Elements.{Contains-append_left}
use Rattle.hir_nameres.specs.HirDefMapRules.Overlay.{Maps}
use Rattle.hir_collector_rules.specs.Types.{MacroDirective}
use Rattle.hir_collector_rules.specs.declared.macro_directive.EagerMacro.{EagerMacro}
use Rattle.hir_collector_rules.specs.Changes.{Change, act, awaits, meets_eager, perform}
use Rattle.hir_collector_rules.specs.Keys.{Environment}
use Rattle.hir_collector_rules.specs.State.{State, eager_among, eager_at, none_eager}
use Rattle.hir_collector_rules.specs.Steps.{Step, Steps, none, more, acts, after, asking}
use Rattle.hir_collector_rules.proofs.Bound.{number_same_or_not}
use Rattle.hir_collector_rules.proofs.Lists.{get_inside, get_left, get_set_other, get_set_same, length_both, length_mapped, length_set}

pub record KeepsEager (old new : State) : Type 0 where
  pub listed : length old.core.eager ≡ length old.core.calls → length new.core.eager ≡ length new.core.calls
  pub seen : (i : ℕ) (e : EagerMacro) → Contains (eager_at old.core i) e → Contains (eager_at new.core i) e

KeepsEager-trans : {a b c : State} → KeepsEager a b → KeepsEager b c → KeepsEager a c
KeepsEager-trans p q = record { listed = λ h. q.listed (p.listed h); seen = λ i e h. q.seen i e (p.seen i e h) }

KeepsEager-same : (s t : State) → t.core.eager ≡ s.core.eager → t.core.calls ≡ s.core.calls → KeepsEager s t
KeepsEager-same s t eager calls = record {
  listed = λ h. ap (λ (es : List (List EagerMacro)). length es) eager ∙ h ∙ sym (ap (λ (ds : List MacroDirective). length ds) calls);
  seen = λ i e h. subst (λ (es : List (List EagerMacro)). Contains (eager_among es i) e) (sym eager) h;
}

none_there : (e : EagerMacro) → Contains [] e → ⊥
none_there e (n, below, is) = let past : n < 0 = below in omega arith

-- where something is listed at a place, the place is one of the list
seen_inside : (es : List (List EagerMacro)) (i : ℕ) (e : EagerMacro) → Contains (eager_among es i) e → i < length es
seen_inside es i e h = go (slice_get es i) refl h
  where
    go : (o : Option (List EagerMacro)) → slice_get es i ≡ o → Contains (unwrap_or o []) e → i < length es
    go None is c = absurd (none_there e c)
    go (Some found) is c = get_inside es i found is

KeepsEager-awaits : (s : State) (calls : List MacroDirective) → KeepsEager s (act s (awaits calls))
KeepsEager-awaits s calls = record {
  listed = λ h.
      let eager = length_both s.core.eager (none_eager calls) in
      let both = length_both s.core.calls calls in
      let as_many : length (none_eager calls) ≡ length calls = length_mapped (λ (d : MacroDirective). []) calls in
      omega (arith, eager, both, as_many, h);
  seen = λ i e h.
      subst (λ (o : Option (List EagerMacro)). Contains (unwrap_or o []) e)
      (sym (get_left s.core.eager (none_eager calls) i (seen_inside s.core.eager i e h))) h;
}

KeepsEager-meets : (s : State) (i : ℕ) (new : EagerMacro) → KeepsEager s (act s (meets_eager i new))
KeepsEager-meets s i new = record { listed = λ h. length_set s.core.eager i added ∙ h; seen = kept }
  where
    added : List EagerMacro
    added = eager_at s.core i ++ new ∷ []

    kept : (j : ℕ) (e : EagerMacro) → Contains (eager_at s.core j) e → Contains (eager_among (slice_set s.core.eager i added) j) e
    kept j e h = elim (number_same_or_not j i) [
      | inl here ↦
          let inside : i < length s.core.eager = subst (λ (k : ℕ). k < length s.core.eager) here (seen_inside s.core.eager j e h) in
          let at_it : Contains (eager_at s.core i) e = subst (λ (k : ℕ). Contains (eager_at s.core k) e) here h in
          let set : slice_get (slice_set s.core.eager i added) i ≡ Some added = get_set_same s.core.eager i added inside in
          subst (λ (k : ℕ). Contains (eager_among (slice_set s.core.eager i added) k) e) (sym here)
          (subst (λ (o : Option (List EagerMacro)). Contains (unwrap_or o []) e) (sym set) (Contains-append_left (eager_at s.core i) (new ∷ []) e at_it))
      | inr other ↦
          subst (λ (o : Option (List EagerMacro)). Contains (unwrap_or o []) e) (sym (get_set_other s.core.eager i j added other)) h
    ]

KeepsEager-act : (s : State) (c : Change) → KeepsEager s (act s c)
KeepsEager-act s (awaits calls) = KeepsEager-awaits s calls
KeepsEager-act s (meets_eager i seen) = KeepsEager-meets s i seen
KeepsEager-act s other = KeepsEager-same s (act s other) refl refl

KeepsEager-perform : (cs : List Change) (s : State) → KeepsEager s (perform s cs)
KeepsEager-perform [] s = KeepsEager-same s s refl refl
KeepsEager-perform (c ∷ cs) s = KeepsEager-trans (KeepsEager-act s c) (KeepsEager-perform cs (act s c))

KeepsEager-Step : {env : Environment} {finished : Maps} {old new : State} → Step env finished old new → KeepsEager old new
KeepsEager-Step {finished = finished} {old = old} step =
    subst (KeepsEager old) (sym step.is)
    (KeepsEager-trans (KeepsEager-same old (asking old step.rule) refl refl)
    (KeepsEager-trans (KeepsEager-perform (acts finished old step.rule) (asking old step.rule))
    (KeepsEager-same _ (after finished old step.rule) refl refl)))

pub keeps_eager : {env : Environment} {finished : Maps} {from to : State} → Steps env finished from to → KeepsEager from to
keeps_eager {from = from} none = KeepsEager-same from from refl refl
keeps_eager (more old new before step) = KeepsEager-trans (keeps_eager before) (KeepsEager-Step step)
