-- Where a map gains modules, the same lies above those that it had.
use Rattle.std.proofs.Common.{◌≡◌, ◌∙◌, ap, sym, subst, refl, ℕ, zero, suc, ◌+◌, ◌<◌, ◌≤◌, List, [], ◌∷◌, length, Bool, true, ◌||◌, cond, nat_lt, Option, None}
use Rattle.std.proofs.Common.{Some, arith}
use Rattle.std.proofs.lemmas.Grind.{common_steps}
use Rattle.std.specs.Prelude.{slice_get}
use Rattle.hir_nameres.specs.HirIds.declared.ids.MapId.{MapId}
use Rattle.hir_nameres.specs.HirIds.declared.ids.ModuleId.{ModuleId}
use Rattle.hir_nameres.specs.HirDefMapRules.State.{IsBefore, IsInOrder, Map, ModuleValue, parent_at, parent_of}
use Rattle.hir_nameres.specs.HirDefMapRules.Overlay.{Maps, Placed, placed_in}
use Rattle.hir_nameres.specs.HirDefMapRules.Ancestors.{Frame, frame_of, leads_to_root, number_in, numbers_above, step_in, step_to, steps_by, steps_from}
use Rattle.hir_def_map_laws.proofs.Steps.{number_there, step_listed}
use Rattle.hir_def_map_laws.specs.ReadLaw.{Grows}

-- steps that lead to lower numbers, and are the same up to a bound, lead the same way, however many may be taken
steps-same : (up new : ℕ → Option ℕ) (bound : ℕ) → ((k : ℕ) → k ≤ bound → new k ≡ up k) → ((k p : ℕ) → k ≤ bound → up k ≡ Some p → p < k)
    → (n k at : ℕ) → at ≤ bound → at ≤ n → at ≤ k → steps_by new k at ≡ steps_by up n at
steps-same up new bound same falls zero zero at below low lower = refl
steps-same up new bound same falls zero (suc k) at below low lower = ap (steps_from (steps_by new k)) (same at below) ∙ go (up at) refl
  where
    go : (o : Option ℕ) → up at ≡ o → steps_from (steps_by new k) o ≡ []
    go None e = refl
    go (Some p) e = let less : p < at = falls at p below e in absurd (omega arith)
steps-same up new bound same falls (suc n) zero at below low lower = ap (steps_from (steps_by up n)) (go (up at) refl)
  where
    go : (o : Option ℕ) → up at ≡ o → None ≡ up at
    go None e = sym e
    go (Some p) e = let less : p < at = falls at p below e in absurd (omega arith)
steps-same up new bound same falls (suc n) (suc k) at below low lower =
    ap (steps_from (steps_by new k)) (same at below) ∙ go (up at) refl (λ p f g h. steps-same up new bound same falls n k p f g h)
  where
    go : (o : Option ℕ) → up at ≡ o → ((p : ℕ) → p ≤ bound → p ≤ n → p ≤ k → steps_by new k p ≡ steps_by up n p)
        → steps_from (steps_by new k) o ≡ steps_from (steps_by up n) o
    go None e further = refl
    go (Some p) e further = let less : p < at = falls at p below e in ap (λ (ps : List ℕ). p ∷ ps) (further p (omega arith) (omega arith) (omega arith))

-- the number of a parent
abbrev number_of : Option ModuleId → Option ℕ
number_of None = None
number_of (Some p) = Some p.index

-- one that comes before is where the step leads
step-known : (frame : Frame) (id : MapId) (at : ℕ) (o : Option ModuleId) → IsBefore id at o → step_to frame at (number_in id o) ≡ number_of o
step-known frame id at None before = refl
step-known frame id at (Some p) before =
    let lower : p.index < at = before.1 in
    let less : nat_lt p.index at ≡ true = grind (arith, common_steps) in
    ap (λ (n : Option ℕ). step_to frame at n) (number_there id p before.0)
    ∙ ap (λ (b : Bool). cond (b || leads_to_root frame at) (Some p.index) None) less

number-before : (id : MapId) (at p : ℕ) (o : Option ModuleId) → IsBefore id at o → number_of o ≡ Some p → p < at
number-before id at p None before e = absurd cc
number-before id at p (Some q) before e = let same : q.index ≡ p = cc in subst (λ (n : ℕ). n < at) same before.1

pub found-below : {A : Type 0} (xs : List A) (k : ℕ) → k < length xs → (x : A) × (slice_get xs k ≡ Some x)
found-below [] k low = absurd (omega arith)
found-below (x ∷ xs) zero low = (x, refl)
found-below (x ∷ xs) (suc k) low = found-below xs k (omega arith)

module _ (one other : Map) (grows : Grows one other) (in_order : IsInOrder one) where
  -- what a module is in that was there
  pub same_parent_at : (at : ℕ) → at < length one.modules → parent_at other at ≡ parent_at one at
  same_parent_at at low =
      let found = found-below one.modules at low in
      grows.parents at found.0 found.1 ∙ ap parent_of (sym found.1)

  pub before_at : (at : ℕ) → at < length one.modules → IsBefore one.id at (parent_at one at)
  before_at at low =
      let found = found-below one.modules at low in
      subst (λ (o : Option ModuleValue). IsBefore one.id at (parent_of o)) (sym found.1) (in_order at found.0 found.1)

  -- what is above a module comes before it
  pub parent_below : (at : ℕ) (p : ModuleId) → at < length one.modules → parent_at one at ≡ Some p → p.index < length one.modules
  parent_below at p low e = go (parent_at one at) (before_at at low) e
    where
      go : (o : Option ModuleId) → IsBefore one.id at o → o ≡ Some p → p.index < length one.modules
      go None f g = absurd cc
      go (Some q) f g = let same : q ≡ p = cc in let less : q.index < at = f.1 in subst (λ (x : ModuleId). x.index < length one.modules) same (omega arith)

  module _ (finished : Maps) where
    abbrev before : Placed
    before = placed_in finished one

    abbrev after : Placed
    after = placed_in finished other

    step-before : (at : ℕ) → at < length one.modules → step_in (frame_of before) at ≡ number_of (parent_at one at)
    step-before at low = step_listed before at ∙ step-known (frame_of before) one.id at (parent_at one at) (before_at at low)

    step-after : (at : ℕ) → at < length one.modules → step_in (frame_of after) at ≡ number_of (parent_at one at)
    step-after at low =
        step_listed after at
        ∙ ap (λ (o : Option ModuleId). step_to (frame_of after) at (number_in other.id o)) (same_parent_at at low)
        ∙ step-known (frame_of after) other.id at (parent_at one at) (subst (λ (id : MapId). IsBefore id at (parent_at one at)) (sym grows.id)
        (before_at at low))

    pub same_numbers_above : (at : ℕ) → at < length one.modules → numbers_above (frame_of after) at ≡ numbers_above (frame_of before) at
    unfolding numbers_above
    same_numbers_above at low = steps-same (step_in (frame_of before)) (step_in (frame_of after)) at
        (λ k below. step-after k (omega arith) ∙ sym (step-before k (omega arith)))
        (λ k p below e. number-before one.id k p (parent_at one k) (before_at k (omega arith)) (sym (step-before k (omega arith)) ∙ e))
        (length (frame_of before).parents + at) (length (frame_of after).parents + at) at (omega arith) (omega arith) (omega arith)
