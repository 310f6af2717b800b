-- Which modules does a list have once one was changed, or there is one more?
use Rattle.std.proofs.Common.{◌≡◌, ◌≢◌, ℕ, zero, suc, List, [], ◌∷◌, ◌++◌, Some, slice_get, refl, sym, ap, arith}
use Rattle.hir_collector_rules.specs.HirDefMapRules.State.{ModuleValue, changed_at}

-- a module of a list where one was changed
pub data IsChanged (ms : List ModuleValue) (at : ℕ) (change : ModuleValue → ModuleValue) (number : ℕ) (m : ModuleValue) : Type 0 where
  changed_one : (old : ModuleValue) → number ≡ at → slice_get ms number ≡ Some old → m ≡ change old → IsChanged ms at change number m
  other_one : number ≢ at → slice_get ms number ≡ Some m → IsChanged ms at change number m

pub changed-at : (ms : List ModuleValue) (at : ℕ) (change : ModuleValue → ModuleValue) (number : ℕ) (m : ModuleValue) → slice_get (changed_at ms at change)
    number ≡ Some m → IsChanged ms at change number m
changed-at [] at change number m e = absurd (let no : ⊥ = cc in no)
changed-at (x ∷ xs) zero change zero m e = let same : change x ≡ m = cc in changed_one x refl refl (sym same)
changed-at (x ∷ xs) zero change (suc number) m e = other_one (λ f. omega arith) e
changed-at (x ∷ xs) (suc at) change zero m e = other_one (λ f. omega arith) e
changed-at (x ∷ xs) (suc at) change (suc number) m e = go (changed-at xs at change number m e)
  where
    go : IsChanged xs at change number m → IsChanged (x ∷ xs) (suc at) change (suc number) m
    go (changed_one old same there is) = changed_one old (ap suc same) there is
    go (other_one ne there) = other_one (λ f. ne (omega arith)) there

-- a module of a list with one more
pub data IsOfLonger (ms : List ModuleValue) (new : ModuleValue) (number : ℕ) (m : ModuleValue) : Type 0 where
  older : slice_get ms number ≡ Some m → IsOfLonger ms new number m
  newest : m ≡ new → IsOfLonger ms new number m

pub of_longer : (ms : List ModuleValue) (new : ModuleValue) (number : ℕ) (m : ModuleValue) → slice_get (ms ++ new ∷ []) number ≡ Some m
    → IsOfLonger ms new number m
of_longer [] new zero m e = newest (let same : new ≡ m = cc in sym same)
of_longer [] new (suc number) m e = absurd (let no : ⊥ = cc in no)
of_longer (x ∷ xs) new zero m e = older e
of_longer (x ∷ xs) new (suc number) m e = go (of_longer xs new number m e)
  where
    go : IsOfLonger xs new number m → IsOfLonger (x ∷ xs) new (suc number) m
    go (older h) = older h
    go (newest h) = newest h
