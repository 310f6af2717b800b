-- Lists of modules in which one is changed, or one more stands behind the others.
use Rattle.std.proofs.Common.{◌≡◌, ◌∙◌, ap, sym, subst, refl, ℕ, zero, suc, ◌<◌, ◌≤◌, ◌++◌, List, [], ◌∷◌, length, Some, slice_get, slice_set, ◌⊎◌, inl, inr}
use Rattle.std.proofs.Common.{arith}
use Rattle.std.specs.Option.{option_map}
use Rattle.std.specs.Prelude.{Result, Ok, Err, OnOk, OnErr}
use Rattle.std.proofs.Common.{get_or}
use Rattle.std.proofs.lemmas.Option.{slice_get_read}
use Rattle.hir_scope.specs.HirIds.declared.ids.ModuleId.{ModuleId}
use Rattle.hir_def_map_rules.specs.State.{ModuleValue, changed_at, with_child, IsNumbered}

-- a fact of the state after a call that may fail
pub OnOk-map : {T E : Type 0} (r : Result T E) (P Q : Type 0) → (P → Q) → OnOk r P → OnOk r Q
OnOk-map (Ok x) P Q f p = f p
OnOk-map (Err e) P Q f p = p

module _ {A : Type 0} where
  -- what was read at an index is what stands there
  pub slice_get-read : (xs : List A) (at : ℕ) (x : A) → at < length xs → x ≡ get_or xs at x → slice_get xs at ≡ Some x
  slice_get-read xs at x h e = slice_get_read xs (length xs) at x refl h e

  -- a write of the changed value changes it
  pub changed_at-set : (xs : List A) (at : ℕ) (change : A → A) (x : A) → slice_get xs at ≡ Some x → slice_set xs at (change x) ≡ changed_at xs at change
  changed_at-set [] at change x e = refl
  changed_at-set (y ∷ ys) zero change x e = let same : y ≡ x = cc in ap (λ (z : A). change z ∷ ys) (sym same)
  changed_at-set (y ∷ ys) (suc at) change x e = ap (λ (zs : List A). y ∷ zs) (changed_at-set ys at change x e)

  -- so does a write of it in the place of the value that was read there
  pub changed_at-write : (xs : List A) (at : ℕ) (change : A → A) (x y : A) → at < length xs → x ≡ get_or xs at x → y ≡ change x → slice_set xs at y
      ≡ changed_at xs at change
  changed_at-write xs at change x y h e f = ap (λ (z : A). slice_set xs at z) f ∙ changed_at-set xs at change x (slice_get-read xs at x h e)

  -- past the end nothing changes
  pub changed_at-past : (xs : List A) (at : ℕ) (change : A → A) → length xs ≤ at → changed_at xs at change ≡ xs
  changed_at-past [] at change h = refl
  changed_at-past (y ∷ ys) zero change h = absurd (omega arith)
  changed_at-past (y ∷ ys) (suc at) change h = ap (λ (zs : List A). y ∷ zs) (changed_at-past ys at change (omega arith))

  -- a change before the end leaves what stands behind
  pub changed_at-append : (xs ys : List A) (at : ℕ) (change : A → A) → at < length xs → changed_at (xs ++ ys) at change ≡ changed_at xs at change ++ ys
  changed_at-append [] ys at change h = absurd (omega arith)
  changed_at-append (x ∷ xs) ys zero change h = refl
  changed_at-append (x ∷ xs) ys (suc at) change h = ap (λ (zs : List A). x ∷ zs) (changed_at-append xs ys at change (omega arith))

  pub length-changed_at : (xs : List A) (at : ℕ) (change : A → A) → length (changed_at xs at change) ≡ length xs
  length-changed_at [] at change = refl
  length-changed_at (x ∷ xs) zero change = refl
  length-changed_at (x ∷ xs) (suc at) change = ap suc (length-changed_at xs at change)

  -- what the change keeps of a value is the same at each place
  pub kept-changed_at : {B : Type 0} (part : A → B) (xs : List A) (at : ℕ) (change : A → A) → ((x : A) → part (change x) ≡ part x) → (k : ℕ)
      → option_map part (slice_get (changed_at xs at change) k) ≡ option_map part (slice_get xs k)
  kept-changed_at part [] at change keeps k = refl
  kept-changed_at part (x ∷ xs) zero change keeps zero = ap Some (keeps x)
  kept-changed_at part (x ∷ xs) zero change keeps (suc k) = refl
  kept-changed_at part (x ∷ xs) (suc at) change keeps zero = refl
  kept-changed_at part (x ∷ xs) (suc at) change keeps (suc k) = kept-changed_at part xs at change keeps k

  -- what stands in a list with one more value behind
  pub slice_get-append_one : (xs : List A) (y z : A) (k : ℕ) → slice_get (xs ++ y ∷ []) k ≡ Some z → (slice_get xs k ≡ Some z) ⊎ ((k ≡ length xs) × (z ≡ y))
  slice_get-append_one [] y z zero e = inr (refl, cc)
  slice_get-append_one [] y z (suc k) e = inl e
  slice_get-append_one (x ∷ xs) y z zero e = inl e
  slice_get-append_one (x ∷ xs) y z (suc k) e = elim (slice_get-append_one xs y z k e) [ inl p ↦ inl p | inr p ↦ inr (ap suc p.0, p.1) ]

  pub slice_get-append_left : (xs ys : List A) (k : ℕ) → k < length xs → slice_get (xs ++ ys) k ≡ slice_get xs k
  slice_get-append_left [] ys k h = absurd (omega arith)
  slice_get-append_left (x ∷ xs) ys zero h = refl
  slice_get-append_left (x ∷ xs) ys (suc k) h = slice_get-append_left xs ys k (omega arith)

-- a change of one module leaves the modules numbered
pub IsNumbered-changed_at : (ms : List ModuleValue) (at : ℕ) (change : ModuleValue → ModuleValue) → IsNumbered ms → IsNumbered (changed_at ms at change)
IsNumbered-changed_at ms at change numbered = record {
  root = let e : length (changed_at ms at change) ≡ length ms = length-changed_at ms at change in let r : 0 < length ms = numbered.root in omega arith;
  numbers =
      let e : length (changed_at ms at change) ≡ length ms = length-changed_at ms at change in let r : length ms ≤ 2147483647 = numbered.numbers in omega arith;
}

-- and so does one more module
pub IsNumbered-append : (ms : List ModuleValue) (m : ModuleValue) → length ms < 2147483647 → IsNumbered ms → IsNumbered (ms ++ m ∷ [])
IsNumbered-append ms m room numbered = record {
  root = rw (length-one ms m) (omega arith);
  numbers = rw (length-one ms m) (omega arith);
}
  where
    length-one : (xs : List ModuleValue) (y : ModuleValue) → length (xs ++ y ∷ []) ≡ suc (length xs)
    length-one [] y = refl
    length-one (x ∷ xs) y = ap suc (length-one xs y)

-- after a call that leaves the list as it was where it fails, what holds of both outcomes holds
pub either_way : {T E : Type 0} (P : List ModuleValue → Type 0) (r : Result T E) (now before after : List ModuleValue) → OnOk r (now ≡ after)
    → OnErr r (now ≡ before) → P before → P after → P now
either_way P (Ok x) now before after ok err p q = subst P (sym ok) q
either_way P (Err e) now before after ok err p q = subst P (sym err) p

-- one more module behind the others, a child of one of them, leaves them numbered; so does the call that fails
pub IsNumbered-inserted : {T E : Type 0} (r : Result T E) (others now : List ModuleValue) (parent : ℕ) (name : List ℕ) (new : ModuleId) (m : ModuleValue)
    → length others < 2147483647
    → OnOk r (now ≡ changed_at others parent (with_child name new) ++ m ∷ []) → OnErr r (now ≡ others) → IsNumbered others → IsNumbered now
IsNumbered-inserted r others now parent name new m room ok err numbered =
    let child : ModuleValue → ModuleValue = with_child name new in
    let count : length (changed_at others parent child) ≡ length others = length-changed_at others parent child in
    either_way (λ ms. IsNumbered ms) r now others (changed_at others parent child ++ m ∷ []) ok err numbered
    (IsNumbered-append (changed_at others parent child) m (omega arith) (IsNumbered-changed_at others parent child numbered))
