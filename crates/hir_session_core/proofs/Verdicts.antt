-- When is a session made, and a block set?
use Rattle.std.proofs.Common.{◌≡◌, ℕ, ◌≤◌, false, nat_lt, List, [], ◌∷◌, length, map, Option, None, Some, option_map, Result, Ok, Err, OnOk, IfErr, ◌⊎◌, inl, inr, refl}
use Rattle.std.proofs.Common.{sym, subst, arith}
use Rattle.std.proofs.lemmas.List.{length-map}
use Rattle.hir_session_state.specs.HirIds.declared.ids.Crate.{Crate}
use Rattle.hir_session_state.specs.HirBase.ModPath.{Path}
use Rattle.hir_session_state.specs.HirBase.declared.place.PlaceElement.{PlaceElement}
use Rattle.std.specs.List.{list_any}
use Rattle.hir_session_state.specs.HirMessages.CommandValue.{CrateInputValue}
use Rattle.hir_session_state.specs.HirMessages.Edits.{inner_entry}
use Rattle.hir_session_state.specs.Refusals.{IsEditMemory, first_out_of_order, is_too_deep, is_too_long, verdict_of_entry, verdict_of_inner, verdict_of_new}
use Rattle.hir_session_state.specs.Refusals.{verdict_with_steps}
use Rattle.hir_session_state.specs.SessionState.{max_crates}
use Rattle.hir_session_state.specs.declared.error.EditError.{EditError}
use Rattle.hir_session_state.specs.declared.error.EditError.TheVariants as edit_error
use Rattle.hir_session_core.specs.BlockVerdicts.{told_with_steps}

-- crates that nothing is said against are accepted
pub accepted : (inputs : List CrateInputValue) → first_out_of_order 0 inputs ≡ None → list_any is_too_long inputs ≡ false
    → list_any is_too_deep inputs ≡ false → nat_lt max_crates (length inputs) ≡ false → verdict_of_new inputs ≡ Ok tt
accepted inputs ordered short flat few = rw (ordered, short, flat, few) refl

-- no more than so many is not less of them
not_more : (n m : ℕ) → m ≤ n → nat_lt n m ≡ false
not_more n m h = grind (arith, h)

-- what has no number isn't there
no_crate_told : (o : Option Crate) → None ≡ option_map (λ (c : Crate). c.0) o → o ≡ None
no_crate_told None e = refl
no_crate_told (Some c) e = absurd (let wrong : ⊥ = cc in wrong)

-- crates against which the tests find nothing are accepted
pub accepted_by : {T : Type 0} (view : T → CrateInputValue) (inputs : List T)
    → None ≡ option_map (λ (c : Crate). c.0) (first_out_of_order 0 (map view inputs)) → list_any is_too_long (map view inputs) ≡ false
    → list_any is_too_deep (map view inputs) ≡ false → length inputs ≤ 10000 → verdict_of_new (map view inputs) ≡ Ok tt
accepted_by view inputs ordered short flat few =
    let count : length (map view inputs) ≡ length inputs = length-map inputs view in
    accepted (map view inputs) (no_crate_told (first_out_of_order 0 (map view inputs)) ordered) short flat
    (not_more 10000 (length (map view inputs)) (omega arith))

-- ---- a block

-- a verdict that is right, or memory ran out
abbrev IsTold : Result (Unit {0}) EditError → Result (Unit {0}) EditError → Type 0
IsTold told right = OnOk told (right ≡ Ok tt) × IfErr told (λ e. IsEditMemory e ⊎ (right ≡ Err e))

told_right : (told right : Result (Unit {0}) EditError) → told ≡ right → IsTold told right
told_right (Ok u) right e = (sym e, tt)
told_right (Err x) right e = (tt, inr (sym e))

told_memory : (told right : Result (Unit {0}) EditError) → told ≡ Err edit_error.Memory → IsTold told right
told_memory (Ok u) right e = absurd (let wrong : ⊥ = cc in wrong)
told_memory (Err x) right e = (tt, inl (let same : x ≡ edit_error.Memory = cc in same))

-- what is told of a block is right where what is told of its source is
pub block_told : (steps : List PlaceElement) (source given told : Result (Unit {0}) EditError) → OnOk given (source ≡ Ok tt)
    → IfErr given (λ e. IsEditMemory e ⊎ (source ≡ Err e))
    → told ≡ told_with_steps steps given → OnOk told (verdict_with_steps steps source ≡ Ok tt)
    × IfErr told (λ e. IsEditMemory e ⊎ (verdict_with_steps steps source ≡ Err e))
block_told steps source (Ok u) told accepted refused is =
    subst (λ (v : Result (Unit {0}) EditError). IsTold told (verdict_with_steps steps v)) (sym accepted) (told_right told (verdict_with_steps steps (Ok tt)) is)
block_told steps source (Err edit_error.Memory) told accepted refused is = told_memory told (verdict_with_steps steps source) is
block_told steps source (Err edit_error.UnknownCrate) told accepted refused is = elim refused [
  | inl memory ↦ absurd (let wrong : ⊥ = cc in wrong)
  | inr right ↦ subst (λ (v : Result (Unit {0}) EditError). IsTold told (verdict_with_steps steps v)) (sym right)
      (told_right told (verdict_with_steps steps (Err edit_error.UnknownCrate)) is)
]
block_told steps source (Err (edit_error.TooLarge limit)) told accepted refused is = elim refused [
  | inl memory ↦ absurd (let wrong : ⊥ = cc in wrong)
  | inr right ↦ subst (λ (v : Result (Unit {0}) EditError). IsTold told (verdict_with_steps steps v)) (sym right)
      (told_right told (verdict_with_steps steps (Err (edit_error.TooLarge limit))) is)
]
block_told steps source (Err (edit_error.DependencyOrder krate)) told accepted refused is = elim refused [
  | inl memory ↦ absurd (let wrong : ⊥ = cc in wrong)
  | inr right ↦ subst (λ (v : Result (Unit {0}) EditError). IsTold told (verdict_with_steps steps v)) (sym right)
      (told_right told (verdict_with_steps steps (Err (edit_error.DependencyOrder krate))) is)
]
block_told steps source (Err (edit_error.DuplicateId kind id)) told accepted refused is = elim refused [
  | inl memory ↦ absurd (let wrong : ⊥ = cc in wrong)
  | inr right ↦ subst (λ (v : Result (Unit {0}) EditError). IsTold told (verdict_with_steps steps v)) (sym right)
      (told_right told (verdict_with_steps steps (Err (edit_error.DuplicateId kind id))) is)
]

-- ---- an expansion that lists paths

-- no path has nothing against it, as an empty unit hasn't
pub inner_told : (paths : List Path) (error : Option (List ℕ)) → verdict_of_entry (inner_entry paths error) ≡ verdict_of_inner paths
inner_told [] error = refl
inner_told (path ∷ paths) error = refl
