-- The crates that a path may begin with, looked up by name.
use Rattle.std.specs.Prelude.{◌≡◌, ◌≢◌, ℕ, nat_eq, List, [], ◌∷◌, Bool, true, false, cond, Option, Some}
use Rattle.std.specs.Bool.{Decides}
use Rattle.std.specs.Cmp.{unsigned_Decides}
use Rattle.std.specs.Cmp.Lexicographic.{pointwise, slice_cmp}
use Rattle.std.specs.Ordering.{nat_cmp}
use Rattle.std.specs.BTreeMap.{is_at}
use Rattle.std.specs.Map.{lookup}
use Rattle.std.proofs.Common.{ap, refl, sym, ◌∙◌}
use Rattle.std.proofs.lemmas.Slice.Eq.{slice_eq-Decides}
use mathlib.Core.Bool.{true≢false}
use Rattle.hir_ids.specs.declared.ids.ExternCrateId.{ExternCrateId}
use Rattle.hir_ids.specs.declared.ids.ModuleId.{ModuleId}
use Rattle.hir_map_parts.specs.State.{Local, at_name, with_extern}
use Rattle.hir_map_parts.proofs.Texts.{same_text, other_text}

names_decide : (name other : List ℕ) → Decides (pointwise nat_eq name other) (name ≡ other)
names_decide name other = slice_eq-Decides unsigned_Decides name other (pointwise nat_eq name other) refl

-- names are equal where their order says so
pub equal_names : (name other : List ℕ) → pointwise nat_eq name other ≡ is_at (slice_cmp nat_cmp name) other
equal_names name other = go (pointwise nat_eq name other) refl
  where
    go : (b : Bool) → pointwise nat_eq name other ≡ b → b ≡ is_at (slice_cmp nat_cmp name) other
    go true s = sym (ap (is_at (slice_cmp nat_cmp name)) (sym ((names_decide name other).0 s)) ∙ same_text name)
    go false s = sym (other_text name other (λ e. true≢false (sym ((names_decide name other).1 e) ∙ s)))

-- a look-up by equal names finds what one by order does
pub found_by_name : {V : Type 0} (es : List (List ℕ × V)) (name : List ℕ) → lookup (pointwise nat_eq name) es ≡ at_name es name
found_by_name [] name = refl
found_by_name (e ∷ es) name = λ i. cond (equal_names name e.0 i) (Some e.1) (found_by_name es name i)

module _ (name : List ℕ) (v : ModuleId × Option ExternCrateId) where
  -- the name stands for the module
  pub at_name-with_extern : (es : Local) → at_name (with_extern es name v) name ≡ Some v
  at_name-with_extern [] = rw (same_text name) refl
  at_name-with_extern (e ∷ es) = go (pointwise nat_eq name e.0) (equal_names name e.0) (at_name-with_extern es)
    where
      go : (b : Bool) → b ≡ is_at (slice_cmp nat_cmp name) e.0 → at_name (with_extern es name v) name ≡ Some v
          → at_name (cond b ((e.0, v) ∷ es) (e ∷ with_extern es name v)) name ≡ Some v
      go true s below = ap (λ (b : Bool). cond b (Some v) (at_name es name)) (sym s)
      go false s below = ap (λ (b : Bool). cond b (Some e.1) (at_name (with_extern es name v) name)) (sym s) ∙ below

  -- what stands at other names stays
  pub at_name-with_extern_other : (es : Local) (other : List ℕ) → other ≢ name → at_name (with_extern es name v) other ≡ at_name es other
  at_name-with_extern_other [] other ne = rw (other_text other name ne) refl
  at_name-with_extern_other (e ∷ es) other ne = go (pointwise nat_eq name e.0) refl (at_name-with_extern_other es other ne)
    where
      go : (b : Bool) → pointwise nat_eq name e.0 ≡ b → at_name (with_extern es name v) other ≡ at_name es other
          → at_name (cond b ((e.0, v) ∷ es) (e ∷ with_extern es name v)) other ≡ at_name (e ∷ es) other
      go true s below =
          let away : is_at (slice_cmp nat_cmp other) e.0 ≡ false = other_text other e.0 (λ k. ne (k ∙ sym ((names_decide name e.0).0 s))) in
          rw away refl
      go false s below = ap (cond (is_at (slice_cmp nat_cmp other) e.0) (Some e.1)) below
