-- Edges that are listed stay so.
use Rattle.std.proofs.Common.{◌≡◌, ◌∙◌, ap, sym, subst, refl, ℕ, Bool, true, false, List, Some, cond}
use Rattle.std.specs.Prelude.{Contains}
use Rattle.std.specs.Ordering.{nat_cmp}
use Rattle.std.specs.BTreeMap.{get, is_at}
use Rattle.std.specs.declared.vec.Vec.{Vec}
use Rattle.std.specs.declared.alloc.Global.{Global}
use Rattle.std.proofs.lemmas.Cmp.{nat_cmp_total, tied_itself}
use Rattle.std.specs.Ordering.{is_eq}
use Rattle.hir_glob_imports.specs.Types.{EdgesByModule}
use Rattle.hir_glob_imports.specs.Inner.{edges_at, items_or_none}
use Rattle.hir_glob_imports.proofs.Exact.{exact_nat}

module _ (old new : EdgesByModule) (at : ℕ) (list : Vec ℕ Global)
    (updates : (q : ℕ) → get nat_cmp new.lists q ≡ cond (is_at (nat_cmp at) q) (Some list) (get nat_cmp old.lists q)) where
  on : (q : ℕ) (b : Bool) → is_at (nat_cmp at) q ≡ b → edges_at new q ≡ cond b list.items (edges_at old q)
  on q true e = ap items_or_none (updates q ∙ ap (λ (b : Bool). cond b (Some list) (get nat_cmp old.lists q)) e)
  on q false e = ap items_or_none (updates q ∙ ap (λ (b : Bool). cond b (Some list) (get nat_cmp old.lists q)) e)

  pub listed_here : (x : ℕ) → Contains list.items x → Contains (edges_at new at) x
  listed_here x h = subst (λ (xs : List ℕ). Contains xs x) (sym (on at true (ap is_eq (tied_itself nat_cmp_total at)))) h

  pub listed_still : ((x : ℕ) → Contains (edges_at old at) x → Contains list.items x)
      → (q x : ℕ) → Contains (edges_at old q) x → Contains (edges_at new q) x
  listed_still has q x h = go (is_at (nat_cmp at) q) refl
    where
      go : (b : Bool) → is_at (nat_cmp at) q ≡ b → Contains (edges_at new q) x
      go true e =
          let here : at ≡ q = exact_nat at q e in
          subst (λ (xs : List ℕ). Contains xs x) (sym (on q true e)) (has x (subst (λ (m : ℕ). Contains (edges_at old m) x) (sym here) h))
      go false e = subst (λ (xs : List ℕ). Contains xs x) (sym (on q false e)) h
