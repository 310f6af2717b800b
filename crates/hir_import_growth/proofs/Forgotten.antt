-- What globs have brought once something is bound explicitly.
use Rattle.std.proofs.Common.{◌≡◌, ◌∙◌, sym, subst, ℕ, Bool, List, is_some}
use Rattle.hir_nameres.specs.HirPerNs.declared.per_ns.PerNs.{PerNs}
use Rattle.hir_glob_imports.specs.Rules.{BroughtBy}
use Rattle.hir_glob_imports.specs.View.{View}
use Rattle.hir_glob_imports.specs.Waves.{GlobsValue, IsKept}
use Rattle.hir_glob_imports.specs.declared.edge.Key.TheVariants.{Types, Values, Macros}
use Rattle.hir_import_rules.specs.Changes.{forgotten, forgotten_in}
use Rattle.hir_import_growth.specs.Binding.{IsBound, MayBind}

module _ (home : ℕ) (name n1 n2 n3 : List ℕ) (items : PerNs) (b1 b2 b3 : Bool) (is1 : n1 ≡ name) (is2 : n2 ≡ name) (is3 : n3 ≡ name)
    (binds1 : b1 ≡ is_some items.types) (binds2 : b2 ≡ is_some items.values) (binds3 : b3 ≡ is_some items.macros) where
  pub forgotten_thrice : (f0 f1 f2 f3 : BroughtBy) → f1 ≡ forgotten_in home (Types n1) b1 f0 → f2 ≡ forgotten_in home (Values n2) b2 f1
      → f3 ≡ forgotten_in home (Macros n3) b3 f2 → f3 ≡ forgotten home name items f0
  forgotten_thrice f0 f1 f2 f3 first second third =
      third ∙ (λ i. forgotten_in home (Macros (is3 i)) (binds3 i)
      ((second ∙ (λ j. forgotten_in home (Values (is2 j)) (binds2 j) ((first ∙ (λ k. forgotten_in home (Types (is1 k)) (binds1 k) f0)) j))) i))

  pub kept_thrice : (g0 g1 g2 g3 : GlobsValue) → ((v w : View) → IsKept v g0 → MayBind home (Types n1) b1 v w → IsKept w g1)
      → ((v w : View) → IsKept v g1 → MayBind home (Values n2) b2 v w → IsKept w g2) → ((v w : View) → IsKept v g2 → MayBind home (Macros n3) b3 v w
      → IsKept w g3)
      → (v w : View) → IsKept v g0 → IsBound home name items v w → IsKept w g3
  kept_thrice g0 g1 g2 g3 first second third v w kept bound =
      third bound.with_values w
      (second bound.with_types bound.with_values
      (first v bound.with_types kept (types bound.types)) (values bound.values)) (macros bound.macros)
    where
      types : MayBind home (Types name) (is_some items.types) v bound.with_types → MayBind home (Types n1) b1 v bound.with_types
      types h = subst (λ (b : Bool). MayBind home (Types n1) b v bound.with_types) (sym binds1)
          (subst (λ (n : List ℕ). MayBind home (Types n) (is_some items.types) v bound.with_types) (sym is1) h)

      values : MayBind home (Values name) (is_some items.values) bound.with_types bound.with_values → MayBind home (Values n2) b2 bound.with_types
          bound.with_values
      values h = subst (λ (b : Bool). MayBind home (Values n2) b bound.with_types bound.with_values) (sym binds2)
          (subst (λ (n : List ℕ). MayBind home (Values n) (is_some items.values) bound.with_types bound.with_values) (sym is2) h)

      macros : MayBind home (Macros name) (is_some items.macros) bound.with_values w → MayBind home (Macros n3) b3 bound.with_values w
      macros h = subst (λ (b : Bool). MayBind home (Macros n3) b bound.with_values w) (sym binds3)
          (subst (λ (n : List ℕ). MayBind home (Macros n) (is_some items.macros) bound.with_values w) (sym is3) h)
