-- The head of two merged lists is the one that is picked.
use Rattle.std.proofs.Common.{◌≡◌, refl, ap, List, [], ◌∷◌, Option, None, Some}
use Rattle.std.specs.Prelude.{MatchOption}
use Rattle.std.specs.Ordering.{match_ordering}
use Rattle.std.specs.declared.cmp.Ordering.{Ordering}
use Rattle.std.specs.declared.cmp.Ordering.TheVariants.{Less, Equal, Greater}
use Rattle.hir_scope_table.specs.Merge.{merge, merged_in}
use Rattle.hir_scope_table.specs.Inner.Picked.{with_head, Picked, pick}

module _ {K : Type 0} (cmp : K → K → Ordering) where
  merge_nil : (xs : List K) → merge cmp xs [] ≡ xs
  merge_nil [] = refl
  merge_nil (x ∷ xs) = ap (λ (ys : List K). x ∷ ys) (merge_nil xs)

  -- what is given stands before what is left
  abbrev pub Gives : Picked K → List K → List K → List K → Type 0
  Gives picked xs ys all = MatchOption picked.given ((all ≡ []) × (merge cmp (with_head picked.first xs) (with_head picked.second ys) ≡ []))
      (λ n. all ≡ n ∷ merge cmp (with_head picked.first xs) (with_head picked.second ys))

  pub merge-pick : (first second : Option K) (xs ys : List K) → (first ≡ None → xs ≡ []) → (second ≡ None → ys ≡ [])
      → Gives (pick cmp first second) xs ys (merge cmp (with_head first xs) (with_head second ys))
  merge-pick None None xs ys p q = rw (p refl, q refl) (refl, refl)
  merge-pick None (Some y) xs ys p q = rw (p refl) refl
  merge-pick (Some x) None xs ys p q = rw (q refl) (ap (λ (zs : List K). x ∷ zs) refl)
  merge-pick (Some x) (Some y) xs ys p q =
      elim (cmp x y) as (λ o. Gives (match_ordering o (record { given = Some x; first = None; second = Some y })
      (record { given = Some x; first = None; second = None }) (record { given = Some y; first = Some x; second = None }))
      xs ys (match_ordering o (x ∷ merge cmp xs (y ∷ ys)) (x ∷ merge cmp xs ys) (y ∷ merged_in cmp x (merge cmp xs) ys)))
      [ Less ↦ refl | Equal ↦ refl | Greater ↦ refl ]

pub ruleset picks = (merge-pick)
