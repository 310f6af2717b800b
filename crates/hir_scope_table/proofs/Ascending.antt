-- Two ascending lists make an ascending list together.
use Rattle.std.proofs.Common.{◌≡◌, refl, ap, ◌∙◌, List, [], ◌∷◌}
use Rattle.std.specs.List.{AllByRecursion}
use Rattle.std.specs.List.Sorted.{IsStrictlySortedBy}
use Rattle.std.specs.Cmp.{IsTotalOrder}
use Rattle.std.specs.Ordering.{match_ordering, ordering_reverse}
use Rattle.std.specs.declared.cmp.Ordering.{Ordering}
use Rattle.std.specs.declared.cmp.Ordering.TheVariants.{Less, Equal, Greater}
use Rattle.hir_scope_table.specs.Merge.{merge, merged_in}

module _ {K : Type 0} (cmp : K → K → Ordering) where
  all_weaker : (P Q : K → Type 0) → ((x : K) → P x → Q x) → (xs : List K) → AllByRecursion P xs → AllByRecursion Q xs
  all_weaker P Q f [] h = tt
  all_weaker P Q f (x ∷ xs) h = (f x h.0, all_weaker P Q f xs h.1)

  -- what holds of the items of both lists holds of those of the merged one
  all_merged : (P : K → Type 0) (xs ys : List K) → AllByRecursion P xs → AllByRecursion P ys → AllByRecursion P (merge cmp xs ys)
  all_merged P [] ys p q = q
  all_merged P (x ∷ xs) ys p q = go (λ zs. all_merged P xs zs p.1) ys q
    where
      go : ((zs : List K) → AllByRecursion P zs → AllByRecursion P (merge cmp xs zs))
          → (zs : List K) → AllByRecursion P zs → AllByRecursion P (merged_in cmp x (merge cmp xs) zs)
      go rest [] r = (p.0, rest [] tt)
      go rest (y ∷ zs) r =
          elim (cmp x y) as (λ o. AllByRecursion P (match_ordering o (x ∷ merge cmp xs (y ∷ zs)) (x ∷ merge cmp xs zs) (y ∷ merged_in cmp x (merge cmp xs) zs)))
          [ Less ↦ (p.0, rest (y ∷ zs) r) | Equal ↦ (p.0, rest zs r.1) | Greater ↦ (r.0, go rest zs r.1) ]

  module _ (total : IsTotalOrder cmp) where
    pub merge_ascends : (xs ys : List K) → IsStrictlySortedBy cmp xs → IsStrictlySortedBy cmp ys → IsStrictlySortedBy cmp (merge cmp xs ys)
    unfolding IsStrictlySortedBy
    merge_ascends [] ys s t = t
    merge_ascends (x ∷ xs) ys s t = go (λ zs. merge_ascends xs zs s.1) ys t
      where
        go : ((zs : List K) → IsStrictlySortedBy cmp zs → IsStrictlySortedBy cmp (merge cmp xs zs))
            → (zs : List K) → IsStrictlySortedBy cmp zs → IsStrictlySortedBy cmp (merged_in cmp x (merge cmp xs) zs)
        go rest [] u = (all_merged (λ z. cmp x z ≡ Less) xs [] s.0 tt, rest [] tt)
        go rest (y ∷ zs) u = on (go rest zs u.1) (cmp x y) refl
          where
            on : IsStrictlySortedBy cmp (merged_in cmp x (merge cmp xs) zs) → (o : Ordering) → cmp x y ≡ o
                → IsStrictlySortedBy cmp (match_ordering o (x ∷ merge cmp xs (y ∷ zs)) (x ∷ merge cmp xs zs) (y ∷ merged_in cmp x (merge cmp xs) zs))
            on later Less e = (
              all_merged (λ z. cmp x z ≡ Less) xs (y ∷ zs) s.0 (
                e,
                all_weaker (λ z. cmp y z ≡ Less) (λ z. cmp x z ≡ Less) (λ z l. total.trans x y z e l) zs
                    u.0,
              ),
              rest (y ∷ zs) u,
            )
            on later Equal e = (
              all_merged (λ z. cmp x z ≡ Less) xs zs s.0 (all_weaker (λ z. cmp y z ≡ Less) (λ z. cmp x z ≡ Less) (λ z l. total.congr x y z e ∙ l) zs u.0),
              rest zs u.1,
            )
            on later Greater e =
                let first : cmp y x ≡ Less = total.antisymm y x ∙ ap ordering_reverse e in (
                  all_merged (λ z. cmp y z ≡ Less) (x ∷ xs) zs (
                    first,
                    all_weaker (λ z. cmp x z ≡ Less) (λ z. cmp y z ≡ Less) (λ z l. total.trans y x z first l)
                        xs s.0,
                  ) u.0,
                  later,
                )
