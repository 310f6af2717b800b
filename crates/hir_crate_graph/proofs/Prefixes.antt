-- The first of the transitive dependencies, for other crates that depend on the same.
use Rattle.std.proofs.Common.{◌≡◌, ◌⊎◌, inl, inr, nat_eq, ℕ, ◌<◌, ◌≤◌, zero, suc, Bool, ◌||◌, List}
use Rattle.std.proofs.Common.{[], ◌∷◌, ◌++◌, length, map, take, refl, sym, ap, ap₂, ◌∙◌, arith}
use Rattle.std.specs.List.{AllZip, list_any}
use Rattle.std.specs.declared.alloc.Global.{Global}
use Rattle.std.specs.declared.rc.Rc.{Rc}
use Rattle.std.proofs.lemmas.Bool.{cases_lt}
use Rattle.std.proofs.lemmas.List.{length-take-le, take-append-le, take_all}
use Rattle.hir_ids.specs.declared.ids.Crate.{Crate}
use Rattle.hir_crate_graph.specs.CrateSet.{crates_below}
use Rattle.hir_crate_graph.specs.declared.crate_set.CrateSet.{CrateSet}
use Rattle.hir_crate_graph.specs.Dependencies.{is_reached, transitive_dependencies, transitive_below, has_late, AgreeBelow, AreTransitive, IsOrderedBelow}
use Rattle.hir_crate_graph.proofs.Closure.{any_alike, length-transitive_below, less}

-- sets that are shared are the same
pub shared_sets : (old new : List (Rc CrateSet Global)) → AllZip (λ rc copy. copy.value ≡ rc.value) old new → map (λ (set : Rc CrateSet Global). set.value) new
    ≡ map (λ (set : Rc CrateSet Global). set.value) old
shared_sets [] [] same = refl
shared_sets [] (y ∷ ys) same = absurd same
shared_sets (x ∷ xs) [] same = absurd same
shared_sets (x ∷ xs) (y ∷ ys) same = λ i. same.0 i ∷ shared_sets xs ys same.1 i

-- the first of what is listed
take_below : (direct : ℕ → List Crate) (n k : ℕ) → k ≤ n → take k (transitive_below direct n) ≡ transitive_below direct k
take_below direct zero zero le = refl
take_below direct zero (suc k) le = absurd (omega arith)
take_below direct (suc n) k le = go (cases_lt n k) (take_below direct n k)
  where
    go : (n < k) ⊎ (k ≤ n) → (k ≤ n → take k (transitive_below direct n) ≡ transitive_below direct k)
        → take k (transitive_below direct (suc n)) ≡ transitive_below direct k
    go (inl all) before =
        let same : k ≡ suc n = omega arith in
        let long = length-transitive_below direct (suc n) in
        take_all k (transitive_below direct (suc n)) (omega (arith, long)) ∙ ap (transitive_below direct) (sym same)
    go (inr some) before =
        let long = length-transitive_below direct n in
        take-append-le k (transitive_below direct n) (transitive_dependencies direct n ∷ []) (omega (arith, long)) ∙ before some

module _ (direct other : ℕ → List Crate) (count : ℕ) (agree : AgreeBelow count direct other) where
  -- the same is reached from each crate
  reached_alike : (n k j : ℕ) → k < count → IsOrderedBelow direct (suc k) → is_reached other n k j ≡ is_reached direct n k j
  reached_alike zero k j low ordered = refl
  reached_alike (suc n) k j low ordered =
      ap (list_any (λ (d : Crate). nat_eq j d.0 || is_reached other n d.0 j)) (agree k low)
      ∙ any_alike k (λ (d : Crate). nat_eq j d.0 || is_reached other n d.0 j) (λ (d : Crate). nat_eq j d.0 || is_reached direct n d.0 j) (direct k)
      (ordered k (omega arith))
      (λ d lt. ap (λ (t : Bool). nat_eq j d.0 || t) (reached_alike n d.0 j (omega arith) (less direct (suc d.0) (suc k) (omega arith) ordered)))

  -- so the same is listed
  transitive_alike : (k : ℕ) → k < count → IsOrderedBelow direct (suc k) → transitive_dependencies other k ≡ transitive_dependencies direct k
  transitive_alike k low ordered = ap (λ (test : ℕ → Bool). crates_below test k) (λ i j. reached_alike k k j low ordered i)

  below_alike : (n : ℕ) → n ≤ count → IsOrderedBelow direct n → transitive_below other n ≡ transitive_below direct n
  below_alike zero le ordered = refl
  below_alike (suc n) le ordered =
      ap₂ (λ (xs : List (List Crate)) (x : List Crate). xs ++ x ∷ [])
      (below_alike n (omega arith) (less direct n (suc n) (omega arith) ordered))
      (transitive_alike n (omega arith) ordered)

  pub AreTransitive-prefix : (sets : List (List Crate)) → AreTransitive direct sets → AreTransitive other (take count sets)
  AreTransitive-prefix sets are = go (cases_lt count (length sets))
    where
      short : (n : ℕ) → length (take count sets) ≡ n → n ≤ count → n ≤ length sets → take count sets ≡ transitive_below direct n
          → AreTransitive other (take count sets)
      short n long few within first =
          let below : IsOrderedBelow direct n = less direct n (length sets) within are.ordered in
          record {
            ordered = λ k lt. ap (has_late k) (agree k (omega (arith, long))) ∙ are.ordered k (omega (arith, long));
            each = first ∙ sym (below_alike n few below) ∙ ap (transitive_below other) (sym long);
          }

      go : (count < length sets) ⊎ (length sets ≤ count) → AreTransitive other (take count sets)
      go (inl some) =
          short count (length-take-le count sets (omega arith)) (omega arith) (omega arith)
          (ap (take count) are.each ∙ take_below direct (length sets) count (omega arith))
      go (inr all) =
          let whole = take_all count sets all in
          short (length sets) (ap (λ (xs : List (List Crate)). length xs) whole) all (omega arith) (whole ∙ are.each)
