-- Crates that were handed in alike depend on the same crates.
use Rattle.std.proofs.Common.{◌≡◌, ◌∙◌, ◌==◌, ◌||◌, ℕ, zero, suc, ◌<◌, nat_le, nat_lt, Bool, true, false, cond, List, [], ◌∷◌, map, Option, refl, sym, ap, ap₂}
use Rattle.std.proofs.Common.{arith, Contains}
use Rattle.std.specs.List.{list_any}
use Rattle.std.proofs.lemmas.Bool.Decides.{nat_tests}
use Rattle.std.proofs.lemmas.Map.Views.{Contains-from_any}
use Rattle.hir_nameres.specs.HirIds.declared.ids.Crate.{Crate}
use Rattle.hir_nameres.specs.HirCrateGraph.CrateSet.{crate_of, crates_below}
use Rattle.hir_nameres.specs.HirCrateGraph.Dependencies.{DependsOn, IsOrderedBelow, has_late, is_reached, transitive_dependencies}
use Rattle.hir_nameres.specs.HirCrateGraph.Dependencies.DependsOn.{directly, through}
use Rattle.hir_nameres.proofs.HirCrateGraph.Closure.{transitive_agree}
use Rattle.hir_nameres.proofs.HirCrateGraph.CrateLists.{exact_crate}
use Rattle.hir_collector_rules.specs.Types.{Dependency}
use Rattle.hir_collector_rules.specs.Workspace.{ConfigValue, dependencies_of, direct_by, earlier, named_by, transitive_by}

-- ---- those that come before a crate

-- a crate before another isn't late
on_time : (k n : ℕ) → nat_lt n k ≡ true → nat_le k n ≡ false
on_time k n e = grind (arith, nat_tests)

-- one that isn't late comes before it
comes_before : (k n : ℕ) → nat_le k n ≡ false → nat_lt n k ≡ true
comes_before k n e = grind (arith, nat_tests)

below : (k n : ℕ) → nat_lt n k ≡ true → n < k
below k n e = grind (arith, nat_tests)

-- of those that come before a crate none is late
pub none_late : (k : ℕ) (crates : List Crate) → has_late k (earlier k crates) ≡ false
none_late k [] = refl
none_late k (c ∷ cs) = go (nat_lt c.0 k) refl (none_late k cs)
  where
    go : (b : Bool) → nat_lt c.0 k ≡ b → has_late k (earlier k cs) ≡ false → has_late k (cond b (c ∷ earlier k cs) (earlier k cs)) ≡ false
    go true e others = ap (λ (t : Bool). t || has_late k (earlier k cs)) (on_time k c.0 e) ∙ others
    go false e others = others

-- where none is late, all come before it
pub all_earlier : (k : ℕ) (crates : List Crate) → has_late k crates ≡ false → earlier k crates ≡ crates
all_earlier k [] none = refl
all_earlier k (c ∷ cs) none = go (nat_le k c.0) refl none (all_earlier k cs)
  where
    go : (b : Bool) → nat_le k c.0 ≡ b → (b || has_late k cs) ≡ false → (has_late k cs ≡ false → earlier k cs ≡ cs) → earlier k (c ∷ cs) ≡ c ∷ cs
    go true e late others = absurd (let no : ⊥ = cc in no)
    go false e late others =
        ap (λ (b : Bool). cond b (c ∷ earlier k cs) (earlier k cs)) (comes_before k c.0 e) ∙ ap (λ (ds : List Crate). c ∷ ds) (others late)

-- one of them is among all, and comes before it
pub among_earlier : (k : ℕ) (crates : List Crate) (d : Crate) → Contains (earlier k crates) d → Contains crates d × (d.0 < k)
among_earlier k [] d (n, within, is) = absurd (omega arith)
among_earlier k (c ∷ cs) d h = go (nat_lt c.0 k) refl (among_earlier k cs d) h
  where
    behind : Contains cs d × (d.0 < k) → Contains (c ∷ cs) d × (d.0 < k)
    behind ((n, within, is), before) = ((suc n, omega arith, is), before)

    go : (b : Bool) → nat_lt c.0 k ≡ b → (Contains (earlier k cs) d → Contains cs d × (d.0 < k)) → Contains (cond b (c ∷ earlier k cs) (earlier k cs)) d
        → Contains (c ∷ cs) d × (d.0 < k)
    go true e others (zero, within, is) = ((0, omega arith, is), below k d.0 (ap (λ (x : Crate). nat_lt x.0 k) (sym is) ∙ e))
    go true e others (suc n, within, is) = behind (others (n, omega arith, is))
    go false e others h = behind (others h)

-- so crates depend only on such as come before them
pub ordered_by : (config : Crate → Option ConfigValue) (count : ℕ) → IsOrderedBelow (direct_by config) count
ordered_by config count k within = none_late k (named_by config k)

-- ---- crates that were handed in alike

any_same : (p q : Crate → Bool) (crates : List Crate) → ((c : Crate) → Contains crates c → p c ≡ q c) → list_any p crates ≡ list_any q crates
any_same p q [] same = refl
any_same p q (c ∷ cs) same =
    ap₂ (λ (a b : Bool). a || b) (same c (0, omega arith, refl)) (any_same p q cs (λ d h. same d (suc h.0, omega (arith, h.1), h.2)))

module _ (direct other : ℕ → List Crate) where
  -- where a crate and all on which it depends have the same direct dependencies, the same is reached from it
  reached_same : (steps k : ℕ) → other k ≡ direct k → ((j : ℕ) → DependsOn direct k j → other j ≡ direct j) → (j : ℕ) → is_reached other steps k j
      ≡ is_reached direct steps k j
  reached_same zero k own behind j = refl
  reached_same (suc steps) k own behind j =
      ap (λ (crates : List Crate). list_any (λ (d : Crate). j == d.0 || is_reached other steps d.0 j) crates) own
      ∙ any_same (λ (d : Crate). j == d.0 || is_reached other steps d.0 j) (λ (d : Crate). j == d.0 || is_reached direct steps d.0 j) (direct k)
      (λ d among. ap (λ (t : Bool). j == d.0 || t)
      (reached_same steps d.0 (behind d.0 (directly k d among)) (λ i depends. behind i (through k i d among depends)) j))

  reached_alike : (k : ℕ) → other k ≡ direct k → ((j : ℕ) → DependsOn direct k j → other j ≡ direct j) → transitive_dependencies other k
      ≡ transitive_dependencies direct k
  reached_alike k own behind = ap (λ (test : ℕ → Bool). crates_below test k) (λ i j. reached_same k k own behind j i)

-- a crate depends on the same where it and all on which it depends were handed in alike
pub same_transitive : (config other : Crate → Option ConfigValue) (krate : Crate)
    → ((c : Crate) → Contains (krate ∷ transitive_by config krate) c → other c ≡ config c) → transitive_by other krate ≡ transitive_by config krate
same_transitive config other krate same =
    reached_alike (direct_by config) (direct_by other) krate.0 (same_direct krate (same krate (0, omega arith, refl)))
    (λ j depends. same_direct (crate_of j) (same (crate_of j) (listed j depends)))
  where
    same_direct : (c : Crate) → other c ≡ config c → direct_by other c.0 ≡ direct_by config c.0
    same_direct c e = ap (λ (o : Option ConfigValue). earlier c.0 (map (λ (d : Dependency). d.krate) (dependencies_of o))) e

    listed : (j : ℕ) → DependsOn (direct_by config) krate.0 j → Contains (krate ∷ transitive_by config krate) (crate_of j)
    listed j depends =
        let has = (transitive_agree (direct_by config) krate.0 (ordered_by config (suc krate.0)) (crate_of j)).1 depends in
        let among = Contains-from_any exact_crate (crate_of j) (transitive_by config krate) has in
        (suc among.0, omega (arith, among.1), among.2)
