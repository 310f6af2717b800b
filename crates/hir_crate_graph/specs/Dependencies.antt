-- On which crates does a crate depend?
use Rattle.std.specs.Prelude.{◌≡◌, ◌==◌, ℕ, ◌<◌, zero, suc, nat_le, Bool, false, ◌||◌, List, [], ◌∷◌, ◌++◌, length, Contains}
use Rattle.std.specs.List.{list_any}
use Rattle.hir_ids.specs.declared.ids.Crate.{Crate}
use Rattle.hir_crate_graph.specs.CrateSet.{crates_below}

-- the second crate is a direct dependency of the first, or one on which such a one depends
pub data DependsOn (direct : ℕ → List Crate) : ℕ → ℕ → Type 0 where
  directly : (k : ℕ) (d : Crate) → Contains (direct k) d → DependsOn direct k d.0
  through : (k j : ℕ) (d : Crate) → Contains (direct k) d → DependsOn direct d.0 j → DependsOn direct k j

-- whether a crate is reached from another in at most so many steps to direct dependencies
abbrev pub is_reached : (ℕ → List Crate) → ℕ → ℕ → ℕ → Bool
is_reached direct zero k j = false
is_reached direct (suc steps) k j = list_any (λ d. j == d.0 || is_reached direct steps d.0 j) (direct k)

-- the transitive dependencies of a crate in ascending order; each comes before it, so it has no more steps to them than its number says
abbrev pub transitive_dependencies : (ℕ → List Crate) → ℕ → List Crate
transitive_dependencies direct k = crates_below (is_reached direct k k) k

-- those of each crate below a number
abbrev pub transitive_below : (ℕ → List Crate) → ℕ → List (List Crate)
transitive_below direct zero = []
transitive_below direct (suc count) = transitive_below direct count ++ transitive_dependencies direct count ∷ []

-- whether some of these dependencies doesn't come before the crate
abbrev pub has_late : ℕ → List Crate → Bool
has_late k crates = list_any (λ d. nat_le k d.0) crates

-- each crate below a number has only dependencies that come before it
abbrev pub IsOrderedBelow : (ℕ → List Crate) → ℕ → Type 0
IsOrderedBelow direct count = (k : ℕ) → k < count → has_late k (direct k) ≡ false

-- dependencies come before their crates, and the lists are the transitive ones
pub record AreTransitive (direct : ℕ → List Crate) (sets : List (List Crate)) : Type 0 where
  pub ordered : IsOrderedBelow direct (length sets)
  pub each : sets ≡ transitive_below direct (length sets)

-- the same crates are named below a number
abbrev pub AgreeBelow : ℕ → (ℕ → List Crate) → (ℕ → List Crate) → Type 0
AgreeBelow count direct other = (k : ℕ) → k < count → other k ≡ direct k
