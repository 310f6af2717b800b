-- What holds of every graph?
use Rattle.std.specs.Prelude.{◌≡◌, ◌↔◌, ℕ, suc, true, List}
use Rattle.hir_ids.specs.declared.ids.Crate.{Crate}
use Rattle.hir_crate_graph.specs.CrateSet.{has_crate, IsAscending}
use Rattle.hir_crate_graph.specs.Dependencies.{DependsOn, transitive_dependencies, IsOrderedBelow}

-- where dependencies come before their crates, the transitive dependencies of a crate are those on which it depends
abbrev pub ListsWhatIsDependedOn : Type 0
ListsWhatIsDependedOn = (direct : ℕ → List Crate) (k : ℕ) → IsOrderedBelow direct (suc k) → (c : Crate)
    → (has_crate (transitive_dependencies direct k) c ≡ true) ↔ DependsOn direct k c.0

-- they are listed in ascending order
abbrev pub ListsAscend : Type 0
ListsAscend = (direct : ℕ → List Crate) (k : ℕ) → IsAscending (transitive_dependencies direct k)
