-- What does the code answer of a graph?
use Rattle.std.specs.Prelude.{◌≡◌, ℕ, zero, suc, Bool, false, ◌||◌, List, [], ◌∷◌, ◌++◌, length, Option, None, Some, Result, Ok, Err, if◌then◌else◌}
use Rattle.std.specs.Prelude.{slice_index_or}
use Rattle.std.specs.List.{list_any}
use Rattle.hir_ids.specs.declared.ids.Crate.{Crate}
use Rattle.hir_crate_graph.specs.CrateSet.{same_crate, has_crate, IsAscending, crate_of}
use Rattle.hir_crate_graph.specs.Dependencies.{has_late, transitive_below}
use Rattle.hir_crate_graph.specs.declared.transitive.CrateGraphError.{CrateGraphError}
use Rattle.hir_crate_graph.specs.declared.transitive.CrateGraphError.TheVariants.{DependencyOrder, Memory}

-- memory ran out
abbrev pub IsMemory : CrateGraphError → Type 0
IsMemory e = e ≡ Memory

-- the list of a number, and past the last an empty one
abbrev pub crates_at : List (List Crate) → ℕ → List Crate
crates_at lists k = slice_index_or lists k []

-- the crate that is there, and without one that of this number where it is late
abbrev pub or_late : Option Crate → Bool → ℕ → Option Crate
or_late (Some c) late k = Some c
or_late None late k = if late then Some (crate_of k) else None

-- the first crate below a number that has a dependency that doesn't come before it
abbrev pub first_late : (ℕ → List Crate) → ℕ → Option Crate
first_late direct zero = None
first_late direct (suc count) = or_late (first_late direct count) (has_late count (direct count)) count

abbrev pub given : Option Crate → List (List Crate) → Result (List (List Crate)) CrateGraphError
given (Some c) sets = Err (DependencyOrder c)
given None sets = Ok sets

-- the transitive dependencies of crates with these direct ones, or the first crate that breaks the order
abbrev pub transitive_of : List (List Crate) → Result (List (List Crate)) CrateGraphError
transitive_of lists = given (first_late (crates_at lists) (length lists)) (transitive_below (crates_at lists) (length lists))

-- whether the next crate is taken
abbrev pub verdict_of_push : List (List Crate) → List Crate → Result (Unit {0}) CrateGraphError
verdict_of_push sets dependencies = if has_late (length sets) dependencies then Err (DependencyOrder (crate_of (length sets))) else Ok tt

-- whether a crate is a dependency, or one on which that depends
abbrev pub comes_by : List (List Crate) → Crate → Crate → Bool
comes_by sets d c = same_crate c d || has_crate (crates_at sets d.0) c

-- the crates are the dependencies and those on which they depend
pub record IsUnionOf (sets : List (List Crate)) (dependencies union : List Crate) : Type 0 where
  pub has : (c : Crate) → has_crate union c ≡ list_any (λ d. comes_by sets d c) dependencies
  pub ascending : IsAscending union

-- the next crate is taken with its dependencies and those on which they depend
pub record Adds (old new : List (List Crate)) (dependencies : List Crate) : Type 0 where
  pub in_order : has_late (length old) dependencies ≡ false
  pub union : List Crate
  pub is_union : IsUnionOf old dependencies union
  pub is : new ≡ old ++ union ∷ []
