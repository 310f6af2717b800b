-- What is a set of crates?
use Rattle.std.specs.Prelude.{◌≡◌, ◌==◌, ℕ, ◌<◌, zero, suc, Bool, ◌||◌, List, [], ◌∷◌, if◌then◌else◌}
use Rattle.std.specs.List.{AllByRecursion, list_any}
use Rattle.std.specs.Cmp.{IsEquivalence}
use Rattle.std.specs.Cmp.Lexicographic.{lists_equiv, pointwise}
use Rattle.hir_ids.specs.declared.ids.Crate.{Crate}
use Rattle.hir_ids.specs.contracts.ids.CratePartialEq.TheImpl as krate
use Rattle.hir_ids.specs.contracts.ids.CrateEq.TheImpl.Laws.{laws-law as krate_laws}

abbrev pub same_crate : Crate → Crate → Bool
same_crate a b = a.0 == b.0

-- whether a crate is among some
abbrev pub has_crate : List Crate → Crate → Bool
has_crate crates c = list_any (same_crate c) crates

-- each crate comes before all behind it
abbrev pub IsAscending : List Crate → Type 0
IsAscending [] = Unit {0}
IsAscending (c ∷ cs) = AllByRecursion (λ d. c.0 < d.0) cs × IsAscending cs

-- a set gains the crates for which a test holds
pub record Gains (old new : List Crate) (test : Crate → Bool) : Type 0 where
  pub has : (c : Crate) → has_crate new c ≡ (has_crate old c || test c)

-- the crate of a number
abbrev pub crate_of : ℕ → Crate
crate_of n = record { 0 = n }

-- those of so many crates, from this number on, that pass a test
abbrev pub crates_from : (ℕ → Bool) → ℕ → ℕ → List Crate
crates_from test start zero = []
crates_from test start (suc count) =
    if test start then crate_of start ∷ crates_from test (suc start) count else crates_from test (suc start) count

-- those of the crates below a number
abbrev pub crates_below : (ℕ → Bool) → ℕ → List Crate
crates_below test count = crates_from test 0 count

-- whether two sets list the same crates
abbrev pub same_crates : List Crate → List Crate → Bool
same_crates = pointwise krate.ghosts.eq

pub same_crates_equiv : IsEquivalence same_crates
same_crates_equiv = lists_equiv krate_laws
