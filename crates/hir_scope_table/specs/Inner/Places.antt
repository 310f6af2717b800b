-- Which places do names make that are kept by module?
use Rattle.std.specs.Prelude.{ℕ, List, [], ◌∷◌, ◌++◌, map}
use Rattle.std.specs.List.{AllByRecursion}
use Rattle.std.specs.List.Sorted.{IsStrictlySortedBy}
use Rattle.std.specs.Map.{keys_of}
use Rattle.std.specs.Ordering.{nat_cmp, ordering_then}
use Rattle.std.specs.Cmp.Lexicographic.{slice_cmp}
use Rattle.std.specs.declared.cmp.Ordering.{Ordering}
use Rattle.hir_ids.specs.declared.ids.ModuleId.{ModuleId}
use Rattle.hir_scope_table.specs.Globs.{Place}

-- the pairs that lists of things make, which are kept by their first parts
abbrev pub pairs_of : {M N E : Type 0} → (E → List N) → List (M × E) → List (M × N)
pairs_of things [] = []
pairs_of things (e ∷ es) = map (λ x. (e.0, x)) (things e.1) ++ pairs_of things es

-- of two pairs the first parts decide, and where these are equal the second
abbrev pub pair_cmp : {M N : Type 0} → (M → M → Ordering) → (N → N → Ordering) → M × N → M × N → Ordering
pair_cmp first second a b = ordering_then (first a.0 b.0) (second a.1 b.1)

-- the names of a module, each with nothing
abbrev pub Names : Type 0
Names = List (List ℕ × Unit {0})

abbrev pub names_in : Names → List (List ℕ)
names_in names = keys_of names

-- the places that the names of modules are
abbrev pub places_of : List (ModuleId × Names) → List Place
places_of modules = pairs_of names_in modules

-- the names of each module ascend
abbrev pub AreNamesSorted : List (ModuleId × Names) → Type 0
AreNamesSorted modules = AllByRecursion (λ m. IsStrictlySortedBy (slice_cmp nat_cmp) (names_in m.1)) modules
