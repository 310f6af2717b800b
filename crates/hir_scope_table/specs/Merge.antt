-- Which list do two sorted lists make together?
use Rattle.std.specs.Prelude.{List, [], ◌∷◌}
use Rattle.std.specs.Ordering.{match_ordering}
use Rattle.std.specs.declared.cmp.Ordering.{Ordering}

-- an item before a rest, which is still to be merged with a second list
abbrev pub merged_in : {K : Type 0} → (K → K → Ordering) → K → (List K → List K) → List K → List K
merged_in cmp x rest [] = x ∷ rest []
merged_in cmp x rest (y ∷ ys) = match_ordering (cmp x y) (x ∷ rest (y ∷ ys)) (x ∷ rest ys) (y ∷ merged_in cmp x rest ys)

-- two sorted lists as one, which has what both have once
abbrev pub merge : {K : Type 0} → (K → K → Ordering) → List K → List K → List K
merge cmp [] ys = ys
merge cmp (x ∷ xs) ys = merged_in cmp x (merge cmp xs) ys
