-- Which of the heads of two walks comes first?
use Rattle.std.specs.Prelude.{List, ◌∷◌, Option, None, Some}
use Rattle.std.specs.Ordering.{match_ordering}
use Rattle.std.specs.declared.cmp.Ordering.{Ordering}

-- a list with the item before it that was taken out already
abbrev pub with_head : {K : Type 0} → Option K → List K → List K
with_head None xs = xs
with_head (Some x) xs = x ∷ xs

-- of the heads of two lists the one that comes first, and the heads that are left
pub record Picked (K : Type 0) : Type 0 where
  pub given : Option K
  pub first : Option K
  pub second : Option K

abbrev pub pick : {K : Type 0} → (K → K → Ordering) → Option K → Option K → Picked K
pick cmp None second = record { given = second; first = None; second = None }
pick cmp (Some x) None = record { given = Some x; first = None; second = None }
pick cmp (Some x) (Some y) = match_ordering (cmp x y)
    (record { given = Some x; first = None; second = Some y })
    (record { given = Some x; first = None; second = None })
    (record { given = Some y; first = Some x; second = None })
