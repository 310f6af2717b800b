-- Which numbers may stand in a row? Those of rows before it.
use Rattle.std.specs.Prelude.{◌<◌, ℕ, suc, List, [], ◌∷◌}
use Rattle.std.specs.List.{AllByRecursion}
use Rattle.hir_item_tree.specs.Rows.{Content, alone, with_items, RowValue}

-- all numbers are below this one
abbrev pub AreBelow : ℕ → List ℕ → Type 0
AreBelow n ns = AllByRecursion (λ m. m < n) ns

-- the numbers of the items that a row holds are below this one
abbrev pub ChildrenBelow : ℕ → Content → Type 0
ChildrenBelow n (alone l) = Unit {0}
ChildrenBelow n (with_items k ns) = AreBelow n ns

-- each row, of which the first has this number, holds items of rows before it
abbrev pub AreWhole : ℕ → List RowValue → Type 0
AreWhole n [] = Unit {0}
AreWhole n (r ∷ rs) = ChildrenBelow n r.content × AreWhole (suc n) rs

-- each row holds items of rows before it
abbrev pub IsWhole : List RowValue → Type 0
IsWhole rows = AreWhole 0 rows
