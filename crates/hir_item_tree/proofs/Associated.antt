-- The row of an associated item.
use Rattle.std.proofs.Common.{◌≡◌, Bool, true, List, [], ◌∷◌, ◌++◌, map, refl, sym, ap, ◌∙◌}
use Rattle.std.proofs.lemmas.List.{map-append}
use Rattle.hir_base.specs.declared.cfg.CfgAtom.{CfgAtom}
use Rattle.hir_item_tree.specs.Source.{Item, plain, holder}
use Rattle.hir_item_tree.specs.KeptForest.{KeptItem, kept_item}
use Rattle.hir_item_tree.specs.Rows.{RowValue, rows_view, item_of, Laid, lay}
use Rattle.hir_item_tree.specs.Types.{Row}
use Rattle.hir_item_tree.specs.SideLists.{is_associated, row_item}

-- the item of a row that holds no others
abbrev pub item_alone : RowValue → KeptItem
item_alone r = item_of [] r.head r.content

-- an associated item adds one row, which is the item's
pub lay_associated : (set : CfgAtom → Bool) (i : Item) (rows : List RowValue) → is_associated i ≡ true
    → map item_alone (lay (kept_item set i) rows).rows ≡ map item_alone rows ++ kept_item set i ∷ []
lay_associated set (plain h p) rows e = map-append item_alone rows _
lay_associated set (holder h k is) rows e = cc

row_items : (rs : List Row) → map row_item rs ≡ map item_alone (rows_view rs)
row_items [] = refl
row_items (r ∷ rs) = ap (λ is. row_item r ∷ is) (row_items rs)

-- so do the rows of a table
pub added : (set : CfgAtom → Bool) (i : Item) (old new : List Row) (laid : Laid) → laid ≡ lay (kept_item set i) (rows_view old) → laid.rows ≡ rows_view new
    → is_associated i ≡ true → map row_item new ≡ map row_item old ++ kept_item set i ∷ []
added set i old new laid e is h =
    row_items new ∙ (ap (λ rs. map item_alone rs) (sym is) ∙ (ap (λ (l : Laid). map item_alone l.rows) e
    ∙ (lay_associated set i (rows_view old) h ∙ ap (λ is. is ++ kept_item set i ∷ []) (sym (row_items old)))))
