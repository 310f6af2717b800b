-- The rows of a forest stand for that forest.
use Rattle.std.proofs.Common.{◌≡◌, ℕ, zero, suc, ◌+◌, List, [], ◌∷◌, ◌++◌, length, Some, refl, sym, ap, ◌∙◌, subst, arith, append_assoc, append-nil}
use Rattle.std.proofs.Common.{length-append}
use Rattle.std.specs.List.{slice_get}
use Rattle.hir_item_tree.specs.KeptForest.{Head, KeptItem, leaf, holder, KeptForest, no_items, item, item_and_inside, all_items}
use Rattle.hir_item_tree.specs.Rows.{Content, alone, with_items, RowValue, Laid, LaidAll, lay, lay_all, items_at, item_of, items_behind, forest_at, IsLaid}

slice_get_more : {X : Type 0} (xs ys : List X) (i : ℕ) (x : X) → slice_get xs i ≡ Some x → slice_get (xs ++ ys) i ≡ Some x
slice_get_more [] ys i x h = cc
slice_get_more (y ∷ xs) ys zero x h = h
slice_get_more (y ∷ xs) ys (suc i) x h = slice_get_more xs ys i x h

slice_get_last : {X : Type 0} (xs : List X) (x : X) → slice_get (xs ++ x ∷ []) (length xs) ≡ Some x
slice_get_last [] x = refl
slice_get_last (y ∷ xs) x = slice_get_last xs x

slice_get_front : {X : Type 0} (xs ys : List X) (x : X) → slice_get (xs ++ x ∷ ys) (length xs) ≡ Some x
slice_get_front [] ys x = refl
slice_get_front (z ∷ xs) ys x = slice_get_front xs ys x

-- the items with these numbers are those of the forest
abbrev pub Shows : List KeptItem → List ℕ → KeptForest → Type 0
Shows items [] no_items = Unit {0}
Shows items [] (item i f) = ⊥
Shows items (n ∷ ns) no_items = ⊥
Shows items (n ∷ ns) (item i f) = (slice_get items n ≡ Some i) × Shows items ns f

-- a row stands for the item
abbrev pub IsItem : List KeptItem → Head → Content → KeptItem → Type 0
IsItem items h (alone l) i = i ≡ leaf h l
IsItem items h (with_items k ns) i = (f : KeptForest) × Shows items ns f × (i ≡ holder h k f)

-- rows stand for the items behind those that are there, each for one that holds items before it
abbrev pub Grown : List KeptItem → List RowValue → List KeptItem → Type 0
Grown done [] all = all ≡ done
Grown done (r ∷ rs) all = (i : KeptItem) × IsItem done r.head r.content i × Grown (done ++ i ∷ []) rs all

pub items_at-Shows : (items : List KeptItem) (ns : List ℕ) (f : KeptForest) → Shows items ns f → items_at items ns ≡ f
items_at-Shows items [] no_items h = refl
items_at-Shows items [] (item i f) h = absurd h
items_at-Shows items (n ∷ ns) no_items h = absurd h
items_at-Shows items (n ∷ ns) (item i f) h = rw (h.0, items_at-Shows items ns f h.1) refl

item_of-IsItem : (items : List KeptItem) (h : Head) (c : Content) (i : KeptItem) → IsItem items h c i → item_of items h c ≡ i
item_of-IsItem items h (alone l) i e = sym e
item_of-IsItem items h (with_items k ns) i e = ap (holder h k) (items_at-Shows items ns e.0 e.1) ∙ sym e.2

pub items_behind-Grown : (done : List KeptItem) (rows : List RowValue) (all : List KeptItem) → Grown done rows all → items_behind done rows ≡ all
items_behind-Grown done [] all h = sym h
items_behind-Grown done (r ∷ rs) all h =
    ap (λ i. items_behind (done ++ i ∷ []) rs) (item_of-IsItem done r.head r.content h.0 h.1) ∙ items_behind-Grown (done ++ h.0 ∷ []) rs all h.2

Shows_more : (items more : List KeptItem) (ns : List ℕ) (f : KeptForest) → Shows items ns f → Shows (items ++ more) ns f
Shows_more items more [] no_items h = tt
Shows_more items more [] (item i f) h = absurd h
Shows_more items more (n ∷ ns) no_items h = absurd h
Shows_more items more (n ∷ ns) (item i f) h = (slice_get_more items more n i h.0, Shows_more items more ns f h.1)

IsItem_more : (items more : List KeptItem) (h : Head) (c : Content) (i : KeptItem) → IsItem items h c i → IsItem (items ++ more) h c i
IsItem_more items more h (alone l) i e = e
IsItem_more items more h (with_items k ns) i e = (e.0, Shows_more items more ns e.0 e.1, e.2)

Grown_push : (done : List KeptItem) (rows : List RowValue) (all : List KeptItem) (r : RowValue) (i : KeptItem) → Grown done rows all
    → IsItem all r.head r.content i → Grown done (rows ++ r ∷ []) (all ++ i ∷ [])
Grown_push done [] all r i h m = (i, subst (λ items. IsItem items r.head r.content i) h m, ap (λ items. items ++ i ∷ []) h)
Grown_push done (q ∷ qs) all r i h m = (h.0, h.1, Grown_push (done ++ h.0 ∷ []) qs all r i h.2 m)

pub length-Grown : (done : List KeptItem) (rows : List RowValue) (all : List KeptItem) → Grown done rows all → length all ≡ length done + length rows
length-Grown done [] all h = omega (arith, ap length h)
length-Grown done (r ∷ rs) all h = omega (arith, length-Grown (done ++ h.0 ∷ []) rs all h.2, length-append done (h.0 ∷ []))

-- rows that were laid for an item stand for it and those inside
record Lays (all : List KeptItem) (i : KeptItem) (r : Laid) : Type 0 where
  grown : Grown [] r.rows (all ++ item_and_inside i)
  shown : slice_get (all ++ item_and_inside i) r.number ≡ Some i

record LaysAll (all : List KeptItem) (f : KeptForest) (r : LaidAll) : Type 0 where
  grown : Grown [] r.rows (all ++ all_items f)
  shown : Shows (all ++ all_items f) r.numbers f

lays_row : (rows : List RowValue) (all : List KeptItem) (h : Head) (c : Content) (i : KeptItem) → Grown [] rows all → IsItem all h c i
    → Grown [] (rows ++ record { head = h; content = c } ∷ []) (all ++ i ∷ []) × (slice_get (all ++ i ∷ []) (length rows) ≡ Some i)
lays_row rows all h c i g m =
    let r : RowValue = record { head = h; content = c } in
    let e : length all ≡ length rows = omega (arith, length-Grown [] rows all g) in
    (Grown_push [] rows all r i g m, subst (λ n. slice_get (all ++ i ∷ []) n ≡ Some i) e (slice_get_last all i))

mutual
  lays : (i : KeptItem) (rows : List RowValue) (all : List KeptItem) → Grown [] rows all → Lays all i (lay i rows)
  lays (leaf h l) rows all g =
      let r = lays_row rows all h (alone l) (leaf h l) g refl in
      record { grown = r.0; shown = r.1 }
  lays (holder h k f) rows all g =
      let inside = lays_all f rows all g in
      let t = lay_all f rows in
      let i = holder h k f in
      let r = lays_row t.rows (all ++ all_items f) h (with_items k t.numbers) i inside.grown (f, inside.shown, refl) in
      let e : (all ++ all_items f) ++ i ∷ [] ≡ all ++ (all_items f ++ i ∷ []) = append_assoc all (all_items f) (i ∷ []) in
      record {
        grown = subst (Grown [] (t.rows ++ record { head = h; content = with_items k t.numbers } ∷ [])) e r.0;
        shown = subst (λ items. slice_get items (length t.rows) ≡ Some i) e r.1;
      }

  lays_all : (f : KeptForest) (rows : List RowValue) (all : List KeptItem) → Grown [] rows all → LaysAll all f (lay_all f rows)
  lays_all no_items rows all g = record { grown = subst (Grown [] rows) (sym (append-nil all)) g; shown = tt }
  lays_all (item i f) rows all g =
      let one = lays i rows all g in
      let r = lay i rows in
      let rest = lays_all f r.rows (all ++ item_and_inside i) one.grown in
      let s = lay_all f r.rows in
      let e : (all ++ item_and_inside i) ++ all_items f ≡ all ++ (item_and_inside i ++ all_items f) = append_assoc all (item_and_inside i) (all_items f) in
      record {
        grown = subst (Grown [] s.rows) e rest.grown;
        shown =
            subst (λ items. Shows items (r.number ∷ s.numbers) (item i f)) e (
              slice_get_more (all ++ item_and_inside i) (all_items f) r.number i one.shown,
              rest.shown,
            );
      }

-- the rows of a forest stand for its items
pub Grown-lay_all : (f : KeptForest) → Grown [] (lay_all f []).rows (all_items f)
Grown-lay_all f = (lays_all f [] [] refl).grown

-- and the numbers for the forest
pub Shows-lay_all : (f : KeptForest) → Shows (all_items f) (lay_all f []).numbers f
Shows-lay_all f = (lays_all f [] [] refl).shown

pub forest_at-lay_all : (f : KeptForest) → forest_at (lay_all f []).rows (lay_all f []).numbers ≡ f
forest_at-lay_all f =
    let r = lay_all f [] in
    ap (λ items. items_at items r.numbers) (items_behind-Grown [] r.rows (all_items f) (Grown-lay_all f)) ∙ items_at-Shows (all_items f) r.numbers f
    (Shows-lay_all f)

-- what is laid out stands for the forest, and is its layout
pub forest_at-laid : (f : KeptForest) (r : LaidAll) → r ≡ lay_all f [] → forest_at r.rows r.numbers ≡ f
forest_at-laid f r e = ap (λ (l : LaidAll). forest_at l.rows l.numbers) e ∙ forest_at-lay_all f

pub IsLaid-laid : (f : KeptForest) (r : LaidAll) → r ≡ lay_all f [] → IsLaid r.rows r.numbers
IsLaid-laid f r e = ap (λ g. lay_all g []) (forest_at-laid f r e) ∙ sym e

-- rows that are laid out stand for the items of their forest
pub Grown-laid : (rows : List RowValue) (ns : List ℕ) → IsLaid rows ns → Grown [] rows (all_items (forest_at rows ns))
Grown-laid rows ns h =
    let f = forest_at rows ns in
    subst (λ (r : LaidAll). Grown [] r.rows (all_items f)) h (Grown-lay_all f)

pub Shows-laid : (rows : List RowValue) (ns : List ℕ) → IsLaid rows ns → Shows (all_items (forest_at rows ns)) ns (forest_at rows ns)
Shows-laid rows ns h =
    let f = forest_at rows ns in
    subst (λ (r : LaidAll). Shows (all_items f) r.numbers f) h (Shows-lay_all f)
