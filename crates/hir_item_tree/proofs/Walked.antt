-- From a number to its row and the items that it holds.
use Rattle.std.proofs.Common.{◌≡◌, ◌<◌, ℕ, zero, suc, ◌+◌, List, [], ◌∷◌, ◌++◌, length, map, get_or, Some, refl, sym, ap, ◌∙◌, subst, arith, append_assoc}
use Rattle.std.proofs.Common.{append-nil, length-append}
use Rattle.std.specs.List.{slice_get, All, AllByRecursion}
use Rattle.std.proofs.lemmas.Option.{slice_get_within, slice_get-get_or}
use Rattle.std.specs.Option.{IfSome}
use Rattle.std.proofs.lemmas.List.{length-map}
use Rattle.std.proofs.lemmas.List.Elements.{All-from_recursion, All-nil}
use Rattle.hir_item_tree.specs.Kinds.{item_head}
use Rattle.hir_item_tree.specs.KeptForest.{Head, KeptItem, holder, KeptForest, no_items, item, all_items}
use Rattle.hir_item_tree.specs.Rows.{Content, alone, with_items, RowValue, numbers_of, held_numbers, row_view, rows_view, items_at, item_of, items_behind}
use Rattle.hir_item_tree.specs.Rows.{forest_at, IsLaid}
use Rattle.hir_item_tree.specs.Numbers.{AreBelow, ChildrenBelow, AreWhole, IsWhole}
use Rattle.hir_item_tree.specs.Types.{ModItemId, Row}
use Rattle.hir_item_tree.proofs.Shown.{Shows, IsItem, Grown, Grown-laid, Shows-laid, items_behind-Grown, length-Grown}

-- those that are there stay in front
front : (done : List KeptItem) (rows : List RowValue) → (more : List KeptItem) × (items_behind done rows ≡ done ++ more)
front done [] = ([], sym (append-nil done))
front done (r ∷ rs) =
    let i = item_of done r.head r.content in
    let rest = front (done ++ i ∷ []) rs in
    (i ∷ rest.0, rest.1 ∙ append_assoc done (i ∷ []) rest.0)

slice_get_front : {X : Type 0} (xs ys : List X) (x : X) → slice_get (xs ++ x ∷ ys) (length xs) ≡ Some x
slice_get_front [] ys x = refl
slice_get_front (z ∷ xs) ys x = slice_get_front xs ys x

slice_get_same : {X : Type 0} (xs ys : List X) (n : ℕ) → n < length xs → slice_get (xs ++ ys) n ≡ slice_get xs n
slice_get_same [] ys n h = absurd (omega arith)
slice_get_same (x ∷ xs) ys zero h = refl
slice_get_same (x ∷ xs) ys (suc n) h = slice_get_same xs ys n (omega arith)

items_at_same : (xs ys : List KeptItem) (ns : List ℕ) → AreBelow (length xs) ns → items_at (xs ++ ys) ns ≡ items_at xs ns
items_at_same xs ys [] h = refl
items_at_same xs ys (n ∷ ns) h = rw (slice_get_same xs ys n h.0, items_at_same xs ys ns h.1) refl

item_of_same : (xs ys : List KeptItem) (h : Head) (c : Content) → ChildrenBelow (length xs) c → item_of (xs ++ ys) h c ≡ item_of xs h c
item_of_same xs ys h (alone l) b = refl
item_of_same xs ys h (with_items k ns) b = ap (holder h k) (items_at_same xs ys ns b)

-- a row stands for the item that has its number
row_shown : (done : List KeptItem) (rows : List RowValue) (i : ℕ) (r : RowValue) → AreWhole (length done) rows → slice_get rows i ≡ Some r
    → (slice_get (items_behind done rows) (length done + i) ≡ Some (item_of (items_behind done rows) r.head r.content)) × ChildrenBelow (length done + i)
    r.content
row_shown done [] i r w h = cc
row_shown done (q ∷ qs) zero r w h =
    let same : q ≡ r = cc in
    let here : length done + 0 ≡ length done = omega arith in
    let it = item_of done q.head q.content in
    let rest = front (done ++ it ∷ []) qs in
    let whole : items_behind done (q ∷ qs) ≡ done ++ (it ∷ rest.0) = rest.1 ∙ append_assoc done (it ∷ []) rest.0 in
    let shown : slice_get (items_behind done (q ∷ qs)) (length done) ≡ Some it = ap (λ xs. slice_get xs (length done)) whole ∙ slice_get_front done rest.0 it in
    let as_item : item_of (items_behind done (q ∷ qs)) q.head q.content ≡ it
    = ap (λ xs. item_of xs q.head q.content) whole ∙ item_of_same done (it ∷ rest.0) q.head q.content w.0 in
    subst (λ (x : RowValue). (slice_get (items_behind done (q ∷ qs)) (length done + 0) ≡ Some (item_of (items_behind done (q ∷ qs)) x.head x.content))
    × ChildrenBelow (length done + 0) x.content) same
    (subst (λ n. (slice_get (items_behind done (q ∷ qs)) n ≡ Some (item_of (items_behind done (q ∷ qs)) q.head q.content)) × ChildrenBelow n q.content)
    (sym here)
    (shown ∙ ap Some (sym as_item), w.0))
row_shown done (q ∷ qs) (suc i) r w h =
    let it = item_of done q.head q.content in
    let n : suc (length done) ≡ length (done ++ it ∷ []) = omega (arith, length-append done (it ∷ [])) in
    let next = row_shown (done ++ it ∷ []) qs i r (subst (λ m. AreWhole m qs) n w.1) h in
    let e : length (done ++ it ∷ []) + i ≡ length done + suc i = omega (arith, length-append done (it ∷ [])) in
    subst (λ m. (slice_get (items_behind done (q ∷ qs)) m ≡ Some (item_of (items_behind done (q ∷ qs)) r.head r.content)) × ChildrenBelow m r.content) e next

slice_get-map : {A B : Type 0} (f : A → B) (xs : List A) (i : ℕ) (x : A) → slice_get xs i ≡ Some x → slice_get (map f xs) i ≡ Some (f x)
slice_get-map f [] i x h = cc
slice_get-map f (y ∷ ys) zero x h = let e : y ≡ x = cc in ap (λ z. Some (f z)) e
slice_get-map f (y ∷ ys) (suc i) x h = slice_get-map f ys i x h

-- the row at an index stands for the item that has its number
pub row_at_shown : (rows : List Row) (n : ℕ) (r : Row) → IsWhole (rows_view rows) → n < length rows → r ≡ get_or rows n r
    → (slice_get (items_behind [] (rows_view rows)) n ≡ Some (item_of (items_behind [] (rows_view rows)) (row_view r).head (row_view r).content))
    × ChildrenBelow n (row_view r).content
row_at_shown rows n r w within is =
    let row : slice_get rows n ≡ Some r = slice_get-get_or rows n r within ∙ ap Some (sym is) in
    let found = row_shown [] (rows_view rows) n (row_view r) w (slice_get-map row_view rows n r row) in
    let e : 0 + n ≡ n = omega arith in
    subst (λ m. (slice_get (items_behind [] (rows_view rows)) m ≡ Some (item_of (items_behind [] (rows_view rows)) (row_view r).head (row_view r).content))
    × ChildrenBelow m (row_view r).content) e found

AreBelow-Shows : (items : List KeptItem) (ns : List ℕ) (f : KeptForest) → Shows items ns f → AreBelow (length items) ns
AreBelow-Shows items [] f h = tt
AreBelow-Shows items (n ∷ ns) no_items h = absurd h
AreBelow-Shows items (n ∷ ns) (item i f) h = (slice_get_within items n i h.0, AreBelow-Shows items ns f h.1)

ChildrenBelow-IsItem : (items : List KeptItem) (h : Head) (c : Content) (i : KeptItem) → IsItem items h c i → ChildrenBelow (length items) c
ChildrenBelow-IsItem items h (alone l) i e = tt
ChildrenBelow-IsItem items h (with_items k ns) i e = AreBelow-Shows items ns e.0 e.1

AreWhole-Grown : (done : List KeptItem) (rows : List RowValue) (all : List KeptItem) → Grown done rows all → AreWhole (length done) rows
AreWhole-Grown done [] all g = tt
AreWhole-Grown done (r ∷ rs) all g =
    let n : length (done ++ g.0 ∷ []) ≡ suc (length done) = omega (arith, length-append done (g.0 ∷ [])) in
    (ChildrenBelow-IsItem done r.head r.content g.0 g.1, subst (λ m. AreWhole m rs) n (AreWhole-Grown (done ++ g.0 ∷ []) rs all g.2))

-- rows that are laid out hold items of rows before them
pub IsWhole-laid : (rows : List RowValue) (ns : List ℕ) → IsLaid rows ns → IsWhole rows
IsWhole-laid rows ns h = AreWhole-Grown [] rows _ (Grown-laid rows ns h)

-- and the numbers of the forest are those of rows
pub AreBelow-laid : (rows : List RowValue) (ns : List ℕ) → IsLaid rows ns → AreBelow (length rows) ns
AreBelow-laid rows ns h =
    let g = Grown-laid rows ns h in
    subst (λ n. AreBelow n ns) (omega (arith, length-Grown [] rows _ g)) (AreBelow-Shows _ ns _ (Shows-laid rows ns h))

-- the items of rows that are laid out are those of their forest
pub items_behind-laid : (rows : List RowValue) (ns : List ℕ) → IsLaid rows ns → items_behind [] rows ≡ all_items (forest_at rows ns)
items_behind-laid rows ns h = items_behind-Grown [] rows (all_items (forest_at rows ns)) (Grown-laid rows ns h)

-- and there are as many
pub length-laid : (rows : List Row) (ns : List ℕ) (f : KeptForest) → IsLaid (rows_view rows) ns → forest_at (rows_view rows) ns ≡ f → length (all_items f)
    ≡ length rows
length-laid rows ns f h e =
    let same : length (all_items (forest_at (rows_view rows) ns)) ≡ length rows
    = omega (arith, length-Grown [] (rows_view rows) (all_items (forest_at (rows_view rows) ns)) (Grown-laid (rows_view rows) ns h), length-map rows row_view)
    in
    ap (λ g. length (all_items g)) (sym e) ∙ same

-- the numbers of the forest are those of rows
pub AreBelow-rows : (rows : List Row) (ns : List ℕ) → IsLaid (rows_view rows) ns → AreBelow (length rows) ns
AreBelow-rows rows ns h = subst (λ n. AreBelow n ns) (length-map rows row_view) (AreBelow-laid (rows_view rows) ns h)

item_head-item_of : (items : List KeptItem) (h : Head) (c : Content) → item_head (item_of items h c) ≡ h
item_head-item_of items h (alone l) = refl
item_head-item_of items h (with_items k ns) = refl

-- the item of a number, by its row
pub record IsRowOf (f : KeptForest) (n : ℕ) (h : Head) (c : Content) : Type 0 where
  pub found : slice_get (all_items f) n ≡ Some (item_of (all_items f) h c)

pub shown_in : (rows : List RowValue) (ns : List ℕ) (f : KeptForest) (n : ℕ) (h : Head) (c : Content) → IsLaid rows ns → forest_at rows ns ≡ f
    → slice_get (items_behind [] rows) n ≡ Some (item_of (items_behind [] rows) h c) → IsRowOf f n h c
shown_in rows ns f n h c laid e found =
    let same : items_behind [] rows ≡ all_items f = items_behind-laid rows ns laid ∙ ap all_items e in
    record { found = subst (λ items. slice_get items n ≡ Some (item_of items h c)) same found }

pub head_of_row : (f : KeptForest) (n : ℕ) (h : Head) (c : Content) (P : Head → Type 0) → IsRowOf f n h c → P h → IfSome (slice_get (all_items f) n)
    (λ i. P (item_head i))
head_of_row f n h c P is p = subst (λ o. IfSome o (λ i. P (item_head i))) (sym is.found) (subst P (sym (item_head-item_of (all_items f) h c)) p)

pub content_of_row : (f : KeptForest) (n : ℕ) (h : Head) (c : Content) → IsRowOf f n h c → IfSome (slice_get (all_items f) n)
    (λ i. item_of (all_items f) (item_head i) c ≡ i)
content_of_row f n h c is =
    subst (λ o. IfSome o (λ i. item_of (all_items f) (item_head i) c ≡ i)) (sym is.found)
    (ap (λ g. item_of (all_items f) g c) (item_head-item_of (all_items f) h c))

-- so is each item of the forest
below_by_recursion : (n : ℕ) (ids : List ModItemId) → AreBelow n (numbers_of ids) → AllByRecursion (λ (id : ModItemId). id.0 < n) ids
below_by_recursion n [] h = tt
below_by_recursion n (id ∷ ids) h = (h.0, below_by_recursion n ids h.1)

pub ids_below : (n : ℕ) (ids : List ModItemId) → AreBelow n (numbers_of ids) → All (λ (id : ModItemId). id.0 < n) ids
ids_below n ids h = All-from_recursion (λ (id : ModItemId). id.0 < n) ids (below_by_recursion n ids h)

-- and each item that a row holds
pub held_below : (n : ℕ) (c : Content) → ChildrenBelow n c → All (λ m. m < n) (held_numbers c)
held_below n (alone l) b = All-nil (λ m. m < n)
held_below n (with_items k ns) b = All-from_recursion (λ m. m < n) ns b
