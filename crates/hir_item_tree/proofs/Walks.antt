-- The walk over rows that are laid out.
use Rattle.std.proofs.Common.{◌≡◌, ℕ, zero, suc, ◌+◌, List, [], ◌∷◌, ◌++◌, length, Some, refl, sym, ap, ◌∙◌, subst, arith, append_assoc, append-nil}
use Rattle.std.proofs.Common.{length-append}
use Rattle.std.specs.List.{slice_get, range_with_len}
use Rattle.std.specs.List.Sorted.{IsPermutation}
use Rattle.std.proofs.lemmas.List.Sorted.{IsPermutation-refl, IsPermutation-append_left, IsPermutation-append_right, IsPermutation-to_front, IsPermutation-sym}
use Rattle.std.proofs.lemmas.List.Sorted.{IsPermutation-trans}
use Rattle.hir_item_tree.specs.KeptForest.{KeptItem, leaf, holder, KeptForest, no_items, item}
use Rattle.hir_item_tree.specs.Rows.{alone, with_items, held_numbers, RowValue, LaidAll, lay, lay_all, forest_at}
use Rattle.hir_item_tree.specs.Walks.{Meets, WalksAreDetermined, EachRowIsMetOnce}
use Rattle.hir_item_tree.specs.Walks.Meets.{ends, goes_on}

same_row : (rows : List RowValue) (n : ℕ) (r q : RowValue) → slice_get rows n ≡ Some r → slice_get rows n ≡ Some q → r ≡ q
same_row rows n r q e f = let s : Some r ≡ Some q = sym e ∙ f in cc

-- by recursion on the first walk: each number has one row
one_walk : (rows : List RowValue) {ns met others : List ℕ} → Meets rows ns met → Meets rows ns others → met ≡ others
one_walk rows ends ends = refl
one_walk rows (goes_on n r ns inside beside is into along) (goes_on m q ms within next at through past) =
    let same : r ≡ q = same_row rows n r q is at in
    let inner : inside ≡ within = one_walk rows (subst (λ (x : RowValue). Meets rows (held_numbers x.content) inside) same into) through in
    let outer : beside ≡ next = one_walk rows along past in
    rw (inner, outer) refl

pub determined : WalksAreDetermined
determined rows ns met others w v = one_walk rows w v

slice_get_more : {X : Type 0} (xs ys : List X) (i : ℕ) (x : X) → slice_get xs i ≡ Some x → slice_get (xs ++ ys) i ≡ Some x
slice_get_more [] ys i x h = cc
slice_get_more (y ∷ xs) ys zero x h = h
slice_get_more (y ∷ xs) ys (suc i) x h = slice_get_more xs ys i x h

slice_get_last : {X : Type 0} (xs : List X) (x : X) → slice_get (xs ++ x ∷ []) (length xs) ≡ Some x
slice_get_last [] x = refl
slice_get_last (y ∷ xs) x = slice_get_last xs x

-- more rows change no walk
Meets_more : (rows more : List RowValue) {ns met : List ℕ} → Meets rows ns met → Meets (rows ++ more) ns met
Meets_more rows more ends = ends
Meets_more rows more (goes_on n r ns inside beside is into along) =
    goes_on n r ns inside beside (slice_get_more rows more n r is) (Meets_more rows more into) (Meets_more rows more along)

-- one walk after another
Meets_append : (rows : List RowValue) {ns met ms others : List ℕ} → Meets rows ns met → Meets rows ms others → Meets rows (ns ++ ms) (met ++ others)
Meets_append rows ends w = w
Meets_append rows {ms = ms} {others = others} (goes_on n r ns inside beside is into along) w =
    subst (λ met. Meets rows (n ∷ (ns ++ ms)) (n ∷ met)) (sym (append_assoc inside beside others))
    (goes_on n r (ns ++ ms) inside (beside ++ others) is into (Meets_append rows along w))

range_append : (a n m : ℕ) → range_with_len a n ++ range_with_len (a + n) m ≡ range_with_len a (n + m)
range_append a zero m =
    let from : a + 0 ≡ a = omega arith in
    let many : m ≡ 0 + m = omega arith in
    ap (λ b. range_with_len b m) from ∙ ap (range_with_len a) many
range_append a (suc n) m =
    let from : a + suc n ≡ (a + 1) + n = omega arith in
    let many : suc (n + m) ≡ suc n + m = omega arith in
    ap (λ ns. a ∷ ns) (ap (λ b. range_with_len (a + 1) n ++ range_with_len b m) from ∙ range_append (a + 1) n m) ∙ ap (range_with_len a) many

-- rows that were laid for an item, behind others, are those that the walk from it meets
record Walked (rows : List RowValue) (number : ℕ) (laid : List RowValue) : Type 0 where
  more : List RowValue
  grown : laid ≡ rows ++ more
  met : List ℕ
  meets : Meets laid (number ∷ []) met
  each : IsPermutation met (range_with_len (length rows) (length more))

record WalkedAll (rows : List RowValue) (numbers : List ℕ) (laid : List RowValue) : Type 0 where
  more : List RowValue
  grown : laid ≡ rows ++ more
  met : List ℕ
  meets : Meets laid numbers met
  each : IsPermutation met (range_with_len (length rows) (length more))

mutual
  walked : (i : KeptItem) (rows : List RowValue) → Walked rows (lay i rows).number (lay i rows).rows
  walked (leaf h l) rows =
      let r : RowValue = record { head = h; content = alone l } in
      record {
        more = r ∷ [];
        grown = refl;
        met = length rows ∷ [];
        meets = goes_on (length rows) r [] [] [] (slice_get_last rows r) ends ends;
        each = IsPermutation-refl (length rows ∷ []);
      }
  walked (holder h k f) rows =
      let t = lay_all f rows in
      let w = walked_all f rows in
      let r : RowValue = record { head = h; content = with_items k t.numbers } in
      let n = length t.rows in
      let last : n ≡ length rows + length w.more = ap length w.grown ∙ length-append rows w.more in
      let whole : range_with_len (length rows) (length w.more) ++ n ∷ [] ≡ range_with_len (length rows) (length (w.more ++ r ∷ []))
      = ap (λ m. range_with_len (length rows) (length w.more) ++ m ∷ []) last
      ∙ (range_append (length rows) (length w.more) 1 ∙ ap (λ m. range_with_len (length rows) m) (sym (length-append w.more (r ∷ [])))) in
      let moved : IsPermutation (n ∷ w.met) (w.met ++ n ∷ []) = IsPermutation-sym (w.met ++ n ∷ []) (n ∷ w.met) (IsPermutation-to_front w.met n) in
      let ranged : IsPermutation (w.met ++ n ∷ []) (range_with_len (length rows) (length w.more) ++ n ∷ [])
      = IsPermutation-append_left (n ∷ []) w.met (range_with_len (length rows) (length w.more)) w.each in
      let all : IsPermutation (n ∷ w.met) (range_with_len (length rows) (length (w.more ++ r ∷ [])))
      = subst (IsPermutation (n ∷ w.met)) whole (IsPermutation-trans (n ∷ w.met) (w.met ++ n ∷ []) _ moved ranged) in
      record {
        more = w.more ++ r ∷ [];
        grown = ap (λ rs. rs ++ r ∷ []) w.grown ∙ append_assoc rows w.more (r ∷ []);
        met = n ∷ (w.met ++ []);
        meets = goes_on n r [] w.met [] (slice_get_last t.rows r) (Meets_more t.rows (r ∷ []) w.meets) ends;
        each = subst (λ met. IsPermutation (n ∷ met) (range_with_len (length rows) (length (w.more ++ r ∷ [])))) (sym (append-nil w.met)) all;
      }

  walked_all : (f : KeptForest) (rows : List RowValue) → WalkedAll rows (lay_all f rows).numbers (lay_all f rows).rows
  walked_all no_items rows = record { more = []; grown = sym (append-nil rows); met = []; meets = ends; each = IsPermutation-refl [] }
  walked_all (item i f) rows =
      let one = walked i rows in
      let first = lay i rows in
      let rest = walked_all f first.rows in
      let all = lay_all f first.rows in
      let from : length first.rows ≡ length rows + length one.more = ap length one.grown ∙ length-append rows one.more in
      let begins : Meets all.rows (first.number ∷ []) one.met = subst (λ rs. Meets rs (first.number ∷ []) one.met) (sym rest.grown)
      (Meets_more first.rows rest.more one.meets) in
      let whole : range_with_len (length rows) (length one.more) ++ range_with_len (length first.rows) (length rest.more)
      ≡ range_with_len (length rows) (length (one.more ++ rest.more))
      = ap (λ a. range_with_len (length rows) (length one.more) ++ range_with_len a (length rest.more)) from
      ∙ (range_append (length rows) (length one.more) (length rest.more) ∙ ap (λ m. range_with_len (length rows) m) (sym (length-append one.more rest.more))) in
      record {
        more = one.more ++ rest.more;
        grown = rest.grown ∙ (ap (λ rs. rs ++ rest.more) one.grown ∙ append_assoc rows one.more rest.more);
        met = one.met ++ rest.met;
        meets = Meets_append all.rows begins rest.meets;
        each = subst (IsPermutation (one.met ++ rest.met)) whole
            (IsPermutation-trans (one.met ++ rest.met) (range_with_len (length rows) (length one.more) ++ rest.met) _
            (IsPermutation-append_left rest.met one.met (range_with_len (length rows) (length one.more)) one.each)
            (IsPermutation-append_right (range_with_len (length rows) (length one.more)) rest.met (range_with_len (length first.rows) (length rest.more))
            rest.each));
      }

-- the numbers of laid rows, from none on
met_once : (f : KeptForest) (laid : LaidAll) → lay_all f [] ≡ laid → (met : List ℕ) × Meets laid.rows laid.numbers met
    × IsPermutation met (range_with_len 0 (length laid.rows))
met_once f laid e =
    let w = walked_all f [] in
    subst (λ (l : LaidAll). (met : List ℕ) × Meets l.rows l.numbers met × IsPermutation met (range_with_len 0 (length l.rows))) e
    (w.met, w.meets, subst (λ rs. IsPermutation w.met (range_with_len 0 (length rs))) (sym w.grown) w.each)

pub each_row_met_once : EachRowIsMetOnce
each_row_met_once rows top laid = met_once (forest_at rows top) (record { rows = rows; numbers = top }) laid
