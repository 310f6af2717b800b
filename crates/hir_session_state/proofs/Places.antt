-- Places of blocks: their numbers, and their order.
use Rattle.std.proofs.Common.{◌≡◌, ◌≢◌, ◌∙◌, ap, ap₂, sym, subst, refl, ℕ, zero, suc, ◌+◌, ◌<◌, ◌≤◌, Bool, true, false, IsTrue, cond, Some, List, [], ◌∷◌, ◌++◌}
use Rattle.std.proofs.Common.{◌||◌, nat_eq, zero-add, arith}
use Rattle.std.specs.List.{list_any}
use Rattle.std.specs.Prelude.{nat_lt, slice_get}
use Rattle.std.specs.Cmp.{IsTotalOrder, first_so, second_so, nat_cmp_total, on_total, then_total, unsigned_Decides}
use Rattle.std.specs.Cmp.Lexicographic.{pointwise, bytes_decides}
use Rattle.std.specs.Ordering.{is_le, nat_cmp, ordering_then}
use Rattle.std.specs.declared.cmp.Ordering.{Ordering}
use Rattle.std.specs.declared.cmp.Ordering.TheVariants.{Equal, Greater, Less}
use Rattle.std.proofs.lemmas.Bool.{lt-ltb, ltb-true}
use mathlib.Core.Bool.{true≢false}
use Rattle.hir_collector_rules.specs.HirBase.Locations.{KeepsNumbers}
use Rattle.hir_collector_rules.specs.HirBase.Place.{PlaceValue}
use Rattle.hir_collector_rules.specs.HirIds.contracts.ast_id.SyntaxIdPartialEq.TheImpl as syntax_eq
use Rattle.hir_collector_rules.specs.HirBase.contracts.place.BlockPlaceEq.TheImpl.Laws.{laws-law as block_laws}
use Rattle.hir_collector_rules.specs.HirBase.contracts.place.BlockPlacePartialEq.TheImpl as block_eq
use Rattle.hir_collector_rules.specs.HirBase.contracts.place.PlaceElementPartialEq.TheImpl as element_eq
use Rattle.hir_collector_rules.specs.HirBase.contracts.place.PlaceOrd.TheImpl.Laws.{total-law as place_total}
use Rattle.hir_collector_rules.specs.HirBase.contracts.place.PlacePartialEq.TheImpl as place_eq
use Rattle.hir_collector_rules.specs.HirIds.declared.ast_id.BlockId.{BlockId}
use Rattle.hir_collector_rules.specs.HirBase.declared.place.BlockPlace.{BlockPlace}
use Rattle.hir_collector_rules.specs.HirBase.declared.place.PlaceElement.{PlaceElement}
use Rattle.hir_collector_rules.specs.HirIds.declared.ast_id.SyntaxId.{SyntaxId}
use Rattle.hir_collector_rules.specs.HirBase.declared.place.PlaceElement.TheVariants as element
use Rattle.hir_collector_rules.specs.HirTables.Tables.{TablesValue, HasEachOnce, KeepsTables, block_at}
use Rattle.hir_session_state.specs.Blocks.{block_cmp, nesting_of, place_of_block}
use Rattle.hir_session_state.specs.Standing.{block_number, number_from}
use Rattle.hir_session_state.proofs.Truth.{no_value, one_value}

-- ---- equal by the test

same_nat : (m n : ℕ) → nat_eq m n ≡ true → m ≡ n
same_nat m n e = (unsigned_Decides m n).0 e

exact_syntax : (a b : SyntaxId) → syntax_eq.ghosts.eq a b ≡ true → a ≡ b
exact_syntax a b e = λ i. record {
  hash = same_nat a.hash b.hash (first_so _ _ e) i;
  index = same_nat a.index b.index (second_so (nat_eq a.hash b.hash) (nat_eq a.index b.index) e) i;
}

exact_element : (a b : PlaceElement) → element_eq.ghosts.eq a b ≡ true → a ≡ b
exact_element (element.Module m) (element.Module n) e = ap element.Module ((bytes_decides m n).0 e)
exact_element (element.Module m) (element.Block n) e = absurd (true≢false (sym e))
exact_element (element.Block m) (element.Module n) e = absurd (true≢false (sym e))
exact_element (element.Block m) (element.Block n) e = ap element.Block (exact_syntax m n e)

exact_steps : (xs ys : List PlaceElement) → pointwise element_eq.ghosts.eq xs ys ≡ true → xs ≡ ys
exact_steps [] [] e = refl
exact_steps [] (y ∷ ys) e = absurd (true≢false (sym e))
exact_steps (x ∷ xs) [] e = absurd (true≢false (sym e))
exact_steps (x ∷ xs) (y ∷ ys) e =
    ap₂ ◌∷◌ (exact_element x y (first_so (element_eq.ghosts.eq x y) (pointwise element_eq.ghosts.eq xs ys) e))
    (exact_steps xs ys (second_so (element_eq.ghosts.eq x y) (pointwise element_eq.ghosts.eq xs ys) e))

exact_place : (a b : PlaceValue) → place_eq.ghosts.eq a b ≡ true → a ≡ b
exact_place a b e = λ i. record {
  krate = record { 0 = same_nat a.krate.0 b.krate.0 (first_so _ _ e) i };
  elements = exact_steps a.elements b.elements (second_so _ _ e) i;
}

pub exact_block : (a b : BlockPlace) → block_eq.ghosts.eq a b ≡ true → a ≡ b
exact_block a b e = λ i. record {
  holder = exact_place a.holder b.holder (first_so _ _ e) i;
  id = exact_syntax a.id b.id (second_so _ _ e) i;
}

own_block : (a : BlockPlace) → block_eq.ghosts.eq a a ≡ true
own_block a = block_laws.refl a

-- ---- numbers of blocks

abbrev block_id : ℕ → BlockId
block_id n = record { 0 = n }

-- the number of a block means it
record IsNumbered (n : ℕ) (bs : List BlockPlace) (place : BlockPlace) (id : BlockId) : Type 0 where
  pub at : ℕ
  pub is : id.0 ≡ n + at
  pub means : slice_get bs at ≡ Some place

numbered_from : (n : ℕ) (bs : List BlockPlace) (place : BlockPlace) (id : BlockId) → number_from n bs place ≡ Some id → IsNumbered n bs place id
numbered_from n [] place id e = no_value e
numbered_from n (b ∷ bs) place id e = go (λ f. numbered_from (n + 1) bs place id f) (block_eq.ghosts.eq b place) refl e
  where
    later : IsNumbered (n + 1) bs place id → IsNumbered n (b ∷ bs) place id
    later p = let is : id.0 ≡ n + 1 + p.at = p.is in record { at = suc p.at; is = omega arith; means = p.means }

    go : (number_from (n + 1) bs place ≡ Some id → IsNumbered (n + 1) bs place id) → (t : Bool) → block_eq.ghosts.eq b place ≡ t
        → cond t (Some (block_id n)) (number_from (n + 1) bs place) ≡ Some id → IsNumbered n (b ∷ bs) place id
    go behind true same f =
        let number : n ≡ id.0 = ap (λ (x : BlockId). x.0) (one_value f) in
        record { at = zero; is = omega arith; means = ap (λ (x : BlockPlace). Some x) (exact_block b place same) }
    go behind false other f = later (behind f)

-- and a block with a number has one
has_number : (n : ℕ) (bs : List BlockPlace) (place : BlockPlace) (at : ℕ) → slice_get bs at ≡ Some place → (id : BlockId) × (number_from n bs place ≡ Some id)
has_number n [] place at e = no_value e
has_number n (b ∷ bs) place zero e = (
  block_id n,
  ap (λ (t : Bool). cond t (Some (block_id n)) (number_from (n + 1) bs place))
      (subst (λ (x : BlockPlace). block_eq.ghosts.eq b x ≡ true) (one_value e) (own_block b)),
)
has_number n (b ∷ bs) place (suc at) e = go (block_eq.ghosts.eq b place) (has_number (n + 1) bs place at e)
  where
    go : (t : Bool) → (id : BlockId) × (number_from (n + 1) bs place ≡ Some id) → (id : BlockId) × (cond t (Some (block_id n)) (number_from (n + 1) bs place)
        ≡ Some id)
    go true later = (block_id n, refl)
    go false later = later

-- more numbers change none
number_stays : (n : ℕ) (old new : List BlockPlace) (place : BlockPlace) (id : BlockId) → KeepsNumbers old new → number_from n old place ≡ Some id
    → number_from n new place ≡ Some id
number_stays n [] new place id keeps e = no_value e
number_stays n (b ∷ bs) [] place id keeps e = no_value (keeps zero b refl)
number_stays n (b ∷ bs) (c ∷ cs) place id keeps e =
    subst (λ (x : BlockPlace). cond (block_eq.ghosts.eq x place) (Some (block_id n)) (number_from (n + 1) cs place) ≡ Some id)
    (sym (one_value (keeps zero b refl)))
    (go (λ f. number_stays (n + 1) bs cs place id (λ k x h. keeps (suc k) x h) f) (block_eq.ghosts.eq b place) e)
  where
    go : (number_from (n + 1) bs place ≡ Some id → number_from (n + 1) cs place ≡ Some id) → (t : Bool)
        → cond t (Some (block_id n)) (number_from (n + 1) bs place) ≡ Some id
        → cond t (Some (block_id n)) (number_from (n + 1) cs place) ≡ Some id
    go behind true f = f
    go behind false f = behind f

-- the number that a block has means it
pub number_means : (t : TablesValue) (place : BlockPlace) (id : BlockId) → block_number t place ≡ Some id → block_at t id ≡ Some place
number_means t place id e =
    let p = numbered_from 0 t.blocks place id e in
    let is : p.at ≡ id.0 = omega (arith, p.is) in
    subst (λ (k : ℕ). slice_get t.blocks k ≡ Some place) is p.means

-- where a number means a block, that has a number
pub has_block_number : (t : TablesValue) (place : BlockPlace) (id : BlockId) → block_at t id ≡ Some place → (n : BlockId) × (block_number t place ≡ Some n)
has_block_number t place id e = has_number 0 t.blocks place id.0 e

-- and that one, where no two numbers mean the same
pub number_is : (t : TablesValue) → HasEachOnce t → (place : BlockPlace) (id : BlockId) → block_at t id ≡ Some place → block_number t place ≡ Some id
number_is t once place id e =
    let n = has_block_number t place id e in
    let same : n.0.0 ≡ id.0 = once.blocks n.0.0 id.0 place (number_means t place n.0 n.1) e in
    let is : n.0 ≡ id = λ i. block_id (same i) in
    n.1 ∙ ap (λ (x : BlockId). Some x) is

-- as tables grow
pub number_kept : (t T : TablesValue) → KeepsTables t T → (place : BlockPlace) (id : BlockId) → block_number t place ≡ Some id → block_number T place ≡ Some id
number_kept t T keeps place id e = number_stays 0 t.blocks T.blocks place id keeps.blocks e

-- ---- their order

pub block_total : IsTotalOrder block_cmp
block_total = then_total (on_total (λ (b : BlockPlace). nesting_of (place_of_block b).elements) nat_cmp_total) (on_total place_of_block place_total)

-- steps and a block behind them
pub nesting_below : (steps : List PlaceElement) (id : SyntaxId) → nesting_of (steps ++ element.Block id ∷ []) ≡ suc (nesting_of steps)
nesting_below [] id = refl
nesting_below (element.Module name ∷ more) id = nesting_below more id
nesting_below (element.Block b ∷ more) id = ap suc (nesting_below more id)

-- how many blocks the first of some steps adds
pub nesting_first : (e : PlaceElement) (more : List PlaceElement) → nesting_of (e ∷ more) ≡ nesting_of (e ∷ []) + nesting_of more
nesting_first (element.Module name) more = sym (zero-add (nesting_of more))
nesting_first (element.Block id) more = omega arith

-- a test of elements and of one behind them
pub any_behind : (test : PlaceElement → Bool) (steps : List PlaceElement) (e : PlaceElement) → list_any test (steps ++ e ∷ []) ≡ (list_any test steps || test e)
any_behind test [] e = go (test e)
  where
    go : (b : Bool) → (b || false) ≡ b
    go true = refl
    go false = refl
any_behind test (x ∷ steps) e = go (test x) (any_behind test steps e)
  where
    go : (b : Bool) → list_any test (steps ++ e ∷ []) ≡ (list_any test steps || test e) → (b || list_any test (steps ++ e ∷ []))
        ≡ ((b || list_any test steps) || test e)
    go true rest = refl
    go false rest = rest

-- what comes first by a number has none above the other's
first_le : (m n : ℕ) (x : Ordering) → IsTrue (is_le (ordering_then (nat_cmp m n) x)) → m ≤ n
first_le m n x h = go (nat_lt m n) (nat_eq m n) refl refl h
  where
    go : (b c : Bool) → nat_lt m n ≡ b → nat_eq m n ≡ c → IsTrue (is_le (ordering_then (cond b Less (cond c Equal Greater)) x)) → m ≤ n
    go true c lt e f = omega (arith, ltb-true m n lt)
    go false true lt e f = let same : m ≡ n = same_nat m n e in omega arith
    go false false lt e f = absurd (true≢false (sym f))

less_first : (m n : ℕ) (x : Ordering) → m < n → IsTrue (is_le (ordering_then (nat_cmp m n) x))
less_first m n x less = ap (λ (b : Bool). is_le (ordering_then (cond b Less (cond (nat_eq m n) Equal Greater)) x)) (lt-ltb m n less)

-- a block with fewer blocks around it comes first
pub shallower_first : (a b : BlockPlace) → nesting_of (place_of_block a).elements < nesting_of (place_of_block b).elements → IsTrue (is_le (block_cmp a b))
shallower_first a b less = less_first (nesting_of (place_of_block a).elements) (nesting_of (place_of_block b).elements) _ less

-- so one that comes first has no more around it
pub no_deeper : (a b : BlockPlace) → IsTrue (is_le (block_cmp a b)) → nesting_of (place_of_block a).elements ≤ nesting_of (place_of_block b).elements
no_deeper a b first = first_le (nesting_of (place_of_block a).elements) (nesting_of (place_of_block b).elements) _ first
