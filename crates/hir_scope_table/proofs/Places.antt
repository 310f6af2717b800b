-- What is known of the place where a key belongs among entries in order.
use Rattle.std.proofs.Common.{◌≡◌, ◌∙◌, ap, sym, subst, refl, ℕ, zero, suc, ◌*◌, ◌-◌, ◌/◌, ◌^◌, ◌<◌, ◌≤◌, true, false, Bool, List, [], ◌∷◌, Option, None}
use Rattle.std.proofs.Common.{Some, cond, length, get_or, arith, option_map, pow-suc, mul_assoc}
use mathlib.Core.Bool.{true≢false}
use Rattle.std.specs.Option.{is_some}
use Rattle.std.specs.declared.cmp.Ordering.{Ordering}
use Rattle.std.specs.declared.cmp.Ordering.TheVariants.{Less, Equal, Greater}
use Rattle.std.specs.Cmp.{IsTotalOrder}
use Rattle.std.specs.Ordering.{is_eq, is_lt, match_ordering}
use Rattle.std.specs.BTreeMap.{is_at, insert_entry}
use Rattle.std.specs.List.{AllByRecursion, insert, remove, slice_get, slice_set}
use Rattle.std.specs.List.Sorted.{IsStrictlySortedBy}
use Rattle.std.specs.Map.{keys_of, lookup, remove_entry}
use Rattle.std.proofs.lemmas.Map.Keys.{sorted_head, sorted_tail}
use Rattle.std.proofs.lemmas.Nat.{le-div, mul-le}
use Rattle.hir_scope_table.specs.Probe.{binary_digits, digits_upto, position_of}
use Rattle.hir_scope_table.specs.Inner.Place.{IsAboveFirst, ComparesAt, BelongsAt, HasHalved}
use Rattle.hir_scope_table.proofs.Slots.{lookup-below}

-- ---- halving

module _ {K E : Type 0} (compare : K → Ordering) where
  -- how the query compares with a key that was read
  pub compares_at : (es : List (K × E)) (i : ℕ) (e : K × E) (r : Ordering) → e ≡ get_or es i e → compare e.0 ≡ r → ComparesAt compare es i r
  compares_at [] i e r is q = tt
  compares_at (x ∷ xs) zero e r is q = ap (λ (y : K × E). compare y.0) (sym is) ∙ q
  compares_at (x ∷ xs) (suc i) e r is q = compares_at xs i e r is q

  pub above_none : (es : List (K × E)) → ComparesAt compare es (length es) Less
  above_none [] = tt
  above_none (e ∷ es) = above_none es

module _ {K : Type 0} (cmp : K → K → Ordering) (total : IsTotalOrder cmp) (k : K) where
  over : (x y : K) → cmp x y ≡ Less → (cmp k y ≡ Less → ⊥) → cmp k x ≡ Greater
  over x y l apart = go (cmp k x) refl
    where
      go : (r : Ordering) → cmp k x ≡ r → r ≡ Greater
      go Less q = absurd (apart (total.trans k x y q l))
      go Equal q = absurd (apart (total.congr k x y q ∙ l))
      go Greater q = refl

module _ {K E : Type 0} (cmp : K → K → Ordering) (total : IsTotalOrder cmp) (k : K) where
  -- a query that isn't below a key of entries in order is above all keys before that one
  pub above_earlier : (es : List (K × E)) (i : ℕ) → i < length es → IsStrictlySortedBy cmp (keys_of es)
      → (d : K × E) → (cmp k (get_or es i d).0 ≡ Less → ⊥) → IsAboveFirst (cmp k) es i
  above_earlier [] i l s d apart = absurd (omega arith)
  above_earlier (e ∷ es) zero l s d apart = tt
  above_earlier (e ∷ es) (suc i) l s d apart = (
    over cmp total k e.0 (get_or es i d).0 (first es i (omega arith) (sorted_head cmp e.0 (keys_of es) s)) apart,
    above_earlier es i (omega arith)
        (sorted_tail cmp e.0 (keys_of es) s) d apart,
  )
    where
      first : (xs : List (K × E)) (j : ℕ) → j < length xs → AllByRecursion (λ y. cmp e.0 y ≡ Less) (keys_of xs) → cmp e.0 (get_or xs j d).0 ≡ Less
      first [] j m a = absurd (omega arith)
      first (x ∷ xs) zero m a = a.0
      first (x ∷ xs) (suc j) m a = first xs j (omega arith) a.1

  pub above_at : (es : List (K × E)) (i : ℕ) (e : K × E) (r : Ordering) → i < length es → IsStrictlySortedBy cmp (keys_of es)
      → e ≡ get_or es i e → cmp k e.0 ≡ r → is_lt r ≡ false → IsAboveFirst (cmp k) es i
  above_at es i e r l s is q apart = above_earlier es i l s e
      (λ less. true≢false (ap is_lt (sym less ∙ ap (λ (y : K × E). cmp k y.0) (sym is) ∙ q) ∙ apart))

  -- and of a key that it is above, above that one too
  pub above_one_more : (es : List (K × E)) (i : ℕ) → i < length es → IsAboveFirst (cmp k) es i → ComparesAt (cmp k) es i Greater
      → IsAboveFirst (cmp k) es (suc i)
  above_one_more [] i l a q = absurd (omega arith)
  above_one_more (e ∷ es) zero l a q = (q, tt)
  above_one_more (e ∷ es) (suc i) l a q = (a.0, above_one_more es i (omega arith) a.1 q)

  -- ---- what the place says of the entries

  pub insert_at_place : (es : List (K × E)) (i : ℕ) (v : E) → IsAboveFirst (cmp k) es i → ComparesAt (cmp k) es i Less → insert es i (k, v)
      ≡ insert_entry cmp es k v
  insert_at_place [] zero v a q = refl
  insert_at_place [] (suc i) v a q = absurd a
  insert_at_place (e ∷ es) zero v a q = sym (ap (λ r. match_ordering r ((k, v) ∷ e ∷ es) ((e.0, v) ∷ es) (e ∷ insert_entry cmp es k v)) q)
  insert_at_place (e ∷ es) (suc i) v a q =
      ap (λ xs. e ∷ xs) (insert_at_place es i v a.1 q) ∙ sym (ap (λ r. match_ordering r ((k, v) ∷ e ∷ es) ((e.0, v) ∷ es) (e ∷ insert_entry cmp es k v)) a.0)

  pub set_at_place : (es : List (K × E)) (i : ℕ) (e : K × E) (v : E) → IsAboveFirst (cmp k) es i → ComparesAt (cmp k) es i Equal → slice_get es i ≡ Some e
      → slice_set es i (e.0, v) ≡ insert_entry cmp es k v
  set_at_place [] i e v a q f = absurd (true≢false (sym (ap is_some f)))
  set_at_place (x ∷ xs) zero e v a q f =
      ap (λ (y : Option (K × E)). (key y x, v) ∷ xs) (sym f) ∙ sym (ap (λ r. match_ordering r ((k, v) ∷ x ∷ xs) ((x.0, v) ∷ xs) (x ∷ insert_entry cmp xs k v))
      q)
    where
      key : Option (K × E) → K × E → K
      key None d = d.0
      key (Some y) d = y.0
  set_at_place (x ∷ xs) (suc i) e v a q f =
      ap (λ ys. x ∷ ys) (set_at_place xs i e v a.1 q f) ∙ sym (ap (λ r. match_ordering r ((k, v) ∷ x ∷ xs) ((x.0, v) ∷ xs) (x ∷ insert_entry cmp xs k v)) a.0)

  pub remove_at_place : (es : List (K × E)) (i : ℕ) → i < length es → IsAboveFirst (cmp k) es i → ComparesAt (cmp k) es i Equal → remove es i
      ≡ remove_entry (is_at (cmp k)) es
  remove_at_place [] i l a q = absurd (omega arith)
  remove_at_place (e ∷ es) zero l a q = sym (ap (λ r. cond (is_eq r) es (e ∷ remove_entry (is_at (cmp k)) es)) q)
  remove_at_place (e ∷ es) (suc i) l a q =
      ap (λ xs. e ∷ xs) (remove_at_place es i (omega arith) a.1 q) ∙ sym (ap (λ r. cond (is_eq r) es (e ∷ remove_entry (is_at (cmp k)) es)) a.0)

  pub lookup_at_place : (es : List (K × E)) (i : ℕ) (e : K × E) → IsAboveFirst (cmp k) es i → ComparesAt (cmp k) es i Equal → slice_get es i ≡ Some e
      → lookup (is_at (cmp k)) es ≡ Some e.1
  lookup_at_place [] i e a q f = absurd (true≢false (sym (ap is_some f)))
  lookup_at_place (x ∷ xs) zero e a q f =
      ap (λ r. cond (is_eq r) (Some x.1) (lookup (is_at (cmp k)) xs)) q ∙ ap (λ (y : Option (K × E)). option_map (λ (z : K × E). z.1) y) f
  lookup_at_place (x ∷ xs) (suc i) e a q f = ap (λ r. cond (is_eq r) (Some x.1) (lookup (is_at (cmp k)) xs)) a.0 ∙ lookup_at_place xs i e a.1 q f

  rest_below : (es : List (K × E)) → ComparesAt (cmp k) es 0 Less → IsStrictlySortedBy cmp (keys_of es) → AllByRecursion (λ y. cmp k y ≡ Less) (keys_of es)
  rest_below [] q s = tt
  rest_below (e ∷ es) q s = (q, weaker (keys_of es) (sorted_head cmp e.0 (keys_of es) s))
    where
      weaker : (ks : List K) → AllByRecursion (λ y. cmp e.0 y ≡ Less) ks → AllByRecursion (λ y. cmp k y ≡ Less) ks
      weaker [] h = tt
      weaker (y ∷ ys) h = (total.trans k e.0 y q h.0, weaker ys h.1)

  pub nothing_at_place : (es : List (K × E)) (i : ℕ) → IsStrictlySortedBy cmp (keys_of es) → IsAboveFirst (cmp k) es i → ComparesAt (cmp k) es i Less
      → lookup (is_at (cmp k)) es ≡ None
  nothing_at_place es zero s a q = lookup-below cmp k es (rest_below es q s)
  nothing_at_place [] (suc i) s a q = refl
  nothing_at_place (e ∷ es) (suc i) s a q =
      ap (λ r. cond (is_eq r) (Some e.1) (lookup (is_at (cmp k)) es)) a.0 ∙ nothing_at_place es i (sorted_tail cmp e.0 (keys_of es) s) a.1 q

  pub position_at_place : (es : List (K × E)) (i : ℕ) → i < length es → IsAboveFirst (cmp k) es i → ComparesAt (cmp k) es i Equal → Some i
      ≡ position_of cmp (keys_of es) k
  position_at_place [] i l a q = absurd (omega arith)
  position_at_place (e ∷ es) zero l a q = sym (ap (λ r. cond (is_eq r) (Some 0) (option_map (λ i. suc i) (position_of cmp (keys_of es) k))) q)
  position_at_place (e ∷ es) (suc i) l a q =
      ap (λ (o : Option ℕ). option_map (λ i. suc i) o) (position_at_place es i (omega arith) a.1 q)
      ∙ sym (ap (λ r. cond (is_eq r) (Some 0) (option_map (λ i. suc i) (position_of cmp (keys_of es) k))) a.0)

  pub no_position : (es : List (K × E)) (i : ℕ) → IsStrictlySortedBy cmp (keys_of es) → IsAboveFirst (cmp k) es i → ComparesAt (cmp k) es i Less → None
      ≡ position_of cmp (keys_of es) k
  no_position es zero s a q = go (keys_of es) (rest_below es q s)
    where
      go : (ks : List K) → AllByRecursion (λ y. cmp k y ≡ Less) ks → None ≡ position_of cmp ks k
      go [] h = refl
      go (y ∷ ys) h =
          ap (λ (o : Option ℕ). option_map (λ i. suc i) o) (go ys h.1)
          ∙ sym (ap (λ r. cond (is_eq r) (Some 0) (option_map (λ i. suc i) (position_of cmp ys k))) h.0)
  no_position [] (suc i) s a q = refl
  no_position (e ∷ es) (suc i) s a q =
      ap (λ (o : Option ℕ). option_map (λ i. suc i) o) (no_position es i (sorted_tail cmp e.0 (keys_of es) s) a.1 q)
      ∙ sym (ap (λ r. cond (is_eq r) (Some 0) (option_map (λ i. suc i) (position_of cmp (keys_of es) k))) a.0)

-- ---- where a query belongs

module _ {K E : Type 0} (compare : K → Ordering) (es : List (K × E)) (i : ℕ) where
  pub belongs_before : i ≤ length es → IsAboveFirst compare es i → ComparesAt compare es i Less → BelongsAt compare es i false
  belongs_before within above there = record { above = above; there = there; within = within; inside = λ found. absurd (true≢false (sym found)) }

  pub belongs_here : i < length es → IsAboveFirst compare es i → ComparesAt compare es i Equal → BelongsAt compare es i true
  belongs_here inside above there = record { above = above; there = there; within = omega (arith, inside); inside = λ found. inside }

  -- behind all entries
  pub belongs_last : i ≡ length es → IsAboveFirst compare es i → BelongsAt compare es i false
  belongs_last end above = belongs_before (omega (arith, end)) above (subst (λ n. ComparesAt compare es n Less) (sym end) (above_none compare es))

-- ---- what is at a place

pub there_is : {X : Type 0} (xs : List X) (i : ℕ) → i < length xs → (x : X) × (slice_get xs i ≡ Some x)
there_is [] i l = absurd (omega arith)
there_is (x ∷ xs) zero l = (x, refl)
there_is (x ∷ xs) (suc i) l = there_is xs i (omega arith)

module _ {K E : Type 0} {compare : K → Ordering} {es : List (K × E)} {i : ℕ} where
  pub where_found : (found : Bool) → BelongsAt compare es i found → found ≡ true → ComparesAt compare es i Equal
  where_found found b is = subst (λ f. ComparesAt compare es i (cond f Equal Less)) is b.there

  pub where_missing : (found : Bool) → BelongsAt compare es i found → found ≡ false → ComparesAt compare es i Less
  where_missing found b is = subst (λ f. ComparesAt compare es i (cond f Equal Less)) is b.there

-- ---- counts

pub below_power : (c : ℕ) → c < 2 ^ c
below_power zero = omega arith
below_power (suc c) = omega (arith, below_power c, pow-suc 2 c)

-- a number that a power of two doesn't exceed has more digits than the power says
pub digits_from_power : (most n c : ℕ) → n ≤ most → 2 ^ c ≤ n → suc c ≤ digits_upto most n
digits_from_power zero n c within h = absurd (omega (arith, below_power c))
digits_from_power (suc most) zero c within h = absurd (omega (arith, below_power c))
digits_from_power (suc most) (suc n) zero within h = omega arith
digits_from_power (suc most) (suc n) (suc c) within h =
    let twice : 2 ^ c * 2 ≤ suc n = omega (arith, pow-suc 2 c) in
    let rest = digits_from_power most (suc n / 2) c (omega arith) (le-div (2 ^ c) (suc n) 2 (omega arith) twice) in
    omega (arith, rest)

pub has_halved_none : (n : ℕ) → HasHalved n n 0
has_halved_none n = record { halves = omega arith; counted = omega arith }

pub power_within : (n left c : ℕ) → 0 < left → HasHalved n left c → 2 ^ c ≤ n
power_within n left c some h = omega (arith, mul-le (2 ^ c) 1 (2 ^ c) left (omega arith) (omega arith), h.halves)

-- one comparison more
pub has_halved : (n left less c : ℕ) → 0 < left → 2 * less ≤ left → HasHalved n left c → HasHalved n less (suc c)
has_halved n left less c some half h =
    let one : 2 ^ suc c * less ≡ 2 ^ c * (2 * less) = ap (λ p. p * less) (pow-suc 2 c) ∙ mul_assoc (2 ^ c) 2 less in
    record {
      halves = omega (arith, one, mul-le (2 ^ c) (2 * less) (2 ^ c) left (omega arith) half, h.halves);
      counted = digits_from_power n n c (omega arith) (power_within n left c some h);
    }

pub counted_one_more : (n left c : ℕ) → 0 < left → HasHalved n left c → suc c ≤ binary_digits n
counted_one_more n left c some h = digits_from_power n n c (omega arith) (power_within n left c some h)

-- a greater number hasn't fewer digits
digits_ascend : (a b n m : ℕ) → n ≤ a → m ≤ b → n ≤ m → digits_upto a n ≤ digits_upto b m
digits_ascend zero b n m inside within less = omega arith
digits_ascend (suc a) b zero m inside within less = omega arith
digits_ascend (suc a) zero (suc n) m inside within less = absurd (omega (arith, within, less))
digits_ascend (suc a) (suc b) (suc n) zero inside within less = absurd (omega (arith, less))
digits_ascend (suc a) (suc b) (suc n) (suc m) inside within less =
    let rest = digits_ascend a b (suc n / 2) (suc m / 2) (omega (arith, inside)) (omega (arith, within)) (omega (arith, less)) in
    omega (arith, rest)

pub fewer_digits : (n m : ℕ) → n ≤ m → binary_digits n ≤ binary_digits m
fewer_digits n m less = digits_ascend n m n m (omega arith) (omega arith) less
