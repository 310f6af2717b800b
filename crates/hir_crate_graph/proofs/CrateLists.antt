-- Lists of crates in ascending order, and those that pass a test.
use Rattle.std.proofs.Common.{◌≡◌, ◌⊎◌, inl, inr, nat_eq, ℕ, ◌+◌, ◌-◌, ◌<◌, ◌≤◌, zero, suc, Bool, true, false, ◌||◌, ◌&&◌, List, [], ◌∷◌, ◌++◌, length, cond}
use Rattle.std.proofs.Common.{refl, sym, ap, ap₂, ◌∙◌, arith, subst}
use Rattle.std.specs.Cmp.{unsigned_Decides}
use Rattle.std.specs.List.{AllByRecursion}
use Rattle.std.proofs.lemmas.Bool.{cases_eq, cases_lt}
use Rattle.hir_ids.specs.declared.ids.Crate.{Crate}
use Rattle.hir_crate_graph.specs.CrateSet.{same_crate, has_crate, IsAscending, crate_of, crates_from}
use mathlib.Core.Bool.{true≢false}

pub clash : {A : Type 0} {b : Bool} → b ≡ true → b ≡ false → A
clash on off = absurd (true≢false (sym on ∙ off))

pub length_one_more : {A : Type 0} (xs : List A) (x : A) → length (xs ++ x ∷ []) ≡ suc (length xs)
length_one_more [] x = refl
length_one_more (y ∷ ys) x = ap suc (length_one_more ys x)

pub or_true : (b : Bool) → (b || true) ≡ true
or_true true = refl
or_true false = refl

pub or_false : (b : Bool) → (b || false) ≡ b
or_false true = refl
or_false false = refl

pub exact_crate : (a b : Crate) → same_crate a b ≡ true → a ≡ b
exact_crate a b e = λ i. record { 0 = (unsigned_Decides a.0 b.0).0 e i }

pub same_number : (m n : ℕ) → m ≡ n → nat_eq m n ≡ true
same_number m n e = (unsigned_Decides m n).1 e

pub other_number : (m n : ℕ) → (m ≡ n → ⊥) → nat_eq m n ≡ false
other_number m n ne = go (nat_eq m n) refl
  where
    go : (b : Bool) → nat_eq m n ≡ b → b ≡ false
    go true s = absurd (ne ((unsigned_Decides m n).0 s))
    go false s = refl

-- where all lie behind a crate, it isn't among them
behind_lacks : (c : Crate) (cs : List Crate) → AllByRecursion (λ d. c.0 < d.0) cs → has_crate cs c ≡ false
behind_lacks c [] all = refl
behind_lacks c (d ∷ ds) all =
    let before : c.0 < d.0 = all.0 in
    ap (λ (t : Bool). t || has_crate ds c) (other_number c.0 d.0 (λ e. absurd (omega arith))) ∙ behind_lacks c ds all.1

-- one that comes before another comes before all behind that
behind_more : (c d : Crate) (cs : List Crate) → c.0 < d.0 → AllByRecursion (λ e. d.0 < e.0) cs → AllByRecursion (λ e. c.0 < e.0) cs
behind_more c d [] lt all = all
behind_more c d (e ∷ es) lt all = let before : d.0 < e.0 = all.0 in (omega arith, behind_more c d es lt all.1)

head_there : (x : Crate) (xs : List Crate) → has_crate (x ∷ xs) x ≡ true
head_there x xs = ap (λ (t : Bool). t || has_crate xs x) (same_number x.0 x.0 refl)

-- a list doesn't have what comes before its head
before_lacks : (c y : Crate) (ys : List Crate) → c.0 < y.0 → AllByRecursion (λ d. y.0 < d.0) ys → has_crate (y ∷ ys) c ≡ false
before_lacks c y ys lt all = behind_lacks c (y ∷ ys) (lt, behind_more c y ys lt all)

module _ (x y : Crate) (xs ys : List Crate) (above_x : AllByRecursion (λ d. x.0 < d.0) xs) (above_y : AllByRecursion (λ d. y.0 < d.0) ys)
    (has : (c : Crate) → has_crate (x ∷ xs) c ≡ has_crate (y ∷ ys) c) where
  same_head : x.0 ≡ y.0
  same_head = go (cases_lt x.0 y.0) (cases_lt y.0 x.0)
    where
      go : (x.0 < y.0) ⊎ (y.0 ≤ x.0) → (y.0 < x.0) ⊎ (x.0 ≤ y.0) → x.0 ≡ y.0
      go (inl lt) h = clash (sym (has x) ∙ head_there x xs) (before_lacks x y ys lt above_y)
      go (inr le) (inl lt) = clash (has y ∙ head_there y ys) (before_lacks y x xs lt above_x)
      go (inr le) (inr ge) = omega arith

  same_rest : (c : Crate) → has_crate xs c ≡ has_crate ys c
  same_rest c = go (cases_eq c.0 x.0)
    where
      at_x : c.0 ≡ x.0 → has_crate xs c ≡ false
      at_x e = behind_lacks c xs (subst (λ (m : ℕ). AllByRecursion (λ d. m < d.0) xs) (sym e) above_x)

      at_y : c.0 ≡ x.0 → has_crate ys c ≡ false
      at_y e = behind_lacks c ys (subst (λ (m : ℕ). AllByRecursion (λ d. m < d.0) ys) (sym (e ∙ same_head)) above_y)

      go : (c.0 ≡ x.0) ⊎ (c.0 ≡ x.0 → ⊥) → has_crate xs c ≡ has_crate ys c
      go (inl e) = at_x e ∙ sym (at_y e)
      go (inr ne) =
          sym (ap (λ (t : Bool). t || has_crate xs c) (other_number c.0 x.0 ne)) ∙ has c
          ∙ ap (λ (t : Bool). t || has_crate ys c) (other_number c.0 y.0 (λ e. ne (e ∙ sym same_head)))

-- a list in ascending order is known by what is in it
pub ascending_alike : (xs ys : List Crate) → IsAscending xs → IsAscending ys → ((c : Crate) → has_crate xs c ≡ has_crate ys c) → xs ≡ ys
ascending_alike [] [] a b has = refl
ascending_alike [] (y ∷ ys) a b has = clash (head_there y ys) (sym (has y))
ascending_alike (x ∷ xs) [] a b has = clash (head_there x xs) (has x)
ascending_alike (x ∷ xs) (y ∷ ys) a b has =
    let rest = ascending_alike xs ys a.1 b.1 (same_rest x y xs ys a.0 b.0 has) in
    let first = same_head x y xs ys a.0 b.0 has in
    λ i. crate_of (first i) ∷ rest i

-- ---- those that pass a test

module _ (p : ℕ → Bool) where
  all_from : (low start count : ℕ) → low ≤ start → AllByRecursion (λ d. low ≤ d.0) (crates_from p start count)
  all_from low start zero le = tt
  all_from low start (suc n) le = go (p start) (crates_from p (suc start) n) (all_from low (suc start) n (omega arith))
    where
      go : (b : Bool) (rest : List Crate) → AllByRecursion (λ d. low ≤ d.0) rest → AllByRecursion (λ d. low ≤ d.0) (cond b (crate_of start ∷ rest) rest)
      go true rest h = (le, h)
      go false rest h = h

  above_from : (start : ℕ) (cs : List Crate) → AllByRecursion (λ d. suc start ≤ d.0) cs → AllByRecursion (λ d. start < d.0) cs
  above_from start [] all = tt
  above_from start (c ∷ cs) all = let le : suc start ≤ c.0 = all.0 in (omega arith, above_from start cs all.1)

  pub IsAscending-crates_from : (start count : ℕ) → IsAscending (crates_from p start count)
  IsAscending-crates_from start zero = tt
  IsAscending-crates_from start (suc n) =
      go (p start) (crates_from p (suc start) n) (above_from start (crates_from p (suc start) n) (all_from (suc start) (suc start) n (omega arith)))
      (IsAscending-crates_from (suc start) n)
    where
      go : (b : Bool) (rest : List Crate) → AllByRecursion (λ d. start < d.0) rest → IsAscending rest → IsAscending (cond b (crate_of start ∷ rest) rest)
      go true rest above h = (above, h)
      go false rest above h = h

  has_cond : (b : Bool) (x : Crate) (rest : List Crate) (c : Crate) → has_crate (cond b (x ∷ rest) rest) c ≡ cond b (same_crate c x || has_crate rest c)
      (has_crate rest c)
  has_cond true x rest c = refl
  has_cond false x rest c = refl

  pick : (b s r : Bool) → cond b (s || r) r ≡ ((s && b) || r)
  pick true true r = refl
  pick true false r = refl
  pick false true r = refl
  pick false false r = refl

  has_step : (start count : ℕ) (c : Crate) → has_crate (crates_from p start (suc count)) c
      ≡ ((nat_eq c.0 start && p start) || has_crate (crates_from p (suc start) count) c)
  has_step start count c =
      has_cond (p start) (crate_of start) (crates_from p (suc start) count) c ∙ pick (p start) (nat_eq c.0 start)
      (has_crate (crates_from p (suc start) count) c)

  -- at another number than the first
  has_other : (start count : ℕ) (c : Crate) → (c.0 ≡ start → ⊥) → has_crate (crates_from p start (suc count)) c ≡ has_crate (crates_from p (suc start) count) c
  has_other start count c ne =
      has_step start count c ∙ ap (λ (t : Bool). (t && p start) || has_crate (crates_from p (suc start) count) c) (other_number c.0 start ne)

  pub has_below : (start count : ℕ) (c : Crate) → c.0 < start → has_crate (crates_from p start count) c ≡ false
  has_below start zero c lt = refl
  has_below start (suc n) c lt = has_other start n c (λ e. absurd (omega arith)) ∙ has_below (suc start) n c (omega arith)

  pub has_above : (start count : ℕ) (c : Crate) → start + count ≤ c.0 → has_crate (crates_from p start count) c ≡ false
  has_above start zero c le = refl
  has_above start (suc n) c le = has_other start n c (λ e. absurd (omega arith)) ∙ has_above (suc start) n c (omega arith)

  pub has_within : (start count : ℕ) (c : Crate) → start ≤ c.0 → c.0 < start + count → has_crate (crates_from p start count) c ≡ p c.0
  has_within start zero c le lt = absurd (omega arith)
  has_within start (suc n) c le lt = go (has_within (suc start) n c) (cases_eq c.0 start)
    where
      go : (suc start ≤ c.0 → c.0 < suc start + n → has_crate (crates_from p (suc start) n) c ≡ p c.0) → (c.0 ≡ start) ⊎ (c.0 ≡ start → ⊥)
          → has_crate (crates_from p start (suc n)) c ≡ p c.0
      go behind (inl e) =
          has_step start n c ∙ ap₂ (λ (t r : Bool). (t && p start) || r) (same_number c.0 start e) (has_below (suc start) n c (omega arith))
          ∙ or_false (p start) ∙ ap p (sym e)
      go behind (inr ne) = has_other start n c ne ∙ behind (omega arith) (omega arith)

  -- no more pass than there are
  pub length-crates_from : (start count : ℕ) → length (crates_from p start count) ≤ count
  length-crates_from start zero = omega arith
  length-crates_from start (suc n) = go (p start) (crates_from p (suc start) n) (length-crates_from (suc start) n)
    where
      go : (b : Bool) (rest : List Crate) → length rest ≤ n → length (cond b (crate_of start ∷ rest) rest) ≤ suc n
      go true rest le = omega arith
      go false rest le = omega arith

  -- none passes
  pub crates_from-none : (start count : ℕ) → ((n : ℕ) → start ≤ n → n < start + count → p n ≡ false) → crates_from p start count ≡ []
  crates_from-none start zero none = refl
  crates_from-none start (suc k) none =
      ap (λ (b : Bool). cond b (crate_of start ∷ crates_from p (suc start) k) (crates_from p (suc start) k)) (none start (omega arith) (omega arith))
      ∙ crates_from-none (suc start) k (λ n le lt. none n (omega arith) (omega arith))

  -- first those below a number, and then those from it on
  split : (start first count rest at : ℕ) → count ≡ first + rest → at ≡ start + first → crates_from p start count ≡ crates_from p start first ++ crates_from p
      at rest
  split start zero count rest at e f =
      let same_start : start ≡ at = omega arith in
      let same_count : count ≡ rest = omega arith in
      ap₂ (crates_from p) same_start same_count
  split start (suc first) zero rest at e f = absurd (omega arith)
  split start (suc first) (suc count) rest at e f = go (p start) (split (suc start) first count rest at (omega arith) (omega arith))
    where
      go : (b : Bool) → crates_from p (suc start) count ≡ crates_from p (suc start) first ++ crates_from p at rest
          → cond b (crate_of start ∷ crates_from p (suc start) count) (crates_from p (suc start) count)
          ≡ cond b (crate_of start ∷ crates_from p (suc start) first) (crates_from p (suc start) first) ++ crates_from p at rest
      go true h = ap (λ cs. crate_of start ∷ cs) h
      go false h = h

  at_set : (place count : ℕ) → p place ≡ true → crates_from p place (suc count) ≡ crate_of place ∷ crates_from p (suc place) count
  at_set place count set = ap (λ (b : Bool). cond b (crate_of place ∷ crates_from p (suc place) count) (crates_from p (suc place) count)) set

  -- where a number is the first that passes, its crate comes first
  pub first_of_crates : (from to place : ℕ) → from ≤ place → place < to → p place ≡ true → ((n : ℕ) → from ≤ n → n < place → p n ≡ false)
      → crates_from p from (to - from) ≡ crate_of place ∷ crates_from p (place + 1) (to - (place + 1))
  first_of_crates from to place le lt set none =
      let front : crates_from p from (place - from) ≡ [] = crates_from-none from (place - from) (λ n a b. none n a (omega arith)) in
      let next : suc place ≡ place + 1 = omega arith in
      split from (place - from) (to - from) (suc (to - (place + 1))) place (omega arith) (omega arith)
      ∙ ap₂ (λ (xs ys : List Crate). xs ++ ys) front (at_set place (to - (place + 1)) set)
      ∙ ap (λ (m : ℕ). crate_of place ∷ crates_from p m (to - (place + 1))) next

  -- where it is the last, its crate comes last
  pub last_of_crates : (from to place : ℕ) → from ≤ place → place < to → p place ≡ true → ((n : ℕ) → place < n → n < to → p n ≡ false)
      → crates_from p from (to - from) ≡ crates_from p from (place - from) ++ crate_of place ∷ []
  last_of_crates from to place le lt set none =
      let back : crates_from p (suc place) (to - suc place) ≡ [] = crates_from-none (suc place) (to - suc place) (λ n a b. none n (omega arith) (omega arith))
      in
      split from (place - from) (to - from) (suc (to - suc place)) place (omega arith) (omega arith)
      ∙ ap (λ (ys : List Crate). crates_from p from (place - from) ++ ys) (at_set place (to - suc place) set ∙ ap (λ (ys : List Crate). crate_of place ∷ ys)
      back)
