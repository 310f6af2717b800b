-- What is reached in steps to direct dependencies, and what is depended on.
use Rattle.std.proofs.Common.{◌≡◌, ◌⊎◌, inl, inr, nat_eq, nat_le, ℕ, ◌<◌, ◌≤◌, zero, suc, Bool, true, false, ◌||◌, List, [], ◌∷◌, ◌++◌, length, Option, Some}
use Rattle.std.proofs.Common.{None, Result, Ok, Err, map, cond, refl, sym, ap, ap₂, ◌∙◌, arith, subst, Contains, get_or}
use Rattle.std.specs.Cmp.{unsigned_Decides}
use Rattle.std.specs.List.{list_any}
use Rattle.std.proofs.lemmas.Bool.{cases_eq, cases_lt}
use Rattle.std.proofs.lemmas.Bool.Decides.{nat_tests}
use Rattle.std.proofs.lemmas.Map.Views.{list_any-from_Contains, Contains-from_any}
use Rattle.hir_ids.specs.declared.ids.Crate.{Crate}
use Rattle.hir_ids.specs.contracts.ids.CrateEq.TheImpl.Laws.{laws-law as crate_laws}
use Rattle.hir_crate_graph.specs.CrateSet.{same_crate, has_crate, crate_of}
use Rattle.hir_crate_graph.specs.Dependencies.DependsOn.{directly, through}
use Rattle.hir_crate_graph.specs.Dependencies.{DependsOn, is_reached, transitive_dependencies, transitive_below, has_late, IsOrderedBelow, AreTransitive}
use Rattle.std.proofs.lemmas.List.{get_or_push}
use Rattle.hir_crate_graph.specs.Graph.{crates_at, comes_by, Adds, first_late, given, or_late, transitive_of, verdict_of_push}
use Rattle.hir_crate_graph.specs.declared.transitive.CrateGraphError.{CrateGraphError}
use Rattle.hir_crate_graph.specs.declared.transitive.CrateGraphError.TheVariants.{DependencyOrder}
use Rattle.hir_crate_graph.specs.Laws.{ListsWhatIsDependedOn, ListsAscend}
use Rattle.hir_crate_graph.proofs.CrateLists.{clash, length_one_more, or_true, exact_crate, same_number, ascending_alike, IsAscending-crates_from, has_above}
use Rattle.hir_crate_graph.proofs.CrateLists.{has_within}

-- ---- dependencies that come before their crate

on_time : (k d : ℕ) (others : Bool) → (nat_le k d || others) ≡ false → (d < k) × (others ≡ false)
on_time k d others e = go (nat_le k d) refl e
  where
    go : (b : Bool) → nat_le k d ≡ b → (b || others) ≡ false → (d < k) × (others ≡ false)
    go true s e = clash refl e
    go false s e = (grind (arith, nat_tests), e)

-- two tests that agree on what comes before a crate agree on its dependencies
pub any_alike : (k : ℕ) (p q : Crate → Bool) (ds : List Crate) → has_late k ds ≡ false → ((d : Crate) → d.0 < k → p d ≡ q d) → list_any p ds ≡ list_any q ds
any_alike k p q [] none same = refl
any_alike k p q (d ∷ ds) none same =
    let h = on_time k d.0 (has_late k ds) none in
    ap₂ (λ (a b : Bool). a || b) (same d h.0) (any_alike k p q ds h.1 same)

-- a test that some dependency passes
some_on_time : (k : ℕ) (p : Crate → Bool) (ds : List Crate) → has_late k ds ≡ false → list_any p ds ≡ true
    → (d : Crate) × (d.0 < k) × (p d ≡ true) × (has_crate ds d ≡ true)
some_on_time k p [] none some = clash some refl
some_on_time k p (d ∷ ds) none some = go (some_on_time k p ds) (p d) refl some
  where
    go : (has_late k ds ≡ false → list_any p ds ≡ true → (e : Crate) × (e.0 < k) × (p e ≡ true) × (has_crate ds e ≡ true)) → (b : Bool) → p d ≡ b
        → (b || list_any p ds) ≡ true
        → (e : Crate) × (e.0 < k) × (p e ≡ true) × (has_crate (d ∷ ds) e ≡ true)
    go behind true s e = (d, (on_time k d.0 (has_late k ds) none).0, s, ap (λ (t : Bool). t || has_crate ds d) (same_number d.0 d.0 refl))
    go behind false s e =
        let h = behind (on_time k d.0 (has_late k ds) none).1 e in
        (h.0, h.1, h.2, ap (λ (t : Bool). same_crate h.0 d || t) h.3 ∙ or_true (same_crate h.0 d))

-- a dependency comes before the crate
early : (k : ℕ) (ds : List Crate) (d : Crate) → has_late k ds ≡ false → has_crate ds d ≡ true → d.0 < k
early k ds d none has =
    let h = some_on_time k (same_crate d) ds none has in
    subst (λ (m : ℕ). m < k) (sym ((unsigned_Decides d.0 h.0.0).0 h.2)) h.1

-- a test that a dependency passes
any_by : (p : Crate → Bool) (ds : List Crate) (d : Crate) → has_crate ds d ≡ true → p d ≡ true → list_any p ds ≡ true
any_by p [] d has passes = clash has refl
any_by p (e ∷ es) d has passes = go (any_by p es d) (same_crate d e) refl has
  where
    go : (has_crate es d ≡ true → p d ≡ true → list_any p es ≡ true) → (b : Bool) → same_crate d e ≡ b → (b || has_crate es d) ≡ true → (p e || list_any p es)
        ≡ true
    go behind true s h = ap (λ (t : Bool). t || list_any p es) (ap p (sym (exact_crate d e s)) ∙ passes)
    go behind false s h = ap (λ (t : Bool). p e || t) (behind h passes) ∙ or_true (p e)

module _ (direct : ℕ → List Crate) where
  pub less : (m n : ℕ) → m ≤ n → IsOrderedBelow direct n → IsOrderedBelow direct m
  less m n le ordered = λ k lt. ordered k (omega arith)

  none_before_first : has_late 0 (direct 0) ≡ false → (p : Crate → Bool) → list_any p (direct 0) ≡ false
  none_before_first none p = any_alike 0 p (λ d. false) (direct 0) none (λ d lt. absurd (omega arith)) ∙ nowhere (direct 0)
    where
      nowhere : (ds : List Crate) → list_any (λ d. false) ds ≡ false
      nowhere [] = refl
      nowhere (d ∷ ds) = nowhere ds

  -- no more steps are needed than a crate's number says
  same_steps : (m n k j : ℕ) → k ≤ m → k ≤ n → IsOrderedBelow direct (suc k) → is_reached direct m k j ≡ is_reached direct n k j
  same_steps zero zero k j a b ordered = refl
  same_steps zero (suc n) zero j a b ordered = sym (none_before_first (ordered 0 (omega arith)) (λ d. nat_eq j d.0 || is_reached direct n d.0 j))
  same_steps (suc m) zero zero j a b ordered = none_before_first (ordered 0 (omega arith)) (λ d. nat_eq j d.0 || is_reached direct m d.0 j)
  same_steps zero n (suc k) j a b ordered = absurd (omega arith)
  same_steps m zero (suc k) j a b ordered = absurd (omega arith)
  same_steps (suc m) (suc n) k j a b ordered =
      any_alike k (λ d. nat_eq j d.0 || is_reached direct m d.0 j) (λ d. nat_eq j d.0 || is_reached direct n d.0 j) (direct k) (ordered k (omega arith))
      (λ d lt. ap (λ (t : Bool). nat_eq j d.0 || t) (same_steps m n d.0 j (omega arith) (omega arith) (less (suc d.0) (suc k) (omega arith) ordered)))

  -- what is reached comes before
  reached_before : (n k j : ℕ) → IsOrderedBelow direct (suc k) → is_reached direct n k j ≡ true → j < k
  reached_before zero k j ordered e = clash e refl
  reached_before (suc n) k j ordered e =
      let h = some_on_time k (λ d. nat_eq j d.0 || is_reached direct n d.0 j) (direct k) (ordered k (omega arith)) e in
      go h.0 h.1 (λ r. reached_before n h.0.0 j (less (suc h.0.0) (suc k) (omega (arith, h.1)) ordered) r) (nat_eq j h.0.0) refl h.2
    where
      go : (d : Crate) → d.0 < k → (is_reached direct n d.0 j ≡ true → j < d.0) → (b : Bool) → nat_eq j d.0 ≡ b → (b || is_reached direct n d.0 j) ≡ true
          → j < k
      go d lt before true s e = let same : j ≡ d.0 = (unsigned_Decides j d.0).0 s in omega arith
      go d lt before false s e = let h = before e in omega arith

  -- what is listed is what is reached
  pub has-transitive : (k : ℕ) (c : Crate) → IsOrderedBelow direct (suc k) → has_crate (transitive_dependencies direct k) c ≡ is_reached direct k k c.0
  has-transitive k c ordered = go (cases_lt c.0 k)
    where
      not_reached : (b : Bool) → k ≤ c.0 → is_reached direct k k c.0 ≡ b → false ≡ b
      not_reached true le s = let lt = reached_before k k c.0 ordered s in absurd (omega arith)
      not_reached false le s = refl

      go : (c.0 < k) ⊎ (k ≤ c.0) → has_crate (transitive_dependencies direct k) c ≡ is_reached direct k k c.0
      go (inl lt) = has_within (is_reached direct k k) 0 k c (omega arith) (omega arith)
      go (inr le) = has_above (is_reached direct k k) 0 k c (omega arith) ∙ not_reached (is_reached direct k k c.0) le refl

  -- ---- what is reached is what is depended on

  reached_depends : (n k j : ℕ) → IsOrderedBelow direct (suc k) → is_reached direct n k j ≡ true → DependsOn direct k j
  reached_depends zero k j ordered e = clash e refl
  reached_depends (suc n) k j ordered e =
      let h = some_on_time k (λ d. nat_eq j d.0 || is_reached direct n d.0 j) (direct k) (ordered k (omega arith)) e in
      go h.0 (Contains-from_any exact_crate h.0 (direct k) h.3)
      (λ r. reached_depends n h.0.0 j (less (suc h.0.0) (suc k) (omega (arith, h.1)) ordered) r) (nat_eq j h.0.0) refl h.2
    where
      go : (d : Crate) → Contains (direct k) d → (is_reached direct n d.0 j ≡ true → DependsOn direct d.0 j) → (b : Bool) → nat_eq j d.0 ≡ b
          → (b || is_reached direct n d.0 j) ≡ true → DependsOn direct k j
      go d among rest true s e = subst (λ (m : ℕ). DependsOn direct k m) (sym ((unsigned_Decides j d.0).0 s)) (directly k d among)
      go d among rest false s e = through k j d among (rest e)

  depends_reached : (k j : ℕ) → DependsOn direct k j → (n : ℕ) → k ≤ n → IsOrderedBelow direct (suc k) → is_reached direct n k j ≡ true
  depends_reached k j (directly _ d among) zero le ordered =
      let lt = early k (direct k) d (ordered k (omega arith)) (list_any-from_Contains crate_laws d (direct k) among) in absurd (omega arith)
  depends_reached k j (directly _ d among) (suc n) le ordered =
      any_by (λ e. nat_eq d.0 e.0 || is_reached direct n e.0 d.0) (direct k) d (list_any-from_Contains crate_laws d (direct k) among)
      (ap (λ (t : Bool). t || is_reached direct n d.0 d.0) (same_number d.0 d.0 refl))
  depends_reached k j (through _ _ d among rest) zero le ordered =
      let lt = early k (direct k) d (ordered k (omega arith)) (list_any-from_Contains crate_laws d (direct k) among) in absurd (omega arith)
  depends_reached k j (through _ _ d among rest) (suc n) le ordered =
      let lt = early k (direct k) d (ordered k (omega arith)) (list_any-from_Contains crate_laws d (direct k) among) in
      any_by (λ e. nat_eq j e.0 || is_reached direct n e.0 j) (direct k) d (list_any-from_Contains crate_laws d (direct k) among)
      (ap (λ (t : Bool). nat_eq j d.0 || t) (depends_reached d.0 j rest n (omega arith) (less (suc d.0) (suc k) (omega arith) ordered)) ∙ or_true
      (nat_eq j d.0))

pub transitive_agree : ListsWhatIsDependedOn
transitive_agree direct k ordered c = (
  λ e. reached_depends direct k k c.0 ordered (sym (has-transitive direct k c ordered) ∙ e),
  λ d. has-transitive direct k c ordered ∙ depends_reached direct k c.0 d k (omega arith) ordered,
)

pub IsAscending-transitive : ListsAscend
IsAscending-transitive direct k = IsAscending-crates_from (is_reached direct k k) 0 k

-- ---- the next crate

get_or_front : {A : Type 0} (xs : List A) (x : A) (k : ℕ) (d : A) → k < length xs → get_or (xs ++ x ∷ []) k d ≡ get_or xs k d
get_or_front [] x k d lt = absurd (omega arith)
get_or_front (y ∷ ys) x zero d lt = refl
get_or_front (y ∷ ys) x (suc k) d lt = get_or_front ys x k d (omega arith)

module _ (direct : ℕ → List Crate) where
  pub length-transitive_below : (n : ℕ) → length (transitive_below direct n) ≡ n
  length-transitive_below zero = refl
  length-transitive_below (suc n) = length_one_more (transitive_below direct n) (transitive_dependencies direct n) ∙ ap suc (length-transitive_below n)

  -- the list of each number below the last
  pub transitive_at : (n k : ℕ) → k < n → crates_at (transitive_below direct n) k ≡ transitive_dependencies direct k
  transitive_at zero k lt = absurd (omega arith)
  transitive_at (suc n) k lt = go (transitive_at n k) (cases_eq k n)
    where
      long : length (transitive_below direct n) ≡ n
      long = length-transitive_below n

      go : (k < n → crates_at (transitive_below direct n) k ≡ transitive_dependencies direct k) → (k ≡ n) ⊎ (k ≡ n → ⊥)
          → crates_at (transitive_below direct (suc n)) k ≡ transitive_dependencies direct k
      go before (inl e) =
          get_or_push (transitive_below direct n) (transitive_dependencies direct n) [] k (long ∙ sym e) ∙ ap (transitive_dependencies direct) (sym e)
      go before (inr ne) = get_or_front (transitive_below direct n) (transitive_dependencies direct n) k [] (omega (arith, long)) ∙ before (omega arith)

  reached_by_union : (k : ℕ) (sets : List (List Crate)) → sets ≡ transitive_below direct k → IsOrderedBelow direct (suc k) → (c : Crate)
      → is_reached direct k k c.0 ≡ list_any (λ d. comes_by sets d c) (direct k)
  reached_by_union zero sets is ordered c = sym (none_before_first direct (ordered 0 (omega arith)) (λ d. comes_by sets d c))
  reached_by_union (suc n) sets is ordered c =
      any_alike (suc n) (λ d. nat_eq c.0 d.0 || is_reached direct n d.0 c.0) (λ d. comes_by sets d c) (direct (suc n)) (ordered (suc n) (omega arith))
      (λ d lt. ap (λ (t : Bool). nat_eq c.0 d.0 || t) (
      same_steps direct n d.0 d.0 c.0 (omega arith) (omega arith) (less direct (suc d.0) (suc (suc n)) (omega arith) ordered)
      ∙ sym (has-transitive direct d.0 c (less direct (suc d.0) (suc (suc n)) (omega arith) ordered))
      ∙ ap (λ (cs : List Crate). has_crate cs c) (sym (transitive_at (suc n) d.0 lt) ∙ ap (λ (all : List (List Crate)). crates_at all d.0) (sym is))))

  pub AreTransitive-adds : (old new : List (List Crate)) (dependencies : List Crate) → AreTransitive direct old → direct (length old) ≡ dependencies
      → Adds old new dependencies
      → AreTransitive direct new
  AreTransitive-adds old new dependencies are now adds =
      let longer : length new ≡ suc (length old) = ap (λ (xs : List (List Crate)). length xs) adds.is ∙ length_one_more old adds.union in
      let ordered : IsOrderedBelow direct (suc (length old)) = λ j lt. go j (cases_eq j (length old)) lt in
      let same : adds.union ≡ transitive_dependencies direct (length old) =
      ascending_alike adds.union (transitive_dependencies direct (length old)) adds.is_union.ascending (IsAscending-transitive direct (length old))
      (λ c. adds.is_union.has c ∙ ap (λ (ds : List Crate). list_any (λ d. comes_by old d c) ds) (sym now)
      ∙ sym (reached_by_union (length old) old are.each ordered c) ∙ sym (has-transitive direct (length old) c ordered)) in
      record {
        ordered = subst (IsOrderedBelow direct) (sym longer) ordered;
        each = adds.is ∙ ap₂ (λ (xs : List (List Crate)) (x : List Crate). xs ++ x ∷ []) are.each same ∙ ap (transitive_below direct) (sym longer);
      }
    where
      go : (j : ℕ) → (j ≡ length old) ⊎ (j ≡ length old → ⊥) → j < suc (length old) → has_late j (direct j) ≡ false
      go j (inl e) lt = ap (λ (m : ℕ). has_late m (direct m)) e ∙ ap (has_late (length old)) now ∙ adds.in_order
      go j (inr ne) lt = are.ordered j (omega arith)

-- ---- the first that breaks the order

pub first_late-none : (direct : ℕ → List Crate) (n : ℕ) → IsOrderedBelow direct n → first_late direct n ≡ None
first_late-none direct zero ordered = refl
first_late-none direct (suc n) ordered =
    ap₂ (λ (o : Option Crate) (b : Bool). or_late o b n) (first_late-none direct n (less direct n (suc n) (omega arith) ordered)) (ordered n (omega arith))

pub first_late-some : (direct : ℕ → List Crate) (n k : ℕ) → IsOrderedBelow direct k → has_late k (direct k) ≡ true → k < n → first_late direct n
    ≡ Some (crate_of k)
first_late-some direct zero k ordered late lt = absurd (omega arith)
first_late-some direct (suc n) k ordered late lt = go (first_late-some direct n k ordered late) (cases_eq k n)
  where
    go : (k < n → first_late direct n ≡ Some (crate_of k)) → (k ≡ n) ⊎ (k ≡ n → ⊥) → first_late direct (suc n) ≡ Some (crate_of k)
    go before (inl e) =
        ap₂ (λ (o : Option Crate) (b : Bool). or_late o b n) (first_late-none direct n (subst (IsOrderedBelow direct) e ordered))
        (subst (λ (m : ℕ). has_late m (direct m) ≡ true) e late)
        ∙ ap (λ (m : ℕ). Some (crate_of m)) (sym e)
    go before (inr ne) = ap (λ (o : Option Crate). or_late o (has_late n (direct n)) n) (before (omega arith))

-- the list of an item
pub crates_at-map : {V : Type 0} (f : V → List Crate) (xs : List V) (i : ℕ) (x : V) → i < length xs → x ≡ get_or xs i x → crates_at (map f xs) i ≡ f x
crates_at-map f [] i x lt is = absurd (omega arith)
crates_at-map f (y ∷ ys) zero x lt is = ap f (sym is)
crates_at-map f (y ∷ ys) (suc i) x lt is = crates_at-map f ys i x (omega arith) is

-- all crates are taken
pub transitive_of-done : (lists sets : List (List Crate)) → AreTransitive (crates_at lists) sets → length sets ≡ length lists → transitive_of lists ≡ Ok sets
transitive_of-done lists sets are long =
    ap₂ given (first_late-none (crates_at lists) (length lists) (subst (IsOrderedBelow (crates_at lists)) long are.ordered))
    (ap (transitive_below (crates_at lists)) (sym long) ∙ sym are.each)

-- the next one isn't
pub transitive_of-late : (lists sets : List (List Crate)) (dependencies : List Crate) (error : CrateGraphError) → AreTransitive (crates_at lists) sets
    → crates_at lists (length sets) ≡ dependencies → length sets < length lists → verdict_of_push sets dependencies ≡ Err error → transitive_of lists
    ≡ Err error
transitive_of-late lists sets dependencies error are now lt verdict = go (has_late (length sets) dependencies) refl verdict
  where
    go : (b : Bool) → has_late (length sets) dependencies ≡ b
        → (let answer : Result (Unit {0}) CrateGraphError = cond b (Err (DependencyOrder (crate_of (length sets)))) (Ok tt) in answer) ≡ Err error
        → transitive_of lists ≡ Err error
    go true s e =
        let same : DependencyOrder (crate_of (length sets)) ≡ error = cc in
        ap (λ (o : Option Crate). given o (transitive_below (crates_at lists) (length lists)))
        (first_late-some (crates_at lists) (length lists) (length sets) are.ordered (ap (has_late (length sets)) now ∙ s) lt)
        ∙ ap Err same
    go false s e = absurd cc
