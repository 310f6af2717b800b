-- What is found in lists of entries by exact keys, before a change and after it.
use Rattle.std.proofs.Common.{◌≡◌, Bool, true, false, cond, not, filter, map, Ordering, Less, Equal, Greater, List, [], ◌∷◌, Option, Some, None, option_map}
use Rattle.std.proofs.Common.{refl, sym, ap, ◌∙◌}
use Rattle.std.specs.Ordering.{match_ordering, is_eq}
use Rattle.std.specs.BTreeMap.{insert_entry, is_at}
use Rattle.std.specs.Cmp.{IsTotalOrder}
use Rattle.std.specs.List.Sorted.{IsStrictlySortedBy}
use Rattle.std.specs.Map.{keys_of, lookup, set_value}
use Rattle.std.proofs.lemmas.Map.{lookup-none}
use Rattle.std.proofs.lemmas.Map.Entries.{none_below_head}
use Rattle.std.proofs.lemmas.Map.Keys.{sorted_tail}
use Rattle.hir_session_state.proofs.Truth.{clash, no_value, on_bool}

-- two keys are tied exactly where they are the same
pub record IsExact {K : Type 0} (cmp : K → K → Ordering) : Type 0 where
  pub same : (p q : K) → is_at (cmp p) q ≡ true → p ≡ q
  pub own : (p : K) → is_at (cmp p) p ≡ true

module _ {K : Type 0} (cmp : K → K → Ordering) (exact : IsExact cmp) where
  pub at_same : (p q : K) → p ≡ q → is_at (cmp p) q ≡ true
  at_same p q same = ap (λ (k : K). is_at (cmp p) k) (sym same) ∙ exact.own p

  -- which of two keys is named first is one to the test
  test-flip : (p q : K) → is_at (cmp p) q ≡ is_at (cmp q) p
  test-flip p q = on_bool (is_at (cmp p) q)
      (λ on. on ∙ sym (at_same q p (sym (exact.same p q on))))
      (λ off. on_bool (is_at (cmp q) p)
      (λ on. clash (at_same p q (sym (exact.same q p on))) off)
      (λ too. off ∙ sym too))

module _ {K X : Type 0} (cmp : K → K → Ordering) (exact : IsExact cmp) where
  -- what is set is there, and all else is as it was
  pub lookup-insert_entry : (es : List (K × X)) (k : K) (x : X) (q : K) → lookup (is_at (cmp q)) (insert_entry cmp es k x) ≡ cond (is_at (cmp k) q) (Some x)
      (lookup (is_at (cmp q)) es)
  lookup-insert_entry [] k x q = rw (test-flip cmp exact q k) refl
  lookup-insert_entry (e ∷ es) k x q = by (cmp k e.0) refl (lookup-insert_entry es k x q)
    where
      by : (r : Ordering) → cmp k e.0 ≡ r → lookup (is_at (cmp q)) (insert_entry cmp es k x) ≡ cond (is_at (cmp k) q) (Some x) (lookup (is_at (cmp q)) es)
          → lookup (is_at (cmp q)) (match_ordering r ((k, x) ∷ e ∷ es) ((e.0, x) ∷ es) (e ∷ insert_entry cmp es k x)) ≡ cond (is_at (cmp k) q) (Some x)
          (lookup (is_at (cmp q)) (e ∷ es))
      by Less p more = rw (test-flip cmp exact q k) refl
      by Equal p more =
          let same : k ≡ e.0 = exact.same k e.0 (ap is_eq p) in
          on_bool (is_at (cmp k) q)
          (λ on. let there : is_at (cmp q) e.0 ≡ true = at_same cmp exact q e.0 (sym (exact.same k q on) ∙ same) in rw (there, on) refl)
          (λ off. on_bool (is_at (cmp q) e.0)
          (λ there. clash (at_same cmp exact k q (same ∙ sym (exact.same q e.0 there))) off)
          (λ other. rw (other, off) refl))
      by Greater p more = on_bool (is_at (cmp k) q)
          (λ on. on_bool (is_at (cmp q) e.0)
          (λ there. clash (at_same cmp exact k e.0 (exact.same k q on ∙ exact.same q e.0 there)) (ap is_eq p))
          (λ other. rw (other, more, on) refl))
          (λ off. rw (more, off) refl)

  -- what is removed isn't there, and all else is as it was
  pub lookup-without : (es : List (K × X)) (k q : K) → lookup (is_at (cmp q)) (filter (λ (e : K × X). not (is_at (cmp k) e.0)) es)
      ≡ cond (is_at (cmp k) q) None (lookup (is_at (cmp q)) es)
  lookup-without [] k q = on_bool (is_at (cmp k) q) (λ on. rw on refl) (λ off. rw off refl)
  lookup-without (e ∷ es) k q = on_bool (is_at (cmp k) e.0)
      (λ gone. on_bool (is_at (cmp k) q)
      (λ on. rw (gone, lookup-without es k q, on) refl)
      (λ off. on_bool (is_at (cmp q) e.0)
      (λ there. clash (at_same cmp exact k q (exact.same k e.0 gone ∙ sym (exact.same q e.0 there))) off)
      (λ other. rw (gone, lookup-without es k q, off, other) refl)))
      (λ stays. on_bool (is_at (cmp q) e.0)
      (λ there. on_bool (is_at (cmp k) q)
      (λ on. clash (at_same cmp exact k e.0 (exact.same k q on ∙ exact.same q e.0 there)) stays)
      (λ off. rw (stays, there, off) refl))
      (λ other. rw (stays, other, lookup-without es k q) refl))

-- ---- entries under other keys that are compared alike

module _ {K L X : Type 0} (f : K → L) (cmp : K → K → Ordering) (other : L → L → Ordering) (alike : (a b : K) → cmp a b ≡ other (f a) (f b)) where
  abbrev pub renamed : List (K × X) → List (L × X)
  renamed es = map (λ e. (f e.0, e.1)) es

  pub lookup-renamed : (k : K) (es : List (K × X)) → lookup (is_at (cmp k)) es ≡ lookup (is_at (other (f k))) (renamed es)
  lookup-renamed k [] = refl
  lookup-renamed k (e ∷ es) =
      ap (λ (r : Ordering). cond (is_eq r) (Some e.1) (lookup (is_at (cmp k)) es)) (alike k e.0)
      ∙ ap (λ (rest : Option X). cond (is_at (other (f k)) (f e.0)) (Some e.1) rest) (lookup-renamed k es)

  pub renamed-insert_entry : (es : List (K × X)) (k : K) (x : X) → renamed (insert_entry cmp es k x) ≡ insert_entry other (renamed es) (f k) x
  renamed-insert_entry [] k x = refl
  renamed-insert_entry (e ∷ es) k x =
      by (cmp k e.0) (renamed-insert_entry es k x)
      ∙ ap (λ (r : Ordering). match_ordering r ((f k, x) ∷ (f e.0, e.1) ∷ renamed es) ((f e.0, x) ∷ renamed es)
      ((f e.0, e.1) ∷ insert_entry other (renamed es) (f k) x)) (alike k e.0)
    where
      by : (r : Ordering) → renamed (insert_entry cmp es k x) ≡ insert_entry other (renamed es) (f k) x
          → renamed (match_ordering r ((k, x) ∷ e ∷ es) ((e.0, x) ∷ es) (e ∷ insert_entry cmp es k x))
          ≡ match_ordering r ((f k, x) ∷ (f e.0, e.1) ∷ renamed es) ((f e.0, x) ∷ renamed es) ((f e.0, e.1) ∷ insert_entry other (renamed es) (f k) x)
      by Less more = refl
      by Equal more = refl
      by Greater more = ap (λ (rest : List (L × X)). (f e.0, e.1) ∷ rest) more

  pub renamed-without : (k : K) (es : List (K × X)) → renamed (filter (λ (e : K × X). not (is_at (cmp k) e.0)) es)
      ≡ filter (λ (e : L × X). not (is_at (other (f k)) e.0)) (renamed es)
  renamed-without k [] = refl
  renamed-without k (e ∷ es) = on_bool (is_at (cmp k) e.0)
      (λ on. let too : is_at (other (f k)) (f e.0) ≡ true = ap is_eq (sym (alike k e.0)) ∙ on in rw (on, too) (renamed-without k es))
      (λ off. let too : is_at (other (f k)) (f e.0) ≡ false = ap is_eq (sym (alike k e.0)) ∙ off in
      rw (off, too) (ap (λ (rest : List (L × X)). (f e.0, e.1) ∷ rest) (renamed-without k es)))

-- ---- entries that are found by what their keys are

module _ {K L X : Type 0} (f : K → L) (test : L → Bool) where
  abbrev keyed : List (K × X) → List (L × X)
  keyed es = map (λ e. (f e.0, e.1)) es

  pub lookup-keyed : (es : List (K × X)) → lookup (λ (k : K). test (f k)) es ≡ lookup test (keyed es)
  lookup-keyed [] = refl
  lookup-keyed (e ∷ es) = ap (λ (rest : Option X). cond (test (f e.0)) (Some e.1) rest) (lookup-keyed es)

  pub keyed-without : (es : List (K × X)) → keyed (filter (λ (e : K × X). not (test (f e.0))) es) ≡ filter (λ (e : L × X). not (test e.0)) (keyed es)
  keyed-without [] = refl
  keyed-without (e ∷ es) = on_bool (test (f e.0))
      (λ on. rw on (keyed-without es))
      (λ off. rw off (ap (λ (rest : List (L × X)). (f e.0, e.1) ∷ rest) (keyed-without es)))

-- ---- entries with other values

module _ {K X Y : Type 0} (g : X → Y) where
  abbrev pub valued : List (K × X) → List (K × Y)
  valued es = map (λ e. (e.0, g e.1)) es

  pub lookup-valued : (test : K → Bool) (es : List (K × X)) → lookup test (valued es) ≡ option_map g (lookup test es)
  lookup-valued test [] = refl
  lookup-valued test (e ∷ es) = on_bool (test e.0) (λ on. rw on refl) (λ off. rw off (lookup-valued test es))

  pub valued-insert_entry : (cmp : K → K → Ordering) (es : List (K × X)) (k : K) (x : X) → valued (insert_entry cmp es k x) ≡ insert_entry cmp (valued es) k
      (g x)
  valued-insert_entry cmp [] k x = refl
  valued-insert_entry cmp (e ∷ es) k x = by (cmp k e.0) (valued-insert_entry cmp es k x)
    where
      by : (r : Ordering) → valued (insert_entry cmp es k x) ≡ insert_entry cmp (valued es) k (g x)
          → valued (match_ordering r ((k, x) ∷ e ∷ es) ((e.0, x) ∷ es) (e ∷ insert_entry cmp es k x))
          ≡ match_ordering r ((k, g x) ∷ (e.0, g e.1) ∷ valued es) ((e.0, g x) ∷ valued es) ((e.0, g e.1) ∷ insert_entry cmp (valued es) k (g x))
      by Less more = refl
      by Equal more = refl
      by Greater more = ap (λ (rest : List (K × Y)). (e.0, g e.1) ∷ rest) more

  pub valued-without : (test : K → Bool) (es : List (K × X)) → valued (filter (λ (e : K × X). not (test e.0)) es) ≡ filter (λ (e : K × Y). not (test e.0))
      (valued es)
  valued-without test [] = refl
  valued-without test (e ∷ es) = on_bool (test e.0)
      (λ on. rw on (valued-without test es))
      (λ off. rw off (ap (λ (rest : List (K × Y)). (e.0, g e.1) ∷ rest) (valued-without test es)))

-- ---- a value that is put in place of another

module _ {K X : Type 0} (test : K → Bool) where
  -- where nothing is at the key all stays
  pub set_value-none : (es : List (K × X)) (x : X) → lookup test es ≡ None → set_value test es x ≡ es
  set_value-none [] x none = refl
  set_value-none (e ∷ es) x none = on_bool (test e.0)
      (λ on. no_value (sym none ∙ ap (λ (b : Bool). cond b (Some e.1) (lookup test es)) on))
      (λ off. rw off (ap (λ (rest : List (K × X)). e ∷ rest)
      (set_value-none es x (sym (ap (λ (b : Bool). cond b (Some e.1) (lookup test es)) off) ∙ none))))

module _ {K X : Type 0} (cmp : K → K → Ordering) (exact : IsExact cmp) where
  -- what is put in place of a value is there, and all else is as it was
  pub lookup-put : (es : List (K × X)) (k : K) (x : X) (q : K) → lookup (is_at (cmp q)) (set_value (is_at (cmp k)) es x)
      ≡ cond (is_at (cmp k) q) (option_map (λ _. x) (lookup (is_at (cmp q)) es)) (lookup (is_at (cmp q)) es)
  lookup-put [] k x q = on_bool (is_at (cmp k) q) (λ on. rw on refl) (λ off. rw off refl)
  lookup-put (e ∷ es) k x q = on_bool (is_at (cmp k) e.0)
      (λ here. on_bool (is_at (cmp k) q)
      (λ on.
      let there : is_at (cmp q) e.0 ≡ true = at_same cmp exact q e.0 (sym (exact.same k q on) ∙ exact.same k e.0 here) in rw (here, on, there) refl)
      (λ off. on_bool (is_at (cmp q) e.0)
      (λ there. clash (at_same cmp exact k q (exact.same k e.0 here ∙ sym (exact.same q e.0 there))) off)
      (λ other. rw (here, off, other) refl)))
      (λ past. on_bool (is_at (cmp q) e.0)
      (λ there. on_bool (is_at (cmp k) q)
      (λ on. clash (at_same cmp exact k e.0 (exact.same k q on ∙ exact.same q e.0 there)) past)
      (λ off. rw (past, there, off) refl))
      (λ other. rw (past, other) (lookup-put es k x q)))

module _ {K L X : Type 0} (f : K → L) (cmp : K → K → Ordering) (other : L → L → Ordering) (alike : (a b : K) → cmp a b ≡ other (f a) (f b)) where
  -- under other keys that are compared alike too
  pub renamed-put : (k : K) (es : List (K × X)) (x : X) → renamed f cmp other alike (set_value (is_at (cmp k)) es x)
      ≡ set_value (is_at (other (f k))) (renamed f cmp other alike es) x
  renamed-put k [] x = refl
  renamed-put k (e ∷ es) x = on_bool (is_at (cmp k) e.0)
      (λ on. let too : is_at (other (f k)) (f e.0) ≡ true = ap is_eq (sym (alike k e.0)) ∙ on in rw (on, too) refl)
      (λ off. let too : is_at (other (f k)) (f e.0) ≡ false = ap is_eq (sym (alike k e.0)) ∙ off in
      rw (off, too) (ap (λ (rest : List (L × X)). (f e.0, e.1) ∷ rest) (renamed-put k es x)))

-- ---- a value that is written over

module _ {K X : Type 0} (cmp : K → K → Ordering) (total : IsTotalOrder cmp) where
  -- what is set at a key that is there stands where that stood
  pub insert_entry-there : (es : List (K × X)) (k : K) (x w : X) → IsStrictlySortedBy cmp (keys_of es) → lookup (is_at (cmp k)) es ≡ Some w
      → insert_entry cmp es k x ≡ set_value (is_at (cmp k)) es x
  insert_entry-there [] k x w sorted found = no_value found
  insert_entry-there (e ∷ es) k x w sorted found = by (cmp k e.0) refl (λ more. insert_entry-there es k x w (sorted_tail cmp e.0 (keys_of es) sorted) more)
    where
      by : (r : Ordering) → cmp k e.0 ≡ r → (lookup (is_at (cmp k)) es ≡ Some w → insert_entry cmp es k x ≡ set_value (is_at (cmp k)) es x)
          → match_ordering r ((k, x) ∷ e ∷ es) ((e.0, x) ∷ es) (e ∷ insert_entry cmp es k x) ≡ cond (is_eq (cmp k e.0)) ((e.0, x) ∷ es)
          (e ∷ set_value (is_at (cmp k)) es x)
      by Less p more = no_value (sym (lookup-none (is_at (cmp k)) (e ∷ es) (none_below_head total k e es sorted p)) ∙ found)
      by Equal p more = rw p refl
      by Greater p more =
          let rest : lookup (is_at (cmp k)) es ≡ Some w = sym (ap (λ (r : Ordering). cond (is_eq r) (Some e.1) (lookup (is_at (cmp k)) es)) p) ∙ found in
          rw p (ap (λ (left : List (K × X)). e ∷ left) (more rest))
