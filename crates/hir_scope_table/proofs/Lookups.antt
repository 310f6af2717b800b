-- What look-ups find once an entry or a place was written or taken out.
use Rattle.std.proofs.Common.{◌≡◌, ◌∙◌, ap, sym, refl, true, false, Bool, ◌||◌, List, [], ◌∷◌, None, Some, cond}
use mathlib.Core.Bool.{true≢false}
use Rattle.std.specs.Option.{is_some}
use Rattle.std.specs.declared.cmp.Ordering.{Ordering}
use Rattle.std.specs.declared.cmp.Ordering.TheVariants.{Less, Equal, Greater}
use Rattle.std.specs.Cmp.{IsTotalOrder, IsEquivalence}
use Rattle.std.specs.Ordering.{is_eq, match_ordering, eq_by_cmp}
use Rattle.std.specs.BTreeMap.{is_at, insert_entry}
use Rattle.std.specs.BTreeSet.{insert_key}
use Rattle.std.specs.List.{list_any, AllByRecursion}
use Rattle.std.specs.List.Sorted.{IsStrictlySortedBy}
use Rattle.std.specs.Map.{lookup, set_value}
use Rattle.std.specs.Set.{remove_key}
use Rattle.std.proofs.lemmas.Cmp.{eq_by_cmp_equiv}
use Rattle.std.proofs.lemmas.Map.{lookup-set_value}
use Rattle.std.proofs.lemmas.Map.Keys.{sorted_head, sorted_tail}
use Rattle.hir_scope_table.specs.Entries.{has_key, with_entry, has_value}

or_apart : (a b : Bool) → a ≡ false → (a || b) ≡ b
or_apart true b e = absurd (true≢false e)
or_apart false b e = refl

module _ {K : Type 0} (cmp : K → K → Ordering) (total : IsTotalOrder cmp) where
  laws : IsEquivalence (eq_by_cmp cmp)
  laws = eq_by_cmp_equiv total

  -- an entry that is put in is found at its key, and the others as before
  lookup-insert_entry : {V : Type 0} (es : List (K × V)) (k : K) (v : V) (q : K) → has_key cmp es k ≡ false
      → lookup (is_at (cmp q)) (insert_entry cmp es k v) ≡ cond (is_eq (cmp k q)) (Some v) (lookup (is_at (cmp q)) es)
  lookup-insert_entry [] k v q h = ap (λ (b : Bool). cond b (Some v) None) (laws.symm q k)
  lookup-insert_entry {V} (e ∷ es) k v q h = go (λ p. lookup-insert_entry es k v q p) (cmp k e.0) refl h
    where
      go : (has_key cmp es k ≡ false → lookup (is_at (cmp q)) (insert_entry cmp es k v) ≡ cond (is_eq (cmp k q)) (Some v) (lookup (is_at (cmp q)) es))
          → (o : Ordering) → cmp k e.0 ≡ o → is_some (cond (is_eq o) (Some e.1) (lookup (is_at (cmp k)) es)) ≡ false
          → lookup (is_at (cmp q)) (match_ordering o ((k, v) ∷ e ∷ es) ((e.0, v) ∷ es) (e ∷ insert_entry cmp es k v))
          ≡ cond (is_eq (cmp k q)) (Some v) (cond (is_eq (cmp q e.0)) (Some e.1) (lookup (is_at (cmp q)) es))
      go rest Less is absent = ap (λ (b : Bool). cond b (Some v) (cond (is_eq (cmp q e.0)) (Some e.1) (lookup (is_at (cmp q)) es))) (laws.symm q k)
      go rest Equal is absent = absurd (true≢false absent)
      go rest Greater is absent = on (is_eq (cmp k q)) refl
        where
          on : (b : Bool) → is_eq (cmp k q) ≡ b
              → cond (is_eq (cmp q e.0)) (Some e.1) (lookup (is_at (cmp q)) (insert_entry cmp es k v))
              ≡ cond (is_eq (cmp k q)) (Some v) (cond (is_eq (cmp q e.0)) (Some e.1) (lookup (is_at (cmp q)) es))
          on true at =
              let apart : is_eq (cmp q e.0) ≡ false = sym (laws.congr k q e.0 at) ∙ ap is_eq is in
              let found : lookup (is_at (cmp q)) (insert_entry cmp es k v)
              ≡ Some v = rest absent ∙ ap (λ (b : Bool). cond b (Some v) (lookup (is_at (cmp q)) es)) at in
              rw (at, apart) found
          on false at =
              let found : lookup (is_at (cmp q)) (insert_entry cmp es k v) ≡ lookup (is_at (cmp q)) es = rest absent ∙ ap
              (λ (b : Bool). cond b (Some v) (lookup (is_at (cmp q)) es)) at in
              rw (at, found) refl

  pub lookup-with_entry : {V : Type 0} (es : List (K × V)) (k : K) (v : V) (q : K)
      → lookup (is_at (cmp q)) (with_entry cmp es k v) ≡ cond (is_eq (cmp k q)) (Some v) (lookup (is_at (cmp q)) es)
  lookup-with_entry {V} es k v q = go (has_key cmp es k) refl
    where
      go : (b : Bool) → has_key cmp es k ≡ b
          → lookup (is_at (cmp q)) (cond b (set_value (is_at (cmp k)) es v) (insert_entry cmp es k v)) ≡ cond (is_eq (cmp k q)) (Some v)
          (lookup (is_at (cmp q)) es)
      go true h = lookup-set_value {eq = eq_by_cmp cmp} laws (is_at (cmp k)) (λ x y at. laws.congr k x y at) q v es h
      go false h = lookup-insert_entry es k v q h

  -- keys that are equal to one are found where it is
  any_alike : (ks : List K) (p q : K) → is_eq (cmp p q) ≡ true → list_any (is_at (cmp p)) ks ≡ list_any (is_at (cmp q)) ks
  any_alike [] p q at = refl
  any_alike (x ∷ xs) p q at = let same : is_eq (cmp p x) ≡ is_eq (cmp q x) = laws.congr p q x at in λ i. same i || any_alike xs p q at i

  -- a key that is put in is found, and the others as before
  has_value-insert_key : (ks : List K) (k q : K) → has_value cmp ks k ≡ false
      → has_value cmp (insert_key cmp ks k) q ≡ cond (is_eq (cmp k q)) true (has_value cmp ks q)
  has_value-insert_key [] k q h = on (is_eq (cmp k q)) (laws.symm q k)
    where
      on : (b : Bool) → is_eq (cmp q k) ≡ b → (is_eq (cmp q k) || false) ≡ cond b true false
      on true at = rw at refl
      on false at = rw at refl
  has_value-insert_key (x ∷ xs) k q h = go (λ p. has_value-insert_key xs k q p) (cmp k x) refl h
    where
      go : (has_value cmp xs k ≡ false → has_value cmp (insert_key cmp xs k) q ≡ cond (is_eq (cmp k q)) true (has_value cmp xs q))
          → (o : Ordering) → cmp k x ≡ o → (is_eq o || list_any (is_at (cmp k)) xs) ≡ false
          → list_any (is_at (cmp q)) (match_ordering o (k ∷ x ∷ xs) (x ∷ xs) (x ∷ insert_key cmp xs k))
          ≡ cond (is_eq (cmp k q)) true (is_eq (cmp q x) || list_any (is_at (cmp q)) xs)
      go rest Less is absent = on (is_eq (cmp k q)) (laws.symm q k)
        where
          on : (b : Bool) → is_eq (cmp q k) ≡ b
              → (is_eq (cmp q k) || (is_eq (cmp q x) || list_any (is_at (cmp q)) xs)) ≡ cond b true (is_eq (cmp q x) || list_any (is_at (cmp q)) xs)
          on true at = rw at refl
          on false at = rw at refl
      go rest Equal is absent = absurd (true≢false absent)
      go rest Greater is absent = on (is_eq (cmp q x)) (is_eq (cmp k q)) (rest absent)
        where
          on : (a b : Bool) → list_any (is_at (cmp q)) (insert_key cmp xs k) ≡ cond b true (list_any (is_at (cmp q)) xs)
              → (a || list_any (is_at (cmp q)) (insert_key cmp xs k)) ≡ cond b true (a || list_any (is_at (cmp q)) xs)
          on true true e = refl
          on true false e = refl
          on false true e = e
          on false false e = e

  pub has_value-with_key : (ks : List K) (k q : K)
      → has_value cmp (cond (has_value cmp ks k) ks (insert_key cmp ks k)) q ≡ cond (is_eq (cmp k q)) true (has_value cmp ks q)
  has_value-with_key ks k q = go (has_value cmp ks k) refl
    where
      go : (b : Bool) → has_value cmp ks k ≡ b
          → has_value cmp (cond b ks (insert_key cmp ks k)) q ≡ cond (is_eq (cmp k q)) true (has_value cmp ks q)
      go true h = on (is_eq (cmp k q)) refl
        where
          on : (b : Bool) → is_eq (cmp k q) ≡ b → has_value cmp ks q ≡ cond b true (has_value cmp ks q)
          on true at = sym (any_alike ks k q at) ∙ h
          on false at = refl
      go false h = has_value-insert_key ks k q h

  -- no key after one that is below all of them is equal to it
  none_after : (xs : List K) (x q : K) → is_eq (cmp x q) ≡ true → AllByRecursion (λ y. cmp x y ≡ Less) xs → list_any (is_at (cmp q)) xs ≡ false
  none_after [] x q at below = refl
  none_after (y ∷ ys) x q at below =
      let apart : is_eq (cmp q y) ≡ false = sym (laws.congr x q y at) ∙ ap is_eq below.0 in
      or_apart (is_eq (cmp q y)) (list_any (is_at (cmp q)) ys) apart ∙ none_after ys x q at below.1

  -- a key that is taken out isn't found, and the others are as before
  pub has_value-remove_key : (ks : List K) (k q : K) → IsStrictlySortedBy cmp ks
      → has_value cmp (remove_key (is_at (cmp k)) ks) q ≡ cond (is_eq (cmp k q)) false (has_value cmp ks q)
  has_value-remove_key [] k q sorted = on (is_eq (cmp k q))
    where
      on : (b : Bool) → false ≡ cond b false false
      on true = refl
      on false = refl
  has_value-remove_key (x ∷ xs) k q sorted = go (has_value-remove_key xs k q (sorted_tail cmp x xs sorted)) (is_eq (cmp k x)) (is_eq (cmp k q)) refl refl
    where
      go : has_value cmp (remove_key (is_at (cmp k)) xs) q ≡ cond (is_eq (cmp k q)) false (has_value cmp xs q)
          → (a b : Bool) → is_eq (cmp k x) ≡ a → is_eq (cmp k q) ≡ b
          → has_value cmp (cond a xs (x ∷ remove_key (is_at (cmp k)) xs)) q ≡ cond b false (is_eq (cmp q x) || list_any (is_at (cmp q)) xs)
      go rest true true at_x at_q =
          let same : is_eq (cmp x q) ≡ true = sym (laws.congr k x q at_x) ∙ at_q in
          none_after xs x q same (sorted_head cmp x xs sorted)
      go rest true false at_x at_q =
          let apart : is_eq (cmp q x) ≡ false = laws.symm q x ∙ sym (laws.congr k x q at_x) ∙ at_q in
          sym (or_apart (is_eq (cmp q x)) (list_any (is_at (cmp q)) xs) apart)
      go rest false true at_x at_q =
          let apart : is_eq (cmp q x) ≡ false = sym (laws.congr k q x at_q) ∙ at_x in
          or_apart (is_eq (cmp q x)) (list_any (is_at (cmp q)) (remove_key (is_at (cmp k)) xs)) apart ∙ rest ∙ ap
          (λ (b : Bool). cond b false (list_any (is_at (cmp q)) xs)) at_q
      go rest false false at_x at_q =
          let kept : list_any (is_at (cmp q)) (remove_key (is_at (cmp k)) xs) ≡ list_any (is_at (cmp q)) xs = rest ∙ ap
          (λ (b : Bool). cond b false (list_any (is_at (cmp q)) xs)) at_q in
          ap (λ (b : Bool). is_eq (cmp q x) || b) kept
