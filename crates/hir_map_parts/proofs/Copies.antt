-- A copy that is made in the order of the keys has the same keys in the same order.
use Rattle.std.specs.Prelude.{◌≡◌, Bool, true, false, cond, List, [], ◌∷◌, ◌++◌}
use Rattle.std.specs.BTreeMap.{insert_entry}
use Rattle.std.specs.BTreeSet.{insert_key}
use Rattle.std.specs.Cmp.{IsEquivalence, IsTotalOrder}
use Rattle.std.specs.List.{AllByRecursion, IsDistinct}
use Rattle.std.specs.List.Sorted.{IsStrictlySortedBy}
use Rattle.std.specs.Map.{keys_of}
use Rattle.indexmap.specs.IndexMap.{insert_entry as insert_last}
use Rattle.std.specs.Ordering.{match_ordering, ordering_reverse}
use Rattle.std.specs.declared.cmp.Ordering.{Ordering}
use Rattle.std.specs.declared.cmp.Ordering.TheVariants.{Less}
use Rattle.std.proofs.Common.{refl, ap, sym, subst, ◌∙◌}

module _ {K : Type 0} (cmp : K → K → Ordering) (total : IsTotalOrder cmp) where
  above : (x k : K) (xs rest : List K) → AllByRecursion (λ y. cmp x y ≡ Less) (xs ++ k ∷ rest) → cmp x k ≡ Less
  above x k [] rest a = a.0
  above x k (y ∷ xs) rest a = above x k xs rest a.1

  -- a key that comes after all others goes behind them
  key_behind : (xs rest : List K) (k : K) → IsStrictlySortedBy cmp (xs ++ k ∷ rest) → insert_key cmp xs k ≡ xs ++ k ∷ []
  unfolding IsStrictlySortedBy
  key_behind [] rest k s = refl
  key_behind (x ∷ xs) rest k s =
      ap (λ (o : Ordering). match_ordering o (k ∷ x ∷ xs) (x ∷ xs) (x ∷ insert_key cmp xs k)) (total.antisymm k x ∙ ap ordering_reverse (above x k xs rest s.0))
      ∙ ap (λ (ks : List K). x ∷ ks) (key_behind xs rest k s.1)

  pub key_copied : (all made left rest new : List K) (k : K) → IsStrictlySortedBy cmp all → made ++ left ≡ all → left ≡ k ∷ rest → new ≡ insert_key cmp made k
      → new ++ rest ≡ all
  key_copied all made left rest new k s half taken is =
      let whole : made ++ k ∷ rest ≡ all = ap (λ (ks : List K). made ++ ks) (sym taken) ∙ half in
      ap (λ (ks : List K). ks ++ rest) (is ∙ key_behind made rest k (subst (IsStrictlySortedBy cmp) (sym whole) s)) ∙ shift made ∙ whole
    where
      shift : (xs : List K) → (xs ++ k ∷ []) ++ rest ≡ xs ++ k ∷ rest
      shift [] = refl
      shift (x ∷ xs) = ap (λ (ks : List K). x ∷ ks) (shift xs)

  module _ {V : Type 0} where
    keys_split : (es : List (K × V)) (e : K × V) (rest : List (K × V)) → keys_of (es ++ e ∷ rest) ≡ keys_of es ++ e.0 ∷ keys_of rest
    keys_split [] e rest = refl
    keys_split (x ∷ es) e rest = ap (λ (ks : List K). x.0 ∷ ks) (keys_split es e rest)

    entry_behind : (es : List (K × V)) (rest : List K) (k : K) (v : V) → IsStrictlySortedBy cmp (keys_of es ++ k ∷ rest) → insert_entry cmp es k v
        ≡ es ++ (k, v) ∷ []
    unfolding IsStrictlySortedBy
    entry_behind [] rest k v s = refl
    entry_behind (e ∷ es) rest k v s =
        ap (λ (o : Ordering). match_ordering o ((k, v) ∷ e ∷ es) ((e.0, v) ∷ es) (e ∷ insert_entry cmp es k v))
        (total.antisymm k e.0 ∙ ap ordering_reverse (above e.0 k (keys_of es) rest s.0))
        ∙ ap (λ (xs : List (K × V)). e ∷ xs) (entry_behind es rest k v s.1)

    pub entry_copied : (all made left rest new : List (K × V)) (k : K) (v : V) → IsStrictlySortedBy cmp (keys_of all) → made ++ left ≡ all → left
        ≡ (k, v) ∷ rest
        → new ≡ insert_entry cmp made k v → new ++ rest ≡ all
    entry_copied all made left rest new k v s half taken is =
        let whole : made ++ (k, v) ∷ rest ≡ all = ap (λ (es : List (K × V)). made ++ es) (sym taken) ∙ half in
        ap (λ (es : List (K × V)). es ++ rest)
        (is ∙ entry_behind made (keys_of rest) k v (subst (IsStrictlySortedBy cmp) (ap keys_of (sym whole) ∙ keys_split made (k, v) rest) s))
        ∙ shift made ∙ whole
      where
        shift : (xs : List (K × V)) → (xs ++ (k, v) ∷ []) ++ rest ≡ xs ++ (k, v) ∷ rest
        shift [] = refl
        shift (x ∷ xs) = ap (λ (es : List (K × V)). x ∷ es) (shift xs)

-- ---- copies in the order of insertion

module _ {K : Type 0} (eq : K → K → Bool) (laws : IsEquivalence eq) where
  last_in : (e : K) (ks rest : List K) (k : K) → AllByRecursion (λ y. eq e y ≡ false) (ks ++ k ∷ rest) → eq k e ≡ false
  last_in e [] rest k all = laws.symm k e ∙ all.0
  last_in e (x ∷ ks) rest k all = last_in e ks rest k all.1

  module _ {V : Type 0} where
    -- a key that is none of the others goes behind them
    last_behind : (es : List (K × V)) (rest : List K) (k : K) (v : V) → IsDistinct eq (keys_of es ++ k ∷ rest) → insert_last eq es k v ≡ es ++ (k, v) ∷ []
    unfolding IsDistinct
    last_behind [] rest k v d = refl
    last_behind (e ∷ es) rest k v d =
        ap (λ (b : Bool). cond b ((e.0, v) ∷ es) (e ∷ insert_last eq es k v)) (last_in e.0 (keys_of es) rest k d.0)
        ∙ ap (λ (xs : List (K × V)). e ∷ xs) (last_behind es rest k v d.1)

    keys_apart : (es : List (K × V)) (e : K × V) (rest : List (K × V)) → keys_of (es ++ e ∷ rest) ≡ keys_of es ++ e.0 ∷ keys_of rest
    keys_apart [] e rest = refl
    keys_apart (x ∷ es) e rest = ap (λ (ks : List K). x.0 ∷ ks) (keys_apart es e rest)

    pub last_copied : (all made left rest new : List (K × V)) (k : K) (v : V) → IsDistinct eq (keys_of all) → made ++ left ≡ all → left ≡ (k, v) ∷ rest
        → new ≡ insert_last eq made k v → new ++ rest ≡ all
    last_copied all made left rest new k v d half taken is =
        let whole : made ++ (k, v) ∷ rest ≡ all = ap (λ (es : List (K × V)). made ++ es) (sym taken) ∙ half in
        ap (λ (es : List (K × V)). es ++ rest)
        (is ∙ last_behind made (keys_of rest) k v (subst (IsDistinct eq) (ap keys_of (sym whole) ∙ keys_apart made (k, v) rest) d))
        ∙ shift made ∙ whole
      where
        shift : (xs : List (K × V)) → (xs ++ (k, v) ∷ []) ++ rest ≡ xs ++ (k, v) ∷ rest
        shift [] = refl
        shift (x ∷ xs) = ap (λ (es : List (K × V)). x ∷ es) (shift xs)
