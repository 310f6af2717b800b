-- Where the keys of a list are among those of another and one more, it has at most one entry more.
use Rattle.std.specs.Prelude.{is_some}
use Rattle.std.specs.BTreeMap.{is_at}
use Rattle.std.specs.Cmp.{IsEquivalence, IsTotalOrder}
use Rattle.std.specs.List.{IsDistinct}
use Rattle.std.specs.List.Sorted.{IsStrictlySortedBy}
use Rattle.std.specs.Map.{keys_of, lookup}
use Rattle.std.specs.Ordering.{eq_by_cmp}
use Rattle.std.specs.Set.{is_member}
use Rattle.std.specs.declared.cmp.Ordering.{Ordering}
use Rattle.std.proofs.Common.{◌≡◌, ◌≢◌, ◌∙◌, ◌+◌, ◌≤◌, ◌||◌, Bool, true, false, List, [], ◌∷◌, ◌++◌, length, arith, refl, ap, sym, Option}
use Rattle.std.proofs.lemmas.Cmp.{eq_by_cmp_equiv}
use Rattle.std.proofs.lemmas.List.{length-append, length-map}
use Rattle.std.proofs.lemmas.List.Folds.{list_any-append}
use Rattle.std.proofs.lemmas.Map.Keys.{IsDistinct-from_sorted}
use Rattle.std.proofs.lemmas.Map.Made.{is_some-lookup, length-le_from_is_member}
use Rattle.hir_session_state.proofs.Truth.{clash, on_bool}

module _ {K : Type 0} (cmp : K → K → Ordering) (total : IsTotalOrder cmp) (exact : (x y : K) → is_at (cmp x) y ≡ true → x ≡ y) where
  abbrev same : K → K → Bool
  same = eq_by_cmp cmp

  laws : IsEquivalence same
  laws = eq_by_cmp_equiv total

  on_key : {A : Type 0} (k own : K) → (k ≡ own → A) → (k ≢ own → A) → A
  on_key k own f g = on_bool (same k own) (λ on. f (exact k own on)) (λ off. g (λ e. clash (laws.refl own) (sym (ap (λ (x : K). same x own) e) ∙ off)))

  -- ---- keys among others

  -- keys that differ, each of them one of these
  record AreAmong (xs ys : List K) : Type 0 where
    distinct : IsDistinct same xs
    among : (q : K) → is_member same xs q ≡ true → is_member same ys q ≡ true

  no_longer : (xs ys : List K) → AreAmong xs ys → length xs ≤ length ys
  no_longer xs ys h = length-le_from_is_member laws xs ys h.distinct h.among

  -- ---- entries

  module _ {X : Type 0} where
    abbrev found : List (K × X) → K → Option X
    found es k = lookup (is_at (cmp k)) es

    -- whether the list has a key
    abbrev has : List (K × X) → K → Bool
    has es k = is_some (found es k)

    member : (es : List (K × X)) (k : K) → is_member same (keys_of es) k ≡ has es k
    member es k = sym (is_some-lookup (is_at (cmp k)) es)

  -- where each key but one is one of others, there is at most one more
  module _ {X : Type 0} (some others : List (K × X)) (sorted : IsStrictlySortedBy cmp (keys_of some)) (own : K)
      (still : (k : K) → k ≢ own → has some k ≡ true → has others k ≡ true) where
    most_but_one : length (keys_of some) ≤ length (keys_of others) + 1
    most_but_one =
        let le = no_longer (keys_of some) (keys_of others ++ own ∷ []) (record {
          distinct = IsDistinct-from_sorted cmp (keys_of some) sorted;
          among = λ q there. list_any-append (same q) (keys_of others) (own ∷ []) ∙ on_key q own
              (λ is. last (is_member same (keys_of others) q) (same q own) (ap (λ (x : K). same x own) is ∙ laws.refl own))
              (λ ne. first (is_member same (keys_of others) q) (same q own || false) (member others q ∙ still q ne (sym (member some q) ∙ there)));
        }) in
        omega (arith, le, length-append (keys_of others) (own ∷ []))
      where
        first : (a b : Bool) → a ≡ true → (a || b) ≡ true
        first true b e = refl
        first false b e = clash e refl

        last : (a b : Bool) → b ≡ true → (a || (b || false)) ≡ true
        last true b e = refl
        last false true e = refl
        last false false e = e

    pub one_more_at_most : length some ≤ length others + 1
    one_more_at_most =
        let somes : length (keys_of some) ≡ length some = length-map some (λ (e : K × X). e.0) in
        let other : length (keys_of others) ≡ length others = length-map others (λ (e : K × X). e.0) in
        let most = most_but_one in
        omega (arith, somes, other, most)
