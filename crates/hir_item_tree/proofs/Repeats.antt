-- Where no key stood before, no two are alike.
use Rattle.std.proofs.Common.{◌≡◌, Bool, true, false, ◌||◌, cond, List, [], ◌∷◌, ◌++◌, Option, Some, None, refl, sym, ◌∙◌}
use Rattle.std.specs.List.{list_any, AllByRecursion, IsDistinct}
use Rattle.std.proofs.lemmas.List.Folds.{list_any-append}
use Rattle.hir_item_tree.specs.SyntaxIds.{repeat_after}

none_after : {K : Type 0} (b : Bool) (k : K) (o : Option K) → cond b (Some k) o ≡ None → (b ≡ false) × (o ≡ None)
none_after true k o h = cc
none_after false k o h = (refl, h)

neither : (a b : Bool) → (a || b) ≡ false → (a ≡ false) × (b ≡ false)
neither true b h = cc
neither false b h = (refl, h)

module _ {K : Type 0} (eq : K → K → Bool) (symm : (x y : K) → eq x y ≡ eq y x) where
  earlier : (before ks : List K) (k : K) → AllByRecursion (λ j. list_any (eq j) (before ++ k ∷ []) ≡ false) ks
      → AllByRecursion (λ j. list_any (eq j) before ≡ false) ks × AllByRecursion (λ j. eq k j ≡ false) ks
  earlier before [] k h = (tt, tt)
  earlier before (j ∷ js) k h =
      let both = neither (list_any (eq j) before) (list_any (eq j) (k ∷ [])) (sym (list_any-append (eq j) before (k ∷ [])) ∙ h.0) in
      let rest = earlier before js k h.1 in
      ((both.0, rest.0), (symm k j ∙ (neither (eq j k) false both.1).0, rest.1))

  fresh : (before ks : List K) → repeat_after eq before ks ≡ None → AllByRecursion (λ j. list_any (eq j) before ≡ false) ks × IsDistinct eq ks
  unfolding IsDistinct
  fresh before [] h = (tt, tt)
  fresh before (k ∷ ks) h =
      let here = none_after (list_any (eq k) before) k (repeat_after eq (before ++ k ∷ []) ks) h in
      let more = fresh (before ++ k ∷ []) ks here.1 in
      let apart = earlier before ks k more.0 in
      ((here.0, apart.0), (apart.1, more.1))

  pub IsDistinct-from_no_repeat : (ks : List K) → repeat_after eq [] ks ≡ None → IsDistinct eq ks
  IsDistinct-from_no_repeat ks h = (fresh [] ks h).1
