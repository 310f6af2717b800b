-- A walk that gives the first of what is left at each step gives all of it.
use Rattle.std.proofs.Common.{◌≡◌, refl, sym, ◌∙◌, List, [], ◌∷◌}
use Rattle.std.specs.Iterator.{AlwaysYields, YieldsFirstBy}
use Rattle.hir_scope.specs.Laws.{GivesItsList}

module _ {S A B : Type 0} (shown : A → B) (left : S → List B) where
  gives_all : (xs : List B) (s : S) → left s ≡ xs → AlwaysYields (YieldsFirstBy shown left) shown s xs
  gives_all [] s e = λ x j h. let f : [] ≡ shown x ∷ left j = sym e ∙ h in cc
  gives_all (y ∷ ys) s e = (
    (λ j h. let f : y ∷ ys ≡ [] = sym e ∙ h.0 in cc),
    (λ x j h. let f : y ∷ ys ≡ shown x ∷ left j = sym e ∙ h in let there : left j ≡ ys = cc in (cc, gives_all ys j there)),
  )

  pub gives_its_list : GivesItsList (YieldsFirstBy shown left) shown left
  gives_its_list = record { gives = λ s. gives_all (left s) s refl }
