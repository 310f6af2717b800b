-- The diagnostics that were told so far.
use Rattle.std.proofs.Common.{◌≡◌, ◌∙◌, ap, sym, refl, append-nil, ℕ, ◌+◌, ◌<◌, List, [], ◌∷◌, ◌++◌, length, map, take, get_or, Option, Some, None}
use Rattle.std.proofs.lemmas.List.{take_more}
use Rattle.std.proofs.lemmas.List.Elements.{filter_map-append}
use Rattle.std.specs.List.{cons_option, filter_map}

-- what something gives of what each is seen as
pub filter_mapped : {X Y Z : Type 0} (seen : X → Y) (f : Y → Option Z) (xs : List X) → filter_map (λ x. f (seen x)) xs ≡ filter_map f (map seen xs)
filter_mapped seen f [] = refl
filter_mapped seen f (x ∷ xs) = ap (cons_option (f (seen x))) (filter_mapped seen f xs)

module _ {X Y : Type 0} (f : X → Option Y) where
  single : (z : X) (y : Y) → f z ≡ Some y → filter_map f (z ∷ []) ≡ y ∷ []
  single z y is = rw is refl

  nothing : (z : X) → f z ≡ None → filter_map f (z ∷ []) ≡ []
  nothing z is = rw is refl

  one_more : (xs : List X) (k : ℕ) (x : X) → k < length xs → filter_map f (take (k + 1) xs) ≡ filter_map f (take k xs) ++ filter_map f (get_or xs k x ∷ [])
  one_more xs k x lt = ap (λ (zs : List X). filter_map f zs) (take_more xs k x lt) ∙ filter_map-append f (take k xs) (get_or xs k x ∷ [])

  -- the next gives something
  pub some_next : (xs : List X) (k : ℕ) (x : X) (y : Y) → k < length xs → f (get_or xs k x) ≡ Some y → (ys : List Y) → ys ≡ filter_map f (take k xs)
      → ys ++ y ∷ [] ≡ filter_map f (take (k + 1) xs)
  some_next xs k x y lt is ys so_far =
      ap (λ (zs : List Y). zs ++ y ∷ []) so_far
      ∙ ap (λ (zs : List Y). filter_map f (take k xs) ++ zs) (sym (single (get_or xs k x) y is)) ∙ sym (one_more xs k x lt)

  pub some_more : (xs : List X) (k : ℕ) (x : X) (y : Y) → k < length xs → x ≡ get_or xs k x → f x ≡ Some y → (ys : List Y) → ys ≡ filter_map f (take k xs)
      → ys ++ y ∷ [] ≡ filter_map f (take (k + 1) xs)
  some_more xs k x y lt e is ys so_far = some_next xs k x y lt (ap f (sym e) ∙ is) ys so_far

  -- or nothing
  pub none_next : (xs : List X) (k : ℕ) (x : X) → k < length xs → f (get_or xs k x) ≡ None → (ys : List Y) → ys ≡ filter_map f (take k xs)
      → ys ≡ filter_map f (take (k + 1) xs)
  none_next xs k x lt is ys so_far =
      so_far ∙ sym (append-nil (filter_map f (take k xs)))
      ∙ ap (λ (zs : List Y). filter_map f (take k xs) ++ zs) (sym (nothing (get_or xs k x) is)) ∙ sym (one_more xs k x lt)

  pub none_more : (xs : List X) (k : ℕ) (x : X) → k < length xs → x ≡ get_or xs k x → f x ≡ None → (ys : List Y) → ys ≡ filter_map f (take k xs)
      → ys ≡ filter_map f (take (k + 1) xs)
  none_more xs k x lt e is ys so_far = none_next xs k x lt (ap f (sym e) ∙ is) ys so_far
