-- What reading the parts of a path does, one step at a time.
use Rattle.std.proofs.Common.{◌≡◌, ℕ, List, [], ◌∷◌, ◌++◌, refl, ap}
use Rattle.std.proofs.lemmas.List.{append_assoc}
use Rattle.std.specs.Prelude.{Option, Some, None}
use Rattle.std.specs.Option.{option_map}

-- parts that were read before what is left gives
abbrev pub after : List (List ℕ) → Option (List (List ℕ)) → Option (List (List ℕ))
after before None = None
after before (Some rest) = Some (before ++ rest)

-- nothing was read yet
pub after-nil : (rest : Option (List (List ℕ))) → after [] rest ≡ rest
after-nil None = refl
after-nil (Some rest) = refl

-- one more part was read
pub after-push : (before : List (List ℕ)) (part : List ℕ) (rest : Option (List (List ℕ)))
    → after (before ++ part ∷ []) rest ≡ after before (option_map (λ parts. part ∷ parts) rest)
after-push before part None = refl
after-push before part (Some rest) = ap Some (append_assoc before (part ∷ []) rest)

pub ruleset read_so_far = (after-nil, after-push)
