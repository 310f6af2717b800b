-- Writing over an entry what it has leaves the entries as they are.
use Rattle.std.proofs.Common.{◌≡◌, ap, sym, refl, Bool, true, false, List, [], ◌∷◌, Some, cond, Result, Ok, Err, OnErr}
use Rattle.std.specs.Map.{lookup, set_value}

pub set_value-same : {K V : Type 0} (test : K → Bool) (es : List (K × V)) (v : V) → lookup test es ≡ Some v → set_value test es v ≡ es
set_value-same test [] v h = refl
set_value-same {K} {V} test (e ∷ es) v h = go (λ p. set_value-same test es v p) (test e.0) h
  where
    go : (lookup test es ≡ Some v → set_value test es v ≡ es) → (b : Bool) → cond b (Some e.1) (lookup test es) ≡ Some v
        → cond b ((e.0, v) ∷ es) (e ∷ set_value test es v) ≡ e ∷ es
    go rest true h' = let same : e.1 ≡ v = cc in λ i. (e.0, (sym same) i) ∷ es
    go rest false h' = ap (λ (xs : List (K × V)). e ∷ xs) (rest h')

-- what holds, holds on a refusal
pub on_err : {A E P : Type 0} (r : Result A E) → P → OnErr r P
on_err (Ok x) p = tt
on_err (Err e) p = p
