-- What folding and joining a file's segments do, one step at a time.
use Rattle.std.proofs.Common.{◌≡◌, ◌≤◌, ◌-◌, ℕ, List, [], ◌∷◌, ◌++◌, refl, ap, sym, length, take, drop, get_or, arith}
use Rattle.std.proofs.lemmas.List.{take_all}
use Rattle.std.specs.Borrow.{Bor}
use Rattle.hir_ids.specs.Text.{nows}
use Rattle.std.proofs.lemmas.List.{append-nil}
use Rattle.std.specs.Prelude.{None}
use Rattle.std.specs.List.{fold, join_with_byte}
use Rattle.hir_base.specs.ParseFile.{one_more}

-- each segment after the first, behind a slash
abbrev pub tail : List (List ℕ) → List ℕ
tail [] = []
tail (x ∷ xs) = 47 ∷ x ++ tail xs

-- the first segment and the others behind slashes
pub join_tail : (x : List ℕ) (xs : List (List ℕ)) → join_with_byte 47 (x ∷ xs) ≡ x ++ tail xs
join_tail x [] = sym (append-nil x)
join_tail x (y ∷ xs) = ap (λ rest. x ++ 47 ∷ rest) (join_tail y xs)

-- past the root nothing is left
pub fold_past_root : (segments : List (List ℕ)) → fold one_more None segments ≡ None
fold_past_root [] = refl
fold_past_root (x ∷ xs) = fold_past_root xs

-- the same of segments that are references into a text
pub first_and_tail : (segments : List (Bor (List ℕ))) (d : Bor (List ℕ)) → 1 ≤ length segments
    → (get_or segments 0 d).now ++ tail (nows (take (length segments - 1) (drop 1 segments))) ≡ join_with_byte 47 (nows segments)
first_and_tail [] d h = absurd (omega arith)
first_and_tail (x ∷ xs) d h =
    rw (take_all (length (x ∷ xs) - 1) xs (omega arith)) (sym (join_tail x.now (nows xs)))
