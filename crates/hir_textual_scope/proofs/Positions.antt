-- Which macro around one stands at a position.
use Rattle.std.proofs.Common.{◌≡◌, ℕ, Bool, ◌&&◌, zero, suc, ◌+◌, ◌<◌, List, [], ◌∷◌, ◌++◌, length, drop, true, false, Option, Some, None, Bor, refl, sym, ap}
use Rattle.std.proofs.Common.{◌∙◌, add-one, drop_of_length-le, arith}
use Rattle.std.specs.List.{slice_get}
use Rattle.std.specs.Option.{option_copied, option_eq}
use Rattle.std.specs.Cmp.Lexicographic.{pointwise}
use Rattle.std.specs.Iterator.{YieldsFirstRef}
use Rattle.hir_textual_scope.specs.Types.{TextualMacro}

pub slice_get-left : (l r : List TextualMacro) (i : ℕ) → i < length l → slice_get (l ++ r) i ≡ slice_get l i
slice_get-left [] r i h = absurd (omega arith)
slice_get-left (m ∷ l) r zero h = refl
slice_get-left (m ∷ l) r (suc i) h = slice_get-left l r i (omega arith)

pub slice_get-middle : (l : List TextualMacro) (m : TextualMacro) (r : List TextualMacro) (i : ℕ)
    → i ≡ length l → slice_get (l ++ m ∷ r) i ≡ Some m
slice_get-middle [] m r zero h = refl
slice_get-middle [] m r (suc i) h = absurd (omega arith)
slice_get-middle (n ∷ l) m r zero h = absurd (omega arith)
slice_get-middle (n ∷ l) m r (suc i) h = slice_get-middle l m r i (omega arith)

pub slice_get-right : (l : List TextualMacro) (m : TextualMacro) (r : List TextualMacro) (i j : ℕ)
    → i ≡ length l + j + 1 → slice_get (l ++ m ∷ r) i ≡ slice_get r j
slice_get-right [] m r i j h = let e : i ≡ suc j = omega arith in rw e refl
slice_get-right (n ∷ l) m r zero j h = absurd (omega arith)
slice_get-right (n ∷ l) m r (suc i) j h = slice_get-right l m r i j (omega arith)

-- the macro at a position is the first of those from there on
pub yields_at : (ms : List TextualMacro) (n : ℕ) (r : Option (Bor TextualMacro)) → n < length ms → option_copied r ≡ slice_get ms n
    → YieldsFirstRef (λ (left : List TextualMacro). left) (drop n ms) r (drop (suc n) ms)
yields_at [] n r h e = absurd (omega arith)
yields_at (m ∷ ms) zero None h e = cc
yields_at (m ∷ ms) zero (Some x) h e = cc
yields_at (m ∷ ms) (suc n) r h e = yields_at ms n r (omega arith) e

-- two lists from a position on: the macros there, and those behind
pub pointwise-drop : (same : TextualMacro → TextualMacro → Bool) (ms ns : List TextualMacro) (i : ℕ) → length ms ≡ length ns → i < length ms
    → pointwise same (drop i ms) (drop i ns) ≡ (option_eq same (slice_get ms i) (slice_get ns i) && pointwise same (drop (suc i) ms) (drop (suc i) ns))
pointwise-drop same [] ns i e h = absurd (omega arith)
pointwise-drop same (m ∷ ms) [] i e h = absurd (omega arith)
pointwise-drop same (m ∷ ms) (n ∷ ns) zero e h = refl
pointwise-drop same (m ∷ ms) (n ∷ ns) (suc i) e h = pointwise-drop same ms ns i (omega arith) (omega arith)

module _ (same : TextualMacro → TextualMacro → Bool) (ms ns : List TextualMacro) (long : length ms ≡ length ns) where
  -- where the macros at a position are the same, those behind it decide
  pub behind_decides : (i : ℕ) → i < length ms → option_eq same (slice_get ms i) (slice_get ns i) ≡ true
      → pointwise same (drop i ms) (drop i ns) ≡ pointwise same ms ns → pointwise same (drop (i + 1) ms) (drop (i + 1) ns) ≡ pointwise same ms ns
  behind_decides i h here all =
      rw add-one (sym (pointwise-drop same ms ns i long h ∙ ap (λ b. b && pointwise same (drop (suc i) ms) (drop (suc i) ns)) here) ∙ all)

  -- where they are not, the lists differ
  pub differs_here : (i : ℕ) → i < length ms → option_eq same (slice_get ms i) (slice_get ns i) ≡ false
      → pointwise same (drop i ms) (drop i ns) ≡ pointwise same ms ns → pointwise same ms ns ≡ false
  differs_here i h here all = sym all ∙ pointwise-drop same ms ns i long h ∙ ap (λ b. b && pointwise same (drop (suc i) ms) (drop (suc i) ns)) here

  -- nothing is left to differ
  pub none_differs : (i : ℕ) → i ≡ length ms → pointwise same (drop i ms) (drop i ns) ≡ pointwise same ms ns → pointwise same ms ns ≡ true
  none_differs i h all =
      let here : drop i ms ≡ [] = drop_of_length-le ms {i = i} (omega arith) in
      let beside : drop i ns ≡ [] = drop_of_length-le ns {i = i} (omega arith) in
      sym all ∙ (λ j. pointwise same (here j) (beside j))
