-- Calls of a callback, one after another.
use Rattle.std.proofs.Common.{ℕ, List, [], ◌∷◌, Option, Result, Ok, Err, refl, inl}
use Rattle.std.specs.declared.alloc.AllocError.{AllocError}
use Rattle.std.specs.Result.{OnErr}
use Rattle.hir_base.specs.ModPath.{Path}
use Rattle.hir_use_tree.specs.Types.{ImportAlias, ImportKind}
use Rattle.hir_use_tree.specs.Calls.{HandsOutPartly}
use Rattle.hir_use_tree.specs.Imports.{Import}

-- what holds anyway holds of a refusal
pub OnErr-always : {T E P : Type 0} (r : Result T E) → P → OnErr r P
OnErr-always (Ok x) p = tt
OnErr-always (Err e) p = p

module _ {F : Type 0} (step : F → ℕ → Path → ImportKind → Option ImportAlias → Result (Unit {0}) AllocError → F → Type 0) where
  -- no import at all is a beginning
  pub HandsOutPartly-none : (f : F) (imports : List Import) → HandsOutPartly step f imports f
  HandsOutPartly-none f [] = refl
  HandsOutPartly-none f (i ∷ rest) = inl refl
