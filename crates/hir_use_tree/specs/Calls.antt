-- Was a callback called at each import?
use Rattle.std.specs.Prelude.{◌≡◌, ◌⊎◌, ℕ, List, [], ◌∷◌, Option, Result, Ok, Err, alloc_error}
use Rattle.std.specs.declared.alloc.AllocError.{AllocError}
use Rattle.std.specs.List.{FoldsTo}
use Rattle.hir_base.specs.ModPath.{Path}
use Rattle.hir_use_tree.specs.declared.imports.ImportAlias.{ImportAlias}
use Rattle.hir_use_tree.specs.declared.imports.ImportKind.{ImportKind}
use Rattle.hir_use_tree.specs.Imports.{Import}

module _ {F : Type 0} (step : F → ℕ → Path → ImportKind → Option ImportAlias → Result (Unit {0}) AllocError → F → Type 0) where
  -- it was called at an import, and answered so
  abbrev pub Called : Result (Unit {0}) AllocError → F → Import → F → Type 0
  Called answer old i new = step old i.place i.path i.kind i.alias answer new

  -- it was called at each import, in order, and took each
  abbrev pub HandsOut : F → List Import → F → Type 0
  HandsOut old imports new = FoldsTo (Called (Ok tt)) old imports new

  -- it was called at a beginning of the imports, in order, and took each but perhaps the last, for which memory ran out
  abbrev pub HandsOutPartly : F → List Import → F → Type 0
  HandsOutPartly old [] new = new ≡ old
  HandsOutPartly old (i ∷ rest) new =
      (new ≡ old) ⊎ (Called (Err alloc_error) old i new ⊎ ((between : F) × Called (Ok tt) old i between × HandsOutPartly between rest new))
