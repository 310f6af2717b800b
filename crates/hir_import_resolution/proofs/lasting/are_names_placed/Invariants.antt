use Rattle.std.proofs.Common.{◌≡◌, ℕ, ◌<◌, false, Some}
use Rattle.hir_def_map_rules.specs.State.{module_at}
use Rattle.hir_glob_imports.specs.Keys.{is_unnamed}
use Rattle.hir_glob_imports.specs.declared.edge.Bound.{Bound}
use Rattle.hir_glob_imports.specs.declared.edge.Key.{Key}
use Rattle.hir_import_growth.specs.ViewLaws.{bound_inside}
use Rattle.hir_import_rules.specs.Lasting.{IsPlaced}
use Rattle.hir_import_resolution.proofs.lasting.are_names_placed.Given as goal

-- those of the modules before this one do
abbrev pub invariant-loop-at : goal.invariant-loop-at
invariant-loop-at l = (k : ℕ) → k < l.at → (key : Key) (b : Bound) → is_unnamed key ≡ false → bound_inside key (module_at l.map k) ≡ Some b
    → IsPlaced l.map b.vis
