use Rattle.std.proofs.Common.{◌≡◌, ℕ, ◌<◌, Some}
use Rattle.hir_nameres.specs.HirIds.declared.ids.TraitId.{TraitId}
use Rattle.hir_def_map_rules.specs.State.{module_at}
use Rattle.hir_nameres.specs.HirPerNs.declared.visibility.Visibility.{Visibility}
use Rattle.hir_import_rules.specs.Lasting.{IsPlaced}
use Rattle.hir_import_rules.specs.Names.{trait_vis}
use Rattle.hir_import_resolution.proofs.lasting.have_traits_placed.Given as goal

-- those of the modules before this one can
abbrev pub invariant-loop-at : goal.invariant-loop-at
invariant-loop-at l = (k : ℕ) → k < l.at → (id : TraitId) (vis : Visibility) → trait_vis (module_at l.map k) id ≡ Some vis → IsPlaced l.map vis
