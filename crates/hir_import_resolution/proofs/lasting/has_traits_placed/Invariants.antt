use Rattle.std.proofs.Common.{◌≡◌, ◌⊎◌, Some}
use Rattle.std.specs.Prelude.{Contains}
use Rattle.hir_nameres.specs.HirIds.declared.ids.TraitId.{TraitId}
use Rattle.hir_def_map_rules.specs.State.{module_at}
use Rattle.hir_nameres.specs.HirPerNs.declared.visibility.Visibility.{Visibility}
use Rattle.hir_import_rules.specs.Lasting.{IsPlaced}
use Rattle.hir_import_rules.specs.Names.{trait_vis}
use Rattle.hir_import_resolution.proofs.lasting.has_traits_placed.Given as goal

-- each trait is left, or can be seen from modules that are there
abbrev pub invariant-next : goal.invariant-next
invariant-next l = (id : TraitId) (vis : Visibility) → trait_vis (module_at l.map l.at) id ≡ Some vis → Contains l.left id ⊎ IsPlaced l.map vis
