-- What is left decides.
use Rattle.std.proofs.Common.{◌≡◌, length}
use Rattle.std.specs.List.{list_all}
use Rattle.hir_def_map_rules.specs.HirIds.declared.ids.EnumId.{EnumId}
use Rattle.hir_def_map_rules.specs.State.{Variants}
use Rattle.hir_def_map_rules.specs.References.{are_variants_of, has_its_variants}
use Rattle.hir_nameres.proofs.nameres.DefMap.has_its_variants.Given as goal

abbrev pub invariant-each : goal.invariant-each
invariant-each l = has_its_variants l.self ≡ list_all (λ (e : EnumId × Variants). are_variants_of e.0 e.1) l.left

abbrev pub decreases-each : goal.decreases-each
decreases-each l = length l.left
