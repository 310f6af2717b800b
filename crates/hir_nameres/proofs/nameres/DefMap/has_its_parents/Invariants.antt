-- What is left decides.
use Rattle.std.proofs.Common.{◌≡◌, length}
use Rattle.std.specs.List.{list_all}
use Rattle.hir_def_map_rules.specs.State.{ModuleValue}
use Rattle.hir_def_map_rules.specs.References.{has_its_parents, is_parent_in}
use Rattle.hir_nameres.proofs.nameres.DefMap.has_its_parents.Given as goal

abbrev pub invariant-each : goal.invariant-each
invariant-each l = has_its_parents l.self ≡ list_all (λ (m : ModuleValue). is_parent_in l.self.id m.parent) l.left

abbrev pub decreases-each : goal.decreases-each
decreases-each l = length l.left
