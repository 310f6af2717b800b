-- What is left decides.
use Rattle.std.proofs.Common.{◌≡◌}
use Rattle.hir_def_map_rules.specs.Ancestors.{leads_to_root, own_frame}
use Rattle.hir_def_map_rules.specs.References.{all_below, each_leads_to_root}
use Rattle.hir_nameres.proofs.nameres.DefMap.each_leads_to_root.Given as goal

abbrev pub invariant-each : goal.invariant-each
invariant-each l = each_leads_to_root l.self ≡ all_below (leads_to_root (own_frame l.self)) l.left

abbrev pub decreases-each : goal.decreases-each
decreases-each l = l.left
