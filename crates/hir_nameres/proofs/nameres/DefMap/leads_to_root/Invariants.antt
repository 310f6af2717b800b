-- What is left to climb ends where all of it does.
use Rattle.std.proofs.Common.{◌≡◌}
use Rattle.hir_def_map_rules.specs.Ancestors.{ends_within, leads_to_root, own_frame, parent_number}
use Rattle.hir_nameres.proofs.nameres.DefMap.leads_to_root.Given as goal

abbrev pub invariant-up : goal.invariant-up
invariant-up l = leads_to_root (own_frame l.self) l.fn.at ≡ ends_within (parent_number (own_frame l.self)) l.left l.now

abbrev pub decreases-up : goal.decreases-up
decreases-up l = l.left
