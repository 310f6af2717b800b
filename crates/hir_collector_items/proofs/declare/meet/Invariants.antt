use Rattle.std.proofs.Common.{◌≡◌, drop, map}
use Rattle.hir_collector_state.specs.HirNameres.WorldParts.{part_of}
use Rattle.hir_collector_state.specs.HirCollectorRules.Items.{meet_of}
use Rattle.hir_collector_state.specs.HirImportRules.Visibilities.{visibility_in}
use Rattle.hir_collector_state.specs.HirCollectorRules.State.{core_in}
use Rattle.hir_collector_items.proofs.declare.meet.Given as goal

abbrev pub invariant-loop-other : goal.invariant-loop-other
invariant-loop-other l =
    meet_of (part_of l.world) (core_in l.run).map l.fn.own (map (visibility_in (part_of l.world) (core_in l.run).local (core_in l.run).map l.at) l.others)
    ≡ meet_of (part_of l.world) (core_in l.run).map l.least (map (visibility_in (part_of l.world) (core_in l.run).local (core_in l.run).map l.at)
    (drop l.other-index l.others))
