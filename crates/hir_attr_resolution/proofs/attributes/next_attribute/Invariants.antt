use Rattle.std.proofs.Common.{◌≡◌, ◌≤◌, ◌-◌, drop, length, map}
use Rattle.hir_collector_state.specs.HirItemTree.Collected.{numbered}
use Rattle.hir_collector_state.specs.HirCollectorRules.Attributes.{first_looked_up, next_among}
use Rattle.hir_attr_resolution.proofs.attributes.next_attribute.Given as goal

-- those before this place are passed
abbrev pub invariant-loop-at : goal.invariant-loop-at
invariant-loop-at l = record {
  behind : l.fn.done ≤ l.at;
  same : first_looked_up l.map l.node l.at (drop l.at (map numbered l.attrs)) ≡ next_among l.map l.node l.fn.done (map numbered l.attrs);
}

abbrev pub decreases-loop-at : goal.decreases-loop-at
decreases-loop-at l = length l.attrs - l.at
