use Rattle.std.proofs.Common.{◌≡◌, drop}
use Rattle.hir_collector_state.specs.HirCollectorRules.Attributes.{is_among}
use Rattle.hir_attr_resolution.proofs.attributes.is_among.Given as goal

-- it is one of those that are left where it is one of all
abbrev pub invariant-loop-other : goal.invariant-loop-other
invariant-loop-other l = is_among (drop l.other-index l.names) l.name ≡ is_among l.names l.name
