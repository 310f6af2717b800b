use Rattle.std.proofs.Common.{◌≡◌, drop, map}
use Rattle.hir_collector_state.specs.HirItemTree.Collected.{numbered}
use Rattle.hir_collector_state.specs.HirCollectorRules.Attributes.{first_derive}
use Rattle.hir_collector_items.proofs.exports.first_derive.Given as goal

-- those that are left name what all do
abbrev pub invariant-loop-attr : goal.invariant-loop-attr
invariant-loop-attr l = first_derive (map numbered (drop l.attr-index l.attrs)) ≡ first_derive (map numbered l.attrs)
