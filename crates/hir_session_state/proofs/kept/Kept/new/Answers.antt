-- Where no map is, nothing is kept, and none can fall.
use Rattle.std.proofs.Common.{arith}
use Rattle.hir_session_state.proofs.KeptLemmas.{no_entries, none_kept}
use Rattle.hir_session_state.proofs.kept.Kept.new.Goals as goal

pub invariant_of-result : goal.invariant_of-result
invariant_of-result c =
    let none = no_entries c.new.result.maps c.new.ensures.value in
    record { none = c.new-3.ensures.items; room = omega (arith, none) }

pub returns : goal.returns
returns c = record { none = none_kept c.new.result.maps c.new-2.result.by_place c.new.ensures.value }
