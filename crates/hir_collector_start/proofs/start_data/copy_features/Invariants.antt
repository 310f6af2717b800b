-- What was copied and what is left are all.
use Rattle.std.proofs.Common.{◌≡◌, ◌++◌, length}
use Rattle.std.specs.Cmp.Lexicographic.{slice_cmp}
use Rattle.std.specs.List.Sorted.{IsStrictlySortedBy}
use Rattle.std.specs.Ordering.{nat_cmp}
use Rattle.hir_collector_start.proofs.start_data.copy_features.Given as goal

abbrev pub invariant-next : goal.invariant-next
invariant-next l =
    IsStrictlySortedBy (slice_cmp nat_cmp) l.features.keys × (l.crate_data.features ++ l.left ≡ l.features.keys)
    × (l.crate_data ≡ record l.initial.crate_data { features = l.crate_data.features })

abbrev pub decreases-next : goal.decreases-next
decreases-next l = length l.left
