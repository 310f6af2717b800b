-- What was copied and what is left are all.
use Rattle.std.proofs.Common.{◌≡◌, ◌++◌, nat_eq, length}
use Rattle.std.specs.Cmp.Lexicographic.{pointwise}
use Rattle.std.specs.List.{IsDistinct}
use Rattle.std.specs.Map.{keys_of}
use Rattle.hir_map_parts.proofs.local_def_map.copied.Given as goal

abbrev pub invariant-next : goal.invariant-next
invariant-next l = IsDistinct (pointwise nat_eq) (keys_of l.entries.entries) × (l.copy.entries ++ l.left ≡ l.entries.entries)

abbrev pub decreases-next : goal.decreases-next
decreases-next l = length l.left
