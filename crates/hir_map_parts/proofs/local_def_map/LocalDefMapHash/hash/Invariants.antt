-- What is fed and what is left are all.
use Rattle.std.proofs.Common.{◌≡◌, fold, length}
use Rattle.std.specs.List.{flat_map}
use Rattle.hir_map_parts.specs.Inner.LocalHash.{fed_entry}
use Rattle.hir_map_parts.proofs.local_def_map.LocalDefMapHash.hash.Given as goal

abbrev pub invariant-next : goal.invariant-next
invariant-next g l = fold g.H.Hasher.write l.state (flat_map fed_entry l.left) ≡ fold g.H.Hasher.write l.initial.state (flat_map fed_entry l.initial.left)

abbrev pub decreases-next : goal.decreases-next
decreases-next g l = length l.left
