use Rattle.std.proofs.Common.{◌≡◌, length}
use Rattle.hir_ids.specs.Text.{nows}
use Rattle.hir_base.specs.ParsePath.{parts_of_pieces, parts}
use Rattle.hir_base.proofs.PathLemmas.{after}
use Rattle.hir_base.proofs.parse_path.parts.Given as goal

abbrev pub invariant-pairs : goal.invariant-pairs
invariant-pairs l = after (nows l.parts.items) (parts_of_pieces (nows l.left)) ≡ parts l.fn.text

abbrev pub decreases-pairs : goal.decreases-pairs
decreases-pairs l = length l.left
