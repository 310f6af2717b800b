use Rattle.std.proofs.Common.{◌≡◌, length}
use Rattle.std.specs.Prelude.{Some}
use Rattle.std.specs.List.{fold}
use Rattle.hir_ids.specs.Text.{nows}
use Rattle.hir_base.specs.ParseFile.{one_more, folded_segments}
use Rattle.hir_base.proofs.file_path.fold.Given as goal

abbrev pub invariant-pieces : goal.invariant-pieces
invariant-pieces l = fold one_more (Some (nows l.kept.items)) (nows l.left) ≡ folded_segments l.fn.text

abbrev pub decreases-pieces : goal.decreases-pieces
decreases-pieces l = length l.left
