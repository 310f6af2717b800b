use Rattle.std.proofs.Common.{◌≡◌, length}
use Rattle.std.specs.List.{list_all}
use Rattle.hir_ids.specs.Text.{nows}
use Rattle.hir_ids.specs.NameForm.{is_name}
use Rattle.hir_base.proofs.parse_path.are_names.Given as goal

abbrev pub invariant-names : goal.invariant-names
invariant-names l = list_all is_name (nows l.left) ≡ list_all is_name (nows l.fn.segments)

abbrev pub decreases-names : goal.decreases-names
decreases-names l = length l.left
