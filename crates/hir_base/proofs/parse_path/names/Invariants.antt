use Rattle.std.proofs.Common.{◌≡◌, ◌++◌, length, nat_lt, true, false}
use Rattle.std.specs.List.{list_all, list_any}
use Rattle.hir_ids.specs.Text.{nows}
use Rattle.hir_ids.specs.NameForm.{is_name, max_name}
use Rattle.hir_base.proofs.parse_path.names.Given as goal

abbrev pub invariant-names : goal.invariant-names
invariant-names l = record {
  same : l.names.items ++ nows l.left ≡ nows l.fn.segments;
  form : list_all is_name (nows l.left) ≡ true;
  size : list_any (λ segment. nat_lt max_name (length segment)) (nows l.left) ≡ false;
}

abbrev pub decreases-names : goal.decreases-names
decreases-names l = length l.left
