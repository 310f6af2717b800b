use Rattle.std.proofs.Common.{◌≡◌, length, nat_lt}
use Rattle.std.specs.List.{list_any}
use Rattle.hir_ids.specs.Text.{nows}
use Rattle.hir_ids.specs.NameForm.{max_name}
use Rattle.hir_base.proofs.parse_path.has_long_name.Given as goal

abbrev pub invariant-names : goal.invariant-names
invariant-names l =
    list_any (λ segment. nat_lt max_name (length segment)) (nows l.left) ≡ list_any (λ segment. nat_lt max_name (length segment)) (nows l.fn.segments)

abbrev pub decreases-names : goal.decreases-names
decreases-names l = length l.left
