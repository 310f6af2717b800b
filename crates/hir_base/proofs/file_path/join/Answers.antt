-- The first segment stands alone so far, and the others follow behind slashes.
use Rattle.hir_base.proofs.FileLemmas.{first_and_tail}
use Rattle.hir_base.proofs.file_path.join.Goals as goal

pub rest-init : goal.rest-init
rest-init c =
    rw c.in_ok-text.ensures.ok (first_and_tail c.args.segments.now _ c.in-len1-up.len_at_least)
