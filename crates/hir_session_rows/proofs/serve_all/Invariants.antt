use Rattle.std.proofs.Common.{length}
use Rattle.hir_session_rows.proofs.serve_all.Given as goal

-- so many bytes are left
abbrev pub decreases-next : goal.decreases-next
decreases-next g l = length l.rest
