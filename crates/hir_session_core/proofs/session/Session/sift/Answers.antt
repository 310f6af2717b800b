-- It is put among them where it waits.
use Rattle.hir_session_core.specs.Progress.IsSifted.{put}
use Rattle.hir_session_core.proofs.session.Session.sift.Goals as goal

pub returns-in_ok-insert : goal.returns-in_ok-insert
returns-in_ok-insert c = record { ok = put (c.is_pending.ensures.on c.if-is_pending.true) c.in_ok-insert.ensures.keys }
