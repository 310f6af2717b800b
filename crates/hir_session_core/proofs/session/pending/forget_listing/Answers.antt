-- The list was empty.
use Rattle.hir_session_core.proofs.Awaiting.{fallen_listed}
use Rattle.hir_session_core.proofs.session.pending.forget_listing.Goals as goal

pub returns : goal.returns
returns c = record {
  forgotten = c.forget.ensures.forgotten;
  exact = c.forget.ensures.exact;
  fell = fallen_listed c.args.kept.now c.forget.new.self c.list_if-fell.result c.forget.new.fell c.list_if-fell.ensures.empty c.forget.ensures.listed;
}
