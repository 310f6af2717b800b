-- The keys of the steps ask for what all keys do.
use Rattle.hir_session_state.proofs.Entering.{leaves_all}
use Rattle.hir_session_state.proofs.askers.Askers.leave.Goals as goal

pub returns : goal.returns
returns c = record {
  left = leaves_all c.args.tables.now c.args.self.now c.leave_each.new.self c.own.result.now c.args.asked.now c.args.id c.own.ensures.value
      c.leave_each.ensures.left;
}
