-- At each key the place is taken out in its turn.
use Rattle.std.proofs.Common.{drop, ◌+◌}
use Rattle.std.proofs.lemmas.List.{drop_all, drop_more}
use Rattle.hir_session_state.proofs.Entering.{leaving-end, leaving-start, leaving-step}
use Rattle.hir_session_state.proofs.askers.Askers.leave_each.Goals as goal

pub loop-key-init : goal.loop-key-init
loop-key-init c = leaving-start c.args.tables.now c.args.self.now c.args.keys.now c.args.id

pub loop-key-preserved : goal.loop-key-preserved
loop-key-preserved c =
    leaving-step c.args.tables.now c.args.self.now c.loop-key.self c.leave_at.new.self c.args.keys.now (drop c.loop-key.key-index c.args.keys.now)
    (drop (c.loop-key.key-index + 1) c.args.keys.now) c.args.id _
    (drop_more c.args.keys.now c.loop-key.key-index _ c.loop-key-test.true) c.loop-key.invariant c.leave_at.ensures.left

pub returns : goal.returns
returns c = record {
  left =
      leaving-end c.args.tables.now c.args.self.now c.loop-key.self c.args.keys.now (drop c.loop-key.key-index c.args.keys.now) c.args.id
      (drop_all c.loop-key.key-index c.args.keys.now c.loop-key-test.false) c.loop-key.invariant;
}
