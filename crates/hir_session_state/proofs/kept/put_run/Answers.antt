-- Where its run isn't kept, the place is taken out again.
use Rattle.std.proofs.Common.{subst}
use Rattle.hir_session_state.specs.Askers.{Leaves}
use Rattle.hir_session_state.specs.Types.{KeptRun}
use Rattle.hir_session_state.proofs.Entering.{entered_part, rolled_back}
use Rattle.hir_session_state.proofs.kept.put_run.Goals as goal

pub returns-in-Err-clause-same : goal.returns-in-Err-clause-same
returns-in-Err-clause-same c =
    rolled_back c.args.tables.now c.args.askers.now c.enter.new.self c.leave.new.self c.args.run.asked c.args.id c.requires.fresh
    (entered_part c.args.tables.now c.args.askers.now c.enter.new.self c.args.run.asked c.args.id c.in_ok-enter.ensures.ok)
    (subst (λ (run : KeptRun). Leaves c.args.tables.now c.enter.new.self c.leave.new.self run.asked c.args.id) c.in-Err.ensures.returned
    c.leave.ensures.left)
