-- To meet a macro is noted, and the step.
use Rattle.hir_mod_collector.proofs.HirCollectorState.Noted.{noted_follow}
use Rattle.hir_macro_rounds.proofs.calls.wait_for_paths.Goals as goal

pub returns-clause-noted : goal.returns-clause-noted
returns-clause-noted c = noted_follow c.in_ok-meet_eager.ensures.noted c.in_ok-tick.ensures.noted
