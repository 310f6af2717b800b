-- One more is noted in each turn.
use Rattle.std.proofs.Common.{arith, refl}
use Rattle.std.proofs.lemmas.Grind.{common_steps}
use Rattle.hir_collector_state.proofs.Noted.{noted_follow, noted_itself}
use Rattle.hir_collector_macros.proofs.imports.reach_all.Goals as goal

pub loop-import-init : goal.loop-import-init
loop-import-init c = record { all = refl; noted = noted_itself c.args.run.now }

pub loop-import-preserved : goal.loop-import-preserved
loop-import-preserved c = record {
  all = grind (arith, common_steps, c.in_ok-reach.ensures.ok, c.loop-import.invariant.all);
  noted = noted_follow c.loop-import.invariant.noted c.in_ok-reach.ensures.noted;
}
