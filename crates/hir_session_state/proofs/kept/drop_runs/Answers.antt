-- Each place that is taken from those that are left is dropped.
use Rattle.std.proofs.Common.{◌∙◌, refl}
use Rattle.hir_session_state.proofs.Dropping.{dropping-end, dropping-start, dropping-step}
use Rattle.hir_session_state.proofs.kept.drop_runs.Goals as goal

pub fall-init : goal.fall-init
fall-init c = record { dropping = dropping-start c.args.tables.now c.args.fallen.now.items c.args.runs.now.by_place c.args.askers.now; capacity = refl }

pub fall-preserved : goal.fall-preserved
fall-preserved c = record {
  dropping =
      dropping-step c.args.tables.now c.args.fallen.now.items c.fall.fallen.items c.pop.new.self.items c.args.runs.now.by_place c.fall.runs.by_place
      c.drop_run.new.runs.by_place
      c.args.askers.now c.fall.askers c.drop_run.new.askers c.in-Some.id c.in-Some.ensures.items c.fall.invariant.dropping
      c.drop_run.ensures.runs.0 c.drop_run.ensures.left;
  capacity = c.pop.ensures.capacity ∙ c.fall.invariant.capacity;
}
