-- What is left is still to be dropped.
use Rattle.std.proofs.Common.{◌≡◌}
use Rattle.std.specs.Vec.{vec_capacity, vec_len}
use Rattle.hir_session_state.proofs.Dropping.{IsDropping}
use Rattle.hir_session_state.proofs.kept.drop_runs.Given as goal

abbrev pub invariant-fall : goal.invariant-fall
invariant-fall l = record {
  dropping : IsDropping l.tables l.fn.fallen.items l.fallen.items l.fn.runs.by_place l.fn.askers l.runs.by_place l.askers;
  capacity : vec_capacity l.fallen ≡ vec_capacity l.fn.fallen;
}

abbrev pub decreases-fall : goal.decreases-fall
decreases-fall l = vec_len l.fallen
