use Rattle.std.proofs.Common.{◌≡◌, ◌+◌, ◌<◌, ◌^◌, length}
use Rattle.hir_ids.specs.Text.{nows}
use Rattle.hir_base.specs.ParsePath.{climb}
use Rattle.hir_base.proofs.parse_path.climb.Given as goal

abbrev pub invariant-levels : goal.invariant-levels
invariant-levels l = record {
  same : climb l.levels (nows l.left) ≡ climb l.fn.start (nows l.fn.parts);
  room : l.levels + length l.left < 2 ^ 64;
}

abbrev pub decreases-levels : goal.decreases-levels
decreases-levels l = length l.left
