use Rattle.std.proofs.Common.{◌≡◌, take}
use Rattle.hir_base.proofs.mod_path.ModPath.clone.Given as goal

abbrev pub invariant-loop-segment : goal.invariant-loop-segment
invariant-loop-segment l = l.segments.items ≡ take l.segment-index l.segment-items
