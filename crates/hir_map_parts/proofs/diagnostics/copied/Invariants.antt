use Rattle.std.proofs.Common.{◌≡◌, map, take}
use Rattle.hir_map_parts.specs.Diagnostics.{diagnostic_view}
use Rattle.hir_map_parts.proofs.diagnostics.copied.Given as goal

abbrev pub invariant-loop-diagnostic : goal.invariant-loop-diagnostic
invariant-loop-diagnostic l = map diagnostic_view l.copy.items ≡ map diagnostic_view (take l.diagnostic-index l.diagnostics)
