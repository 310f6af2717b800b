use Rattle.std.proofs.Common.{◌≡◌, map, take}
use Rattle.serde_json.specs.View.{view}
use Rattle.hir_wire.specs.Replies.{diagnostic_data}
use Rattle.hir_wire.proofs.write.diagnostic.diagnostics_list.Given as goal

-- the diagnostics so far
abbrev pub invariant-loop-diagnostic : goal.invariant-loop-diagnostic
invariant-loop-diagnostic l = map view l.values.items ≡ map diagnostic_data (take l.diagnostic-index l.diagnostics)
