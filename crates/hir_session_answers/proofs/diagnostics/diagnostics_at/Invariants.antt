use Rattle.std.proofs.Common.{◌≡◌, take}
use Rattle.hir_session_state.specs.HirNameres.DefMaps.{maps_of}
use Rattle.hir_session_answers.specs.Diagnostics.{diagnostics_in}
use Rattle.hir_session_answers.proofs.diagnostics.diagnostics_at.Given as goal

abbrev pub invariant-loop-diagnostic : goal.invariant-loop-diagnostic
invariant-loop-diagnostic l = l.told.items ≡ diagnostics_in l.tables (maps_of l.maps) (take l.diagnostic-index l.found)
