-- The next diagnostic is told where it has a source.
use Rattle.std.proofs.Common.{◌<◌, ◌∙◌, sym, length, arith}
use Rattle.hir_session_state.specs.HirNameres.DefMaps.{maps_of}
use Rattle.hir_session_state.specs.HirDefMapRules.Diagnostics.{diagnostic_view}
use Rattle.hir_session_state.specs.HirMapParts.declared.diagnostics.DefDiagnostic.{DefDiagnostic}
use Rattle.hir_session_answers.specs.Diagnostics.{diagnostic_source}
use Rattle.hir_session_answers.proofs.Diagnosing.{none_more, some_more}
use Rattle.hir_session_answers.proofs.diagnostics.diagnostics_at.Goals as goal
use Rattle.hir_session_answers.proofs.diagnostics.diagnostics_at.Goals.{in-Some+in_ok-push, in_default}

pub loop-diagnostic-preserved : goal.loop-diagnostic-preserved
loop-diagnostic-preserved c =
    let within : c.loop-diagnostic.diagnostic-index < length c.args.found.now = omega (arith, c.loop-diagnostic-test.true) in
    elim c.match-branch-2.branch [
      | in-Some+in_ok-push w ↦
          rw (w.told-is, w.in_ok-push.ensures.items)
          (some_more (λ (d : DefDiagnostic). diagnostic_source c.args.tables.now (maps_of c.args.maps.now) (diagnostic_view d)) c.args.found.now
          c.loop-diagnostic.diagnostic-index
          c.diagnostic-item.result w.in-Some.next within c.diagnostic-item.is (sym c.in_ok-next.ensures.value ∙ w.in-Some.is) _ c.loop-diagnostic.invariant)
      | in_default w ↦
          rw w.told-is
          (none_more (λ (d : DefDiagnostic). diagnostic_source c.args.tables.now (maps_of c.args.maps.now) (diagnostic_view d)) c.args.found.now
          c.loop-diagnostic.diagnostic-index
          c.diagnostic-item.result within c.diagnostic-item.is (sym c.in_ok-next.ensures.value ∙ w.in_default.is) _ c.loop-diagnostic.invariant)
    ]
