-- Each part is told in its order.
use Rattle.std.proofs.Common.{◌∙◌, ap}
use Rattle.hir_session_state.specs.HirNameres.DefMaps.{maps_of}
use Rattle.hir_session_state.specs.HirDefMapRules.Diagnostics.{diagnostic_view}
use Rattle.hir_session_answers.specs.Diagnostics.{diagnostic_source, diagnostics_in}
use Rattle.hir_session_answers.proofs.Diagnosing.{filter_mapped}
use Rattle.hir_session_answers.proofs.assoc_items.items_at.Goals as goal

pub returns : goal.returns
returns c =
    let maps = maps_of c.args.maps.now in
    let diagnostics = c.in_ok-diagnostics.ensures.value ∙ ap (diagnostics_in c.args.tables.now maps) c.as_slice.ensures.value
    ∙ filter_mapped diagnostic_view (diagnostic_source c.args.tables.now maps) c.args.diagnostics.now in
    record {
      value = λ i. record {
        items = (c.new.ensures.value ∙ c.in_ok-items.ensures.value) i;
        calls = (c.new-2.ensures.value ∙ c.in_ok-calls.ensures.value) i;
        diagnostics = (c.new-3.ensures.value ∙ diagnostics) i;
      };
    }
