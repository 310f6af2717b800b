-- Paths don't read diagnostics.
use Rattle.std.proofs.Common.{refl, subst}
use Rattle.hir_collector_state.specs.contracts.def_collector.DefCollector.{the_view}
use Rattle.hir_collector_rules.specs.State.{Run}
use Rattle.hir_collector_state.specs.Waiting.{IsNoted}
use Rattle.hir_collector_state.proofs.Noted.{noted_told}
use Rattle.hir_collector_state.proofs.def_collector.DefCollector.tell.Goals as goal

pub returns-clause-noted : goal.returns-clause-noted
returns-clause-noted c =
    let before : Run = the_view c.self.inside in
    let after : Run = record before { map = c.add_diagnostic.new.self } in
    subst (λ (r : Run). IsNoted r after) c.self.view_is (noted_told before after refl refl (refl, refl, refl) c.args.report c.in_ok-add_diagnostic.ensures.ok)
