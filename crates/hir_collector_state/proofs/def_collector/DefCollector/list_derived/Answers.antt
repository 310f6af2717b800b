-- What is listed isn't read by paths.
use Rattle.std.proofs.Common.{refl, subst}
use Rattle.hir_collector_state.specs.contracts.def_collector.DefCollector.{the_view}
use Rattle.hir_collector_rules.specs.State.{Run}
use Rattle.hir_collector_state.specs.Waiting.{IsNoted}
use Rattle.hir_collector_state.proofs.Noted.{noted_derived}
use Rattle.hir_collector_state.proofs.def_collector.DefCollector.list_derived.Goals as goal

pub returns-clause-noted : goal.returns-clause-noted
returns-clause-noted c =
    let before : Run = the_view c.self.inside in
    let after : Run = record before { map = c.list_in_scope.new.map } in
    subst (λ (r : Run). IsNoted r after) c.self.view_is (noted_derived before after refl refl (refl, refl, refl) c.args.home c.args.imp
    c.in_ok-list_in_scope.ensures.ok)
