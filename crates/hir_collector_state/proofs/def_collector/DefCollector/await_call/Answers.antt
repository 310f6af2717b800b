-- Modules stay as they are.
use Rattle.std.proofs.Common.{refl, subst}
use Rattle.hir_collector_state.specs.contracts.def_collector.DefCollector.{the_view}
use Rattle.hir_collector_rules.specs.State.{Run}
use Rattle.hir_collector_state.specs.Waiting.{IsNoted}
use Rattle.hir_collector_state.proofs.Noted.{noted_same}
use Rattle.hir_collector_state.proofs.def_collector.DefCollector.await_call.Goals as goal

pub returns-clause-noted : goal.returns-clause-noted
returns-clause-noted c =
    let before : Run = the_view c.self.inside in
    let after : Run = record before { calls = c.push.new.self.items; fates = c.push-2.new.self.items; eager = c.push-3.new.self.items } in
    subst (λ (r : Run). IsNoted r after) c.self.view_is (noted_same before after refl refl refl (refl, refl, refl))
