-- Modules stay as they are.
use Rattle.std.proofs.Common.{OnOk, refl, subst}
use Rattle.std.proofs.lemmas.Result.{on_ok_weaker}
use Rattle.hir_collector_state.specs.contracts.def_collector.DefCollector.{the_view}
use Rattle.hir_collector_rules.specs.State.{Run}
use Rattle.hir_collector_state.specs.Waiting.{IsNoted}
use Rattle.hir_collector_state.proofs.Noted.{noted_follow, noted_same}
use Rattle.hir_collector_state.proofs.def_collector.DefCollector.rest.Goals as goal

pub returns-clause-noted : goal.returns-clause-noted
returns-clause-noted c =
    let before : Run = the_view c.self.inside in
    let after : Run = record before { settled = c.len-there.result } in
    subst (λ (r : Run). OnOk c.tick.result (IsNoted r c.tick.new.self)) c.self.view_is
    (on_ok_weaker c.tick.result (noted_follow (noted_same before after refl refl refl (refl, refl, refl))) c.tick.ensures.noted)
