-- The import comes behind the others.
use Rattle.std.proofs.Common.{refl, subst}
use Rattle.hir_collector_state.specs.contracts.def_collector.DefCollector.{the_view}
use Rattle.hir_collector_rules.specs.State.{Run}
use Rattle.hir_collector_state.specs.Waiting.{IsNoted}
use Rattle.hir_collector_state.proofs.Noted.{noted_reached}
use Rattle.hir_collector_state.proofs.def_collector.DefCollector.reach.Goals as goal

pub returns-clause-noted : goal.returns-clause-noted
returns-clause-noted c =
    let before : Run = the_view c.self.inside in
    let after : Run = record before { reached = c.push.new.self.items; taken = c.push-2.new.self.items } in
    subst (λ (r : Run). IsNoted r after) c.self.view_is (noted_reached before after c.args.import c.nothing-taken.result refl refl refl refl
    c.in_ok-push.ensures.items c.in_ok-push-2.ensures.items)
