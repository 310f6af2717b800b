-- The item on which the helper comes into scope is noted.
use Rattle.std.proofs.Common.{refl, subst}
use Rattle.hir_collector_state.specs.contracts.def_collector.DefCollector.{the_view}
use Rattle.hir_collector_rules.specs.State.{Run}
use Rattle.hir_collector_state.specs.Waiting.{IsNoted}
use Rattle.hir_collector_state.proofs.Noted.{noted_helper}
use Rattle.hir_collector_state.proofs.def_collector.DefCollector.help.Goals as goal

pub returns-clause-noted : goal.returns-clause-noted
returns-clause-noted c =
    let before : Run = the_view c.self.inside in
    let after : Run = record before { map = c.add_derive_helper.new.self; changed = c.add_item.new.self } in
    subst (λ (r : Run). IsNoted r after) c.self.view_is (noted_helper before after c.args.node c.args.helper c.in_ok-add_derive_helper.ensures.ok refl
    c.in_ok-add_item.ensures.ok (refl, refl, refl))
