-- The slot of the macro is noted.
use Rattle.std.proofs.Common.{refl, subst}
use Rattle.hir_collector_state.specs.contracts.def_collector.DefCollector.{the_view}
use Rattle.hir_collector_rules.specs.State.{Run}
use Rattle.hir_collector_state.specs.Waiting.{IsNoted}
use Rattle.hir_collector_state.proofs.Noted.{noted_textual}
use Rattle.hir_collector_state.proofs.def_collector.DefCollector.define_textual.Goals as goal

pub returns-clause-noted : goal.returns-clause-noted
returns-clause-noted c =
    let before : Run = the_view c.self.inside in
    let after : Run = record before { map = c.define.new.map; changed = c.add.new.self } in
    subst (λ (r : Run). IsNoted r after) c.self.view_is (noted_textual before after c.args.home c.args.name c.args.makro c.in_ok-define.ensures.ok refl
    c.in_ok-add.ensures.ok (refl, refl, refl))
