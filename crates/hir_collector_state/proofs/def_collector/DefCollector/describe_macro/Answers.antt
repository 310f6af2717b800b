-- Paths don't read what is kept of a macro.
use Rattle.std.proofs.Common.{refl, subst}
use Rattle.hir_collector_state.specs.contracts.def_collector.DefCollector.{the_view}
use Rattle.hir_collector_rules.specs.State.{Run}
use Rattle.hir_collector_state.specs.Waiting.{IsNoted}
use Rattle.hir_collector_state.proofs.Noted.{noted_described}
use Rattle.hir_collector_state.proofs.def_collector.DefCollector.describe_macro.Goals as goal

pub returns-clause-noted : goal.returns-clause-noted
returns-clause-noted c =
    let before : Run = the_view c.self.inside in
    let after : Run = record before { map = c.add_macro_data.new.self } in
    subst (λ (r : Run). IsNoted r after) c.self.view_is (noted_described before after refl refl (refl, refl, refl) c.args.makro c.args.what
    c.in_ok-add_macro_data.ensures.ok)
