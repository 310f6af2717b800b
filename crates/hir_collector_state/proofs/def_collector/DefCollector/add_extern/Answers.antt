-- The slot of the crate's name in the preludes is noted.
use Rattle.std.proofs.Common.{refl, subst}
use Rattle.hir_collector_state.specs.contracts.def_collector.DefCollector.{the_view}
use Rattle.hir_collector_rules.specs.State.{Run}
use Rattle.hir_collector_state.specs.Waiting.{IsNoted}
use Rattle.hir_collector_state.proofs.Noted.{noted_extern}
use Rattle.hir_collector_state.proofs.def_collector.DefCollector.add_extern.Goals as goal

pub returns-clause-noted : goal.returns-clause-noted
returns-clause-noted c =
    let before : Run = the_view c.self.inside in
    let after : Run = record before { local = c.add_extern.new.self; changed = c.add_prelude.new.self } in
    subst (λ (r : Run). IsNoted r after) c.self.view_is (noted_extern before after _ _ refl c.in_ok-add_extern.ensures.ok c.in_ok-add_prelude.ensures.ok
    (refl, refl, refl))
