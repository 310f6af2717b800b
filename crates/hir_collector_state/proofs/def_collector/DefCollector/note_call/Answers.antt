-- What is noted isn't read by paths.
use Rattle.std.proofs.Common.{refl, subst}
use Rattle.hir_collector_state.specs.contracts.def_collector.DefCollector.{the_view}
use Rattle.hir_collector_rules.specs.Invocations.{invocation_of}
use Rattle.hir_collector_rules.specs.State.{Run}
use Rattle.hir_collector_state.specs.Waiting.{IsNoted}
use Rattle.hir_collector_state.proofs.Noted.{noted_invocation}
use Rattle.hir_collector_state.proofs.def_collector.DefCollector.note_call.Goals as goal

pub returns-clause-noted : goal.returns-clause-noted
returns-clause-noted c =
    let before : Run = the_view c.self.inside in
    let after : Run = record before { map = c.note_in_module.new.map } in
    subst (λ (r : Run). IsNoted r after) c.self.view_is (noted_invocation before after refl refl (refl, refl, refl) c.args.call.now.site.home
    (invocation_of c.args.call.now c.args.id) c.in_ok-note_in_module.ensures.ok)
