-- What is noted isn't read by paths.
use Rattle.std.proofs.Common.{◌∙◌, List, Option, ap, refl, subst}
use Rattle.hir_collector_rules.specs.HirScope.Scope.{DeriveCall}
use Rattle.hir_collector_state.specs.contracts.def_collector.DefCollector.{the_view}
use Rattle.hir_collector_rules.specs.Invocations.{derive_met, of_derive, with_noted}
use Rattle.hir_collector_rules.specs.State.{Run}
use Rattle.hir_collector_state.specs.Waiting.{IsNoted}
use Rattle.hir_collector_state.proofs.Noted.{noted_invocation}
use Rattle.hir_collector_state.proofs.def_collector.DefCollector.note_derive.Goals as goal

pub returns-clause-noted : goal.returns-clause-noted
returns-clause-noted c =
    let before : Run = the_view c.self.inside in
    let after : Run = record before { map = c.note_derive_in_module.new.map } in
    subst (λ (r : Run). IsNoted r after) c.self.view_is (noted_invocation before after refl refl (refl, refl, refl) c.args.home
    (derive_met c.args.item c.args.attr c.args.call c.args.paths.now)
    (c.in_ok-note_derive_in_module.ensures.ok ∙ ap (λ (slots : List (Option DeriveCall)). with_noted before.map c.args.home
    (of_derive c.args.item (record { attr_id = c.args.attr; attr_call_id = c.args.call; derive_call_ids = slots }))) c.in_ok-slots.ensures.value))
