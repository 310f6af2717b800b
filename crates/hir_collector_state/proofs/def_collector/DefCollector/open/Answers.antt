-- No slot changes of a module that was there.
use Rattle.std.proofs.Common.{◌≡◌, ◌<◌, ◌+◌, ◌∙◌, Option, Some, ap, arith, length, refl, rules, subst, sym}
use Rattle.hir_collector_rules.specs.HirIds.declared.ids.ModuleId.{ModuleId}
use Rattle.hir_collector_rules.specs.HirDefMapRules.State.{Map, new_module}
use Rattle.hir_collector_rules.proofs.HirDefMapRules.StaysWellFormed.{length-made}
use Rattle.hir_collector_state.specs.contracts.def_collector.DefCollector.{the_view}
use Rattle.hir_collector_rules.specs.ItemIds.{module_id}
use Rattle.hir_collector_rules.specs.Moves.{begun}
use Rattle.hir_collector_rules.specs.State.{Run, core_in}
use Rattle.hir_collector_state.specs.Waiting.{IsNoted}
use Rattle.hir_collector_state.proofs.Noted.{noted_module}
use Rattle.hir_collector_state.proofs.def_collector.DefCollector.open.Goals as goal

pub take-requires : goal.take-requires
unfolding core_in
take-requires c =
    let longer : length c.add_module.new.self.modules ≡ length c.self.inside.map.modules + 1 =
    ap (λ (m : Map). length m.modules) c.in_ok-id.ensures.ok ∙ length-made c.self.inside.map c.args.home c.args.name _ in
    let last : c.in_ok-id.id.index ≡ length c.self.inside.map.modules = search (rules, c.in_ok-id.ensures.answer) in
    record { in_range = omega (arith, last, longer) }

pub returns-clause-noted : goal.returns-clause-noted
unfolding core_in
returns-clause-noted c =
    let before : Run = the_view c.self.inside in
    let after : Run = record before { map = c.take.new.map } in
    let parent : Option ModuleId = Some (module_id before.map c.args.home) in
    let last : c.in_ok-id.id.index ≡ length before.map.modules = search (rules, c.in_ok-id.ensures.answer) in
    let inside : c.args.home < length before.map.modules = subst (λ (r : Run). c.args.home < length (core_in r).map.modules) (sym c.self.view_is)
    c.requires.in_range in
    let map : after.map ≡ begun before.map c.args.home c.args.name (new_module c.args.origin c.args.visibility parent) =
    search (rules, last, c.in_ok-take.ensures.ok, c.in_ok-id.ensures.ok, c.new-module.ensures.value, c.module_id-parent.ensures.value) in
    subst (λ (r : Run). IsNoted r after) c.self.view_is (noted_module before after c.args.home c.args.name c.args.origin c.args.visibility parent refl inside
    map refl refl (refl, refl, refl))
