-- What is listed isn't read by paths.
use Rattle.std.proofs.Common.{refl, subst}
use Rattle.hir_collector_rules.specs.HirDefMapRules.declared.declaration.Declaration.TheVariants as declaration
use Rattle.hir_collector_state.specs.contracts.def_collector.DefCollector.{the_view}
use Rattle.hir_collector_rules.specs.State.{Run}
use Rattle.hir_collector_state.specs.Waiting.{IsNoted}
use Rattle.hir_collector_state.proofs.Noted.{noted_list}
use Rattle.hir_collector_state.proofs.def_collector.DefCollector.list_unnamed_const.Goals as goal

pub returns-clause-noted : goal.returns-clause-noted
returns-clause-noted c =
    let before : Run = the_view c.self.inside in
    let after : Run = record before { map = c.define_unnamed_const.new.self } in
    subst (λ (r : Run). IsNoted r after) c.self.view_is (noted_list before after c.args.home (declaration.UnnamedConst c.args.id)
    c.in_ok-define_unnamed_const.ensures.ok refl refl (refl, refl, refl))
