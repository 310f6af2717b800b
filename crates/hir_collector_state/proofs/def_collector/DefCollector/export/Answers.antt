-- Paths don't read which function exports a macro.
use Rattle.std.proofs.Common.{refl, subst}
use Rattle.hir_collector_state.specs.contracts.def_collector.DefCollector.{the_view}
use Rattle.hir_collector_rules.specs.State.{Run}
use Rattle.hir_collector_state.specs.Waiting.{IsNoted}
use Rattle.hir_collector_state.proofs.Noted.{noted_exported}
use Rattle.hir_collector_state.proofs.def_collector.DefCollector.export.Goals as goal

pub returns-clause-noted : goal.returns-clause-noted
returns-clause-noted c =
    let before : Run = the_view c.self.inside in
    let after : Run = record before { map = c.export_proc_macro.new.self; exported = c.push.new.self.items } in
    subst (λ (r : Run). IsNoted r after) c.self.view_is (noted_exported before after refl refl (refl, refl, refl) c.args.function.id c.args.makro
    c.in_ok-export_proc_macro.ensures.ok)
