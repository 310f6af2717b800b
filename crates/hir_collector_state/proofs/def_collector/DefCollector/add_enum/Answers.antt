-- No macro lies behind an enum.
use Rattle.std.proofs.Common.{refl, subst}
use Rattle.hir_collector_state.specs.contracts.def_collector.DefCollector.{the_view}
use Rattle.hir_collector_rules.specs.State.{Run}
use Rattle.hir_collector_state.specs.Waiting.{IsNoted}
use Rattle.hir_collector_state.proofs.Noted.{noted_variants}
use Rattle.hir_collector_state.proofs.def_collector.DefCollector.add_enum.Goals as goal

pub returns-clause-noted : goal.returns-clause-noted
returns-clause-noted c =
    let before : Run = the_view c.self.inside in
    let after : Run = record before { map = c.add_enum.new.self; asked = c.push.new.self.items; changed = c.note_variants.new.changed } in
    subst (λ (r : Run). IsNoted r after) c.self.view_is
    (noted_variants before after refl (refl, refl, refl) c.args.id c.args.variants c.in_ok-add_enum.ensures.ok c.note_variants.ensures.fresh
    c.note_variants.ensures.again)
