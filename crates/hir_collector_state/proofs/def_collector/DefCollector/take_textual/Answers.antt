-- All slots are noted, unless the module has these macros.
use Rattle.std.proofs.Common.{◌≡◌, rules, subst}
use Rattle.hir_collector_rules.specs.Macros.{textual_at, with_textual_scope}
use Rattle.hir_collector_state.specs.contracts.def_collector.DefCollector.{the_view}
use Rattle.hir_collector_rules.specs.State.{Run, core_in, with_map}
use Rattle.hir_collector_state.specs.Waiting.{IsNoted}
use Rattle.hir_collector_state.proofs.Noted.{noted_everything, noted_itself}
use Rattle.hir_collector_state.proofs.SameMacros.{taken_in_vain}
use Rattle.hir_collector_state.proofs.def_collector.DefCollector.take_textual.Goals as goal

pub returns-then-has_same_textual-clause-ok : goal.returns-then-has_same_textual-clause-ok
returns-then-has_same_textual-clause-ok c =
    let before : Run = the_view c.self.inside in
    subst (λ (r : Run). core_in r ≡ with_map (core_in r) (with_textual_scope (core_in r).map c.args.home (textual_at (core_in r).map c.args.from)))
    c.self.view_is
    (taken_in_vain before c.args.home c.args.from (c.has_same_textual.ensures.same (search (rules, c.if-has_same_textual.true))))

pub returns-clause-noted : goal.returns-clause-noted
returns-clause-noted c =
    let before : Run = the_view c.self.inside in
    let after : Run = record before { map = c.take.new.map; changed = c.add_everything.new.self } in
    subst (λ (r : Run). IsNoted r after) c.self.view_is (noted_everything before after c.add_everything.ensures.value)

pub returns-then-has_same_textual-clause-noted : goal.returns-then-has_same_textual-clause-noted
returns-then-has_same_textual-clause-noted c = noted_itself c.args.self.now
