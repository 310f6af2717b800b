use Rattle.std.proofs.Common.{◌≡◌, ◌∙◌, refl, rules}
use Rattle.hir_collector_state.specs.HirCollectorRules.TreeReads.{head_of}
use Rattle.hir_collector_state.proofs.Made.{count_kept, defined_rules}
use Rattle.hir_collector_state.proofs.Noted.{noted_follow}
use Rattle.hir_collector_macros.proofs.macros.define_rules.Goals as goal
use Rattle.hir_collector_state.specs.HirCollectorRules.State.{core_in}

pub returns-in_err-tick-clause-many : goal.returns-in_err-tick-clause-many
returns-in_err-tick-clause-many c =
    let kept : (core_in c.report.new.run).count ≡ (core_in c.define_textual.new.self).count = count_kept _ _ _ c.in_ok-report.ensures.ok ∙ count_kept _ _ _
    c.in_ok-export.ensures.ok in
    λ many. search (
      rules,
      many,
      kept,
      c.in_err-tick.ensures.many,
      c.from_residual-in_err-tick.ensures,
      c.in_ok-define_textual.ensures.ok,
      c.in_ok-describe.ensures.ok,
      c.in_ok-define_macro.ensures.ok,
    )

pub returns-clause-ok : goal.returns-clause-ok
returns-clause-ok c = λ env finished. record {
  step = λ done passed rest.
      defined_rules (core_in c.args.run.now) (core_in c.define_textual.new.self) (core_in c.export.new.run) (core_in c.report.new.run) (core_in c.tick.new.self)
      c.args.site.now (head_of c.args.head) c.args.item.name.now c.args.item.expander c.args.item.helpers.now
      done passed rest _ _ _ c.requires.enabled (rw (c.macro_loc-loc.ensures.value) refl) (rw (c.macro_node-node.ensures.value) refl)
      (rw (c.macro_loc-loc.ensures.value) refl)
      (rw (c.in_ok-define_textual.ensures.ok, c.in_ok-describe.ensures.ok, c.in_ok-define_macro.ensures.ok, c.in_ok-clone.ensures.value) refl)
      c.in_ok-export.ensures.ok c.in_ok-report.ensures.ok c.in_ok-tick.ensures.ok;
}

pub returns-clause-noted : goal.returns-clause-noted
returns-clause-noted c =
    noted_follow c.in_ok-define_macro.ensures.noted
    (noted_follow c.in_ok-describe.ensures.noted
    (noted_follow c.in_ok-define_textual.ensures.noted
    (noted_follow c.in_ok-export.ensures.noted (noted_follow c.in_ok-report.ensures.noted c.in_ok-tick.ensures.noted))))
