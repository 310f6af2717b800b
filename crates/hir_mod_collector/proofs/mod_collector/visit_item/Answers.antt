-- The item is handled, and what it binds goes along globs.
use Rattle.std.proofs.Common.{rules, ℕ, sym, subst}
use Rattle.hir_collector_state.specs.HirItemTree.Kinds.{kind_content}
use Rattle.hir_collector_state.specs.HirItemTree.Rows.{held_numbers}
use Rattle.hir_collector_state.specs.HirCollectorRules.Keys.{environment}
use Rattle.hir_mod_resolution.specs.Walking.{GoesInside}
use Rattle.hir_collector_state.proofs.HirCollectorRules.Moves.{Steps-first, Steps-one, spent_after}
use Rattle.hir_collector_state.proofs.Noted.{beside_follow, noted_beside}
use Rattle.hir_mod_collector.proofs.mod_collector.visit_item.Goals as goal

pub returns-in_err-inside-clause-many : goal.returns-in_err-inside-clause-many
returns-in_err-inside-clause-many g c = λ h. c.in_err-inside.ensures.many (search rules)

pub returns-in_err-spread_changes-clause-many : goal.returns-in_err-spread_changes-clause-many
returns-in_err-spread_changes-clause-many g c = λ h grown k items. record {
  spent = λ done passed rest.
      spent_after (Steps-one ((c.in_ok-inside.ensures.ok grown k items).step done passed rest))
      (c.in_err-spread_changes.ensures.many (search rules) (environment grown (g.D.SourceDatabase.workspace c.args.db.now)) _);
}

pub returns-clause-ok : goal.returns-clause-ok
returns-clause-ok g c = λ grown k items. record {
  steps = λ done passed rest.
      Steps-first ((c.in_ok-inside.ensures.ok grown k items).step done passed rest)
      (c.in_ok-spread_changes.ensures.ok (environment grown (g.D.SourceDatabase.workspace c.args.db.now)) _);
}

pub returns-clause-noted : goal.returns-clause-noted
returns-clause-noted g c = beside_follow (noted_beside c.in_ok-inside.ensures.noted) c.in_ok-spread_changes.ensures.noted

pub returns-clause-within : goal.returns-clause-within
returns-clause-within g c =
    subst (λ (n : ℕ). GoesInside c.handle_item.new.locations n c.args.site.now (held_numbers (kind_content c.args.item)) c.in_ok-inside.inside)
    (sym c.in_ok-spread_changes.ensures.modules) c.in_ok-inside.ensures.within
