-- The text of one more is asked for in each turn.
use Rattle.std.proofs.Common.{◌≤◌, ◌+◌, List, None, drop, length, subst}
use Rattle.std.proofs.lemmas.List.{drop_all, drop_more}
use Rattle.hir_collector_state.specs.HirIds.declared.macro_kind.MacroId.{MacroId}
use Rattle.hir_collector_state.specs.HirCollectorRules.State.{Core, core_in}
use Rattle.hir_collector_state.proofs.Noted.{noted_follow, noted_itself}
use Rattle.hir_call_expansion.proofs.Texts.{AsksLeft, asks_all, asks_none, asks_one}
use Rattle.hir_call_expansion.proofs.expansion.ask_texts.Goals as goal

pub loop-makro-init : goal.loop-makro-init
loop-makro-init c = record { asked = asks_none c.args.macros.now (core_in c.args.run.now); noted = noted_itself c.args.run.now }

pub loop-makro-preserved : goal.loop-makro-preserved
loop-makro-preserved c =
    let macros : List MacroId = c.args.macros.now in
    let left : List MacroId = drop (c.loop-makro.makro-index + 1) macros in
    let old : Core = core_in c.args.run.now in
    let now : Core = core_in c.loop-makro.run in
    record {
      asked = asks_one _ left macros old now (core_in c.ask_text.new.run) (c.in_ok-ask_text.ensures.ok None)
          (subst (λ (ms : List MacroId). AsksLeft ms macros old now) (drop_more macros c.loop-makro.makro-index _ c.loop-makro-test.true)
          c.loop-makro.invariant.asked);
      noted = noted_follow c.loop-makro.invariant.noted c.in_ok-ask_text.ensures.noted;
    }

pub returns-clause-ok : goal.returns-clause-ok
returns-clause-ok c =
    let macros : List MacroId = c.args.macros.now in
    let over : length macros ≤ c.loop-makro.makro-index = c.loop-makro-test.false in
    asks_all macros (core_in c.args.run.now) (core_in c.loop-makro.run)
    (subst (λ (left : List MacroId). AsksLeft left macros (core_in c.args.run.now) (core_in c.loop-makro.run)) (drop_all c.loop-makro.makro-index macros over)
    c.loop-makro.invariant.asked)

pub returns-clause-noted : goal.returns-clause-noted
returns-clause-noted c = c.loop-makro.invariant.noted
