-- Where no attribute waits nothing changes; the other ways out aren't taken, since an attribute that waits has an item.
use Rattle.std.proofs.Common.{arith, rules, ◌≡◌, ◌∙◌, None, Some, ap, refl, subst, sym}
use Rattle.hir_mod_collector.specs.HirCollectorRules.declared.macro_directive.MacroDirective.{MacroDirective}
use Rattle.hir_mod_collector.specs.HirCollectorRules.CallMoves.{IsAttributeWaiting}
use Rattle.hir_mod_collector.specs.HirCollectorRules.Calls.{IsWaiting, waiting_item}
use Rattle.hir_mod_collector.specs.HirCollectorRules.State.{Core, at_rest, core_in}
use Rattle.hir_mod_collector.specs.HirCollectorRules.Steps.{none}
use Rattle.hir_macro_calls.proofs.GivingUp.{has_item}
use Rattle.hir_mod_collector.proofs.HirCollectorState.Noted.{noted_beside, noted_itself}
use Rattle.hir_macro_rounds.proofs.resume.give_up.Goals as goal

pub returns-in_default-clause-ok : goal.returns-in_default-clause-ok
returns-in_default-clause-ok g c = λ grown k. none

pub returns-in_default-clause-noted : goal.returns-in_default-clause-noted
returns-in_default-clause-noted g c = noted_beside (noted_itself c.args.run.now)

pub returns-in_default-clause-given : goal.returns-in_default-clause-given
returns-in_default-clause-given g c = (refl, c.in_default.ensures.none refl)

pub returns-in_default-waiting-clause-ok : goal.returns-in_default-waiting-clause-ok
returns-in_default-waiting-clause-ok g c = λ grown k. none

pub returns-in_default-waiting-clause-noted : goal.returns-in_default-waiting-clause-noted
returns-in_default-waiting-clause-noted g c = noted_beside (noted_itself c.args.run.now)

pub returns-in_default-waiting-clause-given : goal.returns-in_default-waiting-clause-given
returns-in_default-waiting-clause-given g c =
    let first : IsAttributeWaiting (core_in c.args.run.now) c.in-Some.i = c.in-Some.ensures.found.waits in
    absurd (c.in_default-waiting.ensures.none first.call first.waits)

pub returns-in_default-waiting_item-clause-ok : goal.returns-in_default-waiting_item-clause-ok
returns-in_default-waiting_item-clause-ok g c = λ grown k. none

pub returns-in_default-waiting_item-clause-noted : goal.returns-in_default-waiting_item-clause-noted
returns-in_default-waiting_item-clause-noted g c = noted_beside (noted_itself c.args.run.now)

pub returns-in_default-waiting_item-clause-given : goal.returns-in_default-waiting_item-clause-given
returns-in_default-waiting_item-clause-given g c =
    absurd (has_item (core_in c.args.run.now) c.in-Some.i c.in-Some-waiting.call.now c.in-Some.ensures.found c.in-Some-waiting.ensures.waits
    (ap waiting_item (sym c.in_ok-call.ensures.value) ∙ sym c.in_default-waiting_item.ensures.value))

pub give_up_at-requires-clause-waits : goal.give_up_at-requires-clause-waits
give_up_at-requires-clause-waits g c =
    subst (IsWaiting (at_rest (core_in c.args.run.now)) c.in-Some.i) (sym c.in_ok-call.ensures.value) c.in-Some-waiting.ensures.waits

pub give_up_at-requires-clause-of : goal.give_up_at-requires-clause-of
give_up_at-requires-clause-of g c = sym c.in-Some-waiting_item.ensures.value

-- there are no more places than have numbers
pub overflow_add-result : goal.overflow_add-result
overflow_add-result g c = omega (arith, c.in-Some.ensures.below)

-- that took a step
pub returns-clause-given : goal.returns-clause-given
returns-clause-given g c = (c.in_ok-give_up_at.ensures.counts, c.in_ok-give_up_at.ensures.before)
