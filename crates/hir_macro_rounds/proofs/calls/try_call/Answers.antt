-- What waits at a place is handled, or left to wait where nothing is to be done about it.
use Rattle.std.proofs.Common.{◌≡◌, ◌<◌, None, Some, false, refl, slice_get, subst, sym, true}
use Rattle.hir_mod_collector.specs.HirIds.declared.macro_kind.MacroId.{MacroId}
use Rattle.hir_mod_collector.specs.HirNameres.WorldParts.{part_of}
use Rattle.hir_macro_calls.specs.declared.due.Due.{Due}
use Rattle.hir_macro_calls.specs.declared.due.Due.TheVariants.{Nothing, Reaches}
use Rattle.hir_mod_collector.specs.HirCollectorRules.declared.macro_directive.MacroDirective.{MacroDirective}
use Rattle.hir_mod_collector.specs.HirCollectorRules.CallMoves.{left}
use Rattle.hir_macro_calls.specs.Due.{IsDueOf}
use Rattle.hir_mod_collector.specs.HirCollectorRules.State.{Core, at_rest, core_in}
use Rattle.hir_mod_collector.specs.HirCollectorRules.Steps.{IsDue, none}
use Rattle.hir_macro_calls.proofs.GivingUp.{nothing_due, nothing_waits}
use Rattle.hir_macro_calls.proofs.Meeting.{meets_none}
use Rattle.hir_mod_collector.proofs.HirCollectorState.Noted.{noted_beside, noted_itself}
use Rattle.hir_macro_rounds.proofs.calls.try_call.Goals as goal

-- nothing waits at the place
pub returns-in_default-clause-ok : goal.returns-in_default-clause-ok
returns-in_default-clause-ok g c = λ grown k. none

pub returns-in_default-clause-tried : goal.returns-in_default-clause-tried
returns-in_default-clause-tried g c = left (meets_none _ _ refl) (nothing_waits (part_of c.args.world) (core_in c.args.run.now) c.args.i c.in_default.ensures.none)

-- nothing is to be done about what waits there
pub returns-in-Nothing-clause-ok : goal.returns-in-Nothing-clause-ok
returns-in-Nothing-clause-ok g c = λ grown k. none

pub returns-in-Nothing-clause-tried : goal.returns-in-Nothing-clause-tried
returns-in-Nothing-clause-tried g c =
    left (meets_none _ _ refl) (nothing_due (part_of c.args.world) (core_in c.args.run.now) c.args.i c.in-Some.call.now c.in-Some.ensures.waits
    (subst (IsDueOf (part_of c.args.world) (core_in c.args.run.now) c.args.i c.in-Some.call.now) c.in-Nothing.is c.due_of-due.ensures.value))

pub returns-in_default-clause-noted : goal.returns-in_default-clause-noted
returns-in_default-clause-noted g c = noted_beside (noted_itself c.args.run.now)

pub returns-in-Nothing-clause-noted : goal.returns-in-Nothing-clause-noted
returns-in-Nothing-clause-noted g c = noted_beside (noted_itself c.args.run.now)

-- something is: what was copied is what waits
pub do_due-requires-clause-waits : goal.do_due-requires-clause-waits
do_due-requires-clause-waits g c =
    let old : Core = core_in c.args.run.now in
    subst (λ (d : MacroDirective). IsDue (at_rest old) c.args.i d) (sym c.in_ok-call.ensures.value)
    (record { visited = refl; waiting = c.in-Some.ensures.waits; settled = c.requires.settled })

pub do_due-requires-clause-due : goal.do_due-requires-clause-due
do_due-requires-clause-due g c =
    subst (λ (d : MacroDirective). IsDueOf (part_of c.args.world) (core_in c.args.run.now) c.args.i d c.due_of-due.result) (sym c.in_ok-call.ensures.value)
    c.due_of-due.ensures.value

pub do_due-requires-clause-below : goal.do_due-requires-clause-below
do_due-requires-clause-below g c =
    subst (λ (d : MacroDirective). (makro : MacroId) → c.due_of-due.result ≡ Reaches makro → d.site.level < 4294967295) (sym c.in_ok-call.ensures.value)
    c.due_of-due.ensures.below
