-- One place after another, up to the first where an attribute waits.
use Rattle.std.proofs.Common.{◌<◌, ◌≤◌, length, arith}
use Rattle.hir_collector_state.specs.HirCollectorRules.State.{core_in}
use Rattle.hir_macro_calls.proofs.GivingUp.{none_waits_anywhere, none_waits_past}
use Rattle.hir_macro_calls.proofs.waiting.first_waiting.Goals as goal

pub places-preserved : goal.places-preserved
places-preserved c =
    let there : c.places.i < length (core_in c.args.run.now).calls = omega (arith, c.places-test.true, c.call_count.ensures.value) in
    none_waits_past (core_in c.args.run.now) c.places.i c.places.invariant there (c.is_attribute_waiting.ensures.none c.if-is_attribute_waiting.false)

pub returns-then-is_attribute_waiting-clause-found : goal.returns-then-is_attribute_waiting-clause-found
returns-then-is_attribute_waiting-clause-found c =
    record { waits = c.is_attribute_waiting.ensures.waits c.if-is_attribute_waiting.true; first = c.places.invariant }

pub returns-clause-none : goal.returns-clause-none
returns-clause-none c = λ gone.
    let over : length (core_in c.args.run.now).calls ≤ c.places.i = omega (arith, c.places-test.false, c.call_count.ensures.value) in
    none_waits_anywhere (core_in c.args.run.now) c.places.i c.places.invariant over
